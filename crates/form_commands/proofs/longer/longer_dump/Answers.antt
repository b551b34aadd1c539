-- The file of an ATF22V10C is looked at without its last fuse.
use Rattle.form_commands.proofs.longer.longer_dump.Goals as goal

pub returns-in_ok-shorter_dump-in-Some : goal.returns-in_ok-shorter_dump-in-Some
returns-in_ok-shorter_dump-in-Some c =
    let found = rw c.in-Some.is at c.in_ok-found.ensures in
    c.in_ok-shorter_dump-in-Some.ensures c.args.mends c.args.bytes.now (record { bad = c.requires; made = found.0 })
