-- The file is that of the repaired text; without one the bytes are refused as they are.
use Rattle.form_commands.proofs.Refused.{unreadable}
use Rattle.form_commands.proofs.taking.unread_dump.Goals as goal

pub returns-in-Some : goal.returns-in-Some
returns-in-Some g c =
    let repaired = rw c.in-Some.is at c.in_ok-repaired.ensures in
    c.in_mode.ensures c.args.mends c.args.bytes.now (record { bad = unreadable _ _ _ c.requires.unread; made = repaired.0 })
