-- Bytes for a GAL22V10 may be a file with one fuse more; all others are refused as they are.
use Rattle.form_commands.proofs.Refused.{no_dump, unreadable}
use Rattle.form_commands.specs.Prelude.{gal22v10}
use Rattle.form_commands.proofs.taking.longer_or_refused.Goals as goal

pub longer_dump-requires : goal.longer_dump-requires
longer_dump-requires c = unreadable gal22v10 c.args.bytes.now c.args.line.items c.requires.unread

pub returns-in-None : goal.returns-in-None
returns-in-None c = no_dump gal22v10 c.args.mends c.args.bytes.now c.args.line.items c.requires.text c.requires.unread
