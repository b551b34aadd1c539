-- The names that were looked up.
use Rattle.std.proofs.Common.{◌≡◌, map, take}
use Rattle.design_checks.proofs.Common.{Context, name_items, Knows, first_read, names_read}
use Rattle.design_checks.proofs.reads.first_used.Given as goal

abbrev pub invariant-loop-name : goal.invariant-loop-name
invariant-loop-name l = (d : Context) → Knows d l.names → l.signal ≡ first_read l.names.rule d (names_read d.known l.extension (map name_items (take l.name-index l.name-items)))
