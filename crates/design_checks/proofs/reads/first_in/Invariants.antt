-- The names that were looked up.
use Rattle.std.proofs.Common.{◌≡◌, map, take}
use Rattle.design_checks.proofs.Common.{flat_map, Context, view_use, Knows, first_read, reads_used}
use Rattle.design_checks.proofs.reads.first_in.Given as goal

abbrev pub invariant-loop-used : goal.invariant-loop-used
invariant-loop-used l =
    (d : Context) → Knows d l.names → l.first ≡ first_read l.names.rule d (flat_map (reads_used d.known l.extension) (map view_use (take l.used-index l.uses)))
