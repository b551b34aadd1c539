-- The names that were looked up.
use Rattle.std.proofs.Common.{◌≡◌, map, take}
use Rattle.design_checks.proofs.Common.{flat_map, Context, view_use, Knows, first_refused, uses_used}
use Rattle.design_checks.proofs.uses.first_of_uses.Given as goal

abbrev pub invariant-loop-used : goal.invariant-loop-used
invariant-loop-used l = (d : Context) → Knows d l.names → l.first ≡ first_refused l.names.rule d (flat_map (uses_used d.known) (map view_use (take l.used-index l.uses)))
