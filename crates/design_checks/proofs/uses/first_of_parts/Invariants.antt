-- The parts so far.
use Rattle.std.proofs.Common.{◌≡◌, map, take}
use Rattle.design_checks.proofs.Common.{flat_map, Context, view_part, Knows, first_refused, part_uses}
use Rattle.design_checks.proofs.uses.first_of_parts.Given as goal

abbrev pub invariant-loop-part : goal.invariant-loop-part
invariant-loop-part l = (d : Context) → Knows d l.names → l.first ≡ first_refused l.names.rule d (flat_map (part_uses d) (map view_part (take l.part-index l.parts)))
