-- What the parts so far give.
use Rattle.std.proofs.Common.{map, take}
use Rattle.declared_names.proofs.Common.{flat_map, AreMarked, part_gives, view_part}
use Rattle.declared_names.proofs.numbers.FirstNames.mark_parts.Given as goal

abbrev pub invariant-loop-part : goal.invariant-loop-part
invariant-loop-part l = AreMarked l.self l.fn.marks.items l.marks.items (λ of. flat_map (part_gives l.follow of) (map view_part (take l.part-index l.parts)))
