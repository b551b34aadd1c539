-- The parts of those so far follow what was there.
use Rattle.std.proofs.Common.{◌≡◌, ◌++◌, map, take}
use Rattle.name_uses.proofs.Common.{flat_map, view_vector_row, parts_in_row, view_part}
use Rattle.name_uses.proofs.sections.put_vector_rows.Given as goal

abbrev pub invariant-loop-row : goal.invariant-loop-row
invariant-loop-row l = map view_part l.parts.items ≡ map view_part l.fn.parts.items ++ flat_map parts_in_row (map view_vector_row (take l.row-index l.rows))
