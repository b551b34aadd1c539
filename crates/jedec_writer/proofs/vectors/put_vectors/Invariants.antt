use Rattle.std.proofs.Common.{◌≡◌, ◌+◌, ◌++◌, drop, take, All}
use Rattle.jedec_writer.proofs.Common.{vector_lines, all_chars, HasPlaces}
use Rattle.jedec_writer.proofs.vectors.put_vectors.Given as goal

abbrev pub invariant-loop-index : goal.invariant-loop-index
invariant-loop-index g l =
    (l.out.items ++ vector_lines (l.index + 1) (all_chars g.D.Device.table (drop l.index l.vectors))
    ≡ l.initial.out.items ++ vector_lines 1 (all_chars g.D.Device.table l.vectors))
    × All HasPlaces (take l.index l.vectors)
