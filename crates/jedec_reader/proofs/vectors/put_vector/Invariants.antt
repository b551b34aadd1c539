use Rattle.std.proofs.Common.{◌≡◌, ℕ, ◌+◌, ◌-◌, ◌≤◌, ◌^◌, length, get_or, None}
use Rattle.jedec_reader.proofs.vectors.put_vector.Given as goal

abbrev pub invariant-loop-table : goal.invariant-loop-table
invariant-loop-table l = record {
  numbers : length l.table.items ≤ 2 ^ 16;
  entries : (n : ℕ) → get_or l.table.items n None ≡ get_or l.initial.table.items n None;
}

abbrev pub decreases-loop-table : goal.decreases-loop-table
decreases-loop-table l = l.place + 1 - length l.table.items
