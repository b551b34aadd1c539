-- The names at the places so far.
use Rattle.std.proofs.Common.{◌≡◌, ◌++◌, map}
use Rattle.name_uses.proofs.Common.{decimal, range_with_len, number_at, name_items}
use Rattle.name_uses.proofs.ranges.names_with.Given as goal

abbrev pub invariant-loop-place : goal.invariant-loop-place
invariant-loop-place l = map name_items l.names.items ≡ map (λ k. l.stem ++ decimal (number_at l.first l.last k)) (range_with_len 0 l.place)
