-- The numbers so far.
use Rattle.std.proofs.Common.{◌≡◌, get_or, map, take}
use Rattle.placer.proofs.placing.numbers_at.Given as goal

abbrev pub invariant-loop-place : goal.invariant-loop-place
invariant-loop-place l = l.numbers.items ≡ map (λ k. get_or l.signals k 0) (take l.place-index l.places)
