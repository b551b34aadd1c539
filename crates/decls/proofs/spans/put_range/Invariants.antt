-- The numbers so far.
use Rattle.std.proofs.Common.{◌≡◌, ◌++◌, map}
use Rattle.decls.proofs.Common.{range_with_len, number_at}
use Rattle.decls.proofs.spans.put_range.Given as goal

abbrev pub invariant-loop-step : goal.invariant-loop-step
invariant-loop-step l = l.numbers.items ≡ l.fn.numbers.items ++ map (λ k. number_at l.first l.last k) (range_with_len 0 l.step)
