use Rattle.std.proofs.Common.{◌≡◌, ◌+◌, ◌<◌, ℕ, true}
use Rattle.jedec_reader.proofs.Common.{is_among}
use Rattle.jedec_reader.proofs.entries.all_among.Given as goal

abbrev pub invariant-loop-before : goal.invariant-loop-before
invariant-loop-before l = (k : ℕ) → k < l.before → is_among l.order (k + 1) ≡ true
