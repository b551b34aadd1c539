-- Runs of rows, four at a turn.
use Rattle.std.proofs.Common.{◌≡◌, ℕ, ◌+◌, ◌<◌, ◌≤◌, Bool, false, sym, ◌∙◌}
use Rattle.device_logic.proofs.Common.{list_any, range_with_len, false_from_ne_true, true≢false}
use Rattle.device_logic.proofs.Runs.{any_at}

-- if none of a run passes, no one of it does
pub none_at : (test : ℕ → Bool) (first count k : ℕ) → list_any test (range_with_len first count) ≡ false → first ≤ k → k < first + count → test k ≡ false
none_at test first count k none low high = false_from_ne_true (test k) (λ is. true≢false (sym (any_at test first count k low high is) ∙ none))
