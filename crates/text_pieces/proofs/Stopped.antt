-- Stretches in which no stop is.
use Rattle.std.proofs.Common.{◌≡◌, ℕ, suc, ◌+◌, ◌-◌, ◌<◌, ◌≤◌, Bool, false, List, ◌∷◌, length, take, drop, get_or, ap, ◌∙◌, arith, if◌then◌else◌}
use Rattle.text_pieces.proofs.Common.{count_by, take-take, FreeOf}
use Rattle.std.proofs.lemmas.List.Sums.{sum_by-cons, sum_by-take-le}
use Rattle.text_pieces.proofs.BlockSteps.{front}

module _ (is : ℕ → Bool) where
  -- a shorter stretch
  pub fewer : (w : List ℕ) (n k : ℕ) → n ≤ k → count_by is (take k w) ≡ 0 → count_by is (take n w) ≡ 0
  fewer w n k h e =
      let t = sum_by-take-le (λ b. if is b then 1 else 0) (take k w) n in
      let s : count_by is (take n (take k w)) ≡ count_by is (take n w) = ap (count_by is) (take-take n k w h) in
      omega (arith, t, s, e)

  -- at a stop
  pub stop_here : (text : List ℕ) (at : ℕ) → at ≤ length text → FreeOf is text at at
  stop_here text at h = let z : at - at ≡ 0 = omega arith in (ap (λ (n : ℕ). count_by is (take n (drop at text))) z, h)

  -- a byte more, which isn't one
  pub stop_behind : (text : List ℕ) (at end : ℕ) → at < length text → is (get_or text at 0) ≡ false → at + 1 ≤ end → FreeOf is text (at + 1) end → FreeOf is text at end
  stop_behind text at end h e more o =
      let b = get_or text at 0 in
      let w = take (end - (at + 1)) (drop (at + 1) text) in
      let z : end - at ≡ suc (end - (at + 1)) = omega arith in
      let c : take (end - at) (drop at text) ≡ b ∷ w = ap (λ (k : ℕ). take k (drop at text)) z ∙ ap (take (suc (end - (at + 1)))) (front text at h) in
      let s : count_by is (b ∷ w) ≡ count_by is w = sum_by-cons (λ c. if is c then 1 else 0) b w ∙ ap (λ (t : Bool). (if t then 1 else 0) + count_by is w) e ∙ omega arith in
      (ap (count_by is) c ∙ s ∙ o.0, o.1)
