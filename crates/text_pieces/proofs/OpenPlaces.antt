-- What is open, if a byte is passed: it stays open, something begins after it, or the innermost ends.
use Rattle.std.proofs.Common.{◌≡◌, ℕ, suc, ◌+◌, List, [], ◌∷◌, ◌++◌, length, Option, ap, ◌∙◌, arith, length-append}
use Rattle.text_pieces.proofs.Common.{Opened}

module _ (from here next : ℕ → Option (List ℕ)) where
  pub stays : (ps : List ℕ) → ((j : ℕ) → here j ≡ next j) → Opened from here ps → Opened from next ps
  stays [] step o = tt
  stays (p ∷ ps) step o = (o.0 ∙ step (length ps), stays ps step o.1)

  pub begins : (ps : List ℕ) (q : ℕ) → ((j : ℕ) → here j ≡ next (suc j)) → from q ≡ next 0 → Opened from here ps → Opened from next (ps ++ q ∷ [])
  begins [] q step new o = (new, tt)
  begins (p ∷ ps) q step new o =
      let n : suc (length ps) ≡ length (ps ++ q ∷ []) = omega (arith, length-append ps (q ∷ [])) in
      (o.0 ∙ step (length ps) ∙ ap next n, begins ps q step new o.1)

  pub ended : (ps : List ℕ) (p : ℕ) → ((j : ℕ) → here (suc j) ≡ next j) → Opened from here (ps ++ p ∷ []) → Opened from next ps
  ended [] p step o = tt
  ended (q ∷ ps) p step o =
      let n : length (ps ++ p ∷ []) ≡ suc (length ps) = omega (arith, length-append ps (p ∷ [])) in
      (o.0 ∙ ap here n ∙ step (length ps), ended ps p step o.1)

  -- the innermost ends if a byte ends what has nothing open in it
  pub innermost : (ps : List ℕ) (p : ℕ) → Opened from here (ps ++ p ∷ []) → from p ≡ here 0
  innermost [] p o = o.0
  innermost (q ∷ ps) p o = innermost ps p o.1
