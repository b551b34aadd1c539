-- Wishes cut short, and wishes if the first signals have pins already.
use Rattle.std.proofs.Common.{◌≡◌, ℕ, ◌-◌, ◌<◌, ◌≤◌, Bool, true, false, ◌||◌, eqb, List, [], ◌∷◌, length, get_or, take, drop, map, refl, ap, sym, ◌∙◌, arith, length-append, length-drop}
use Rattle.pin_matching.proofs.Common.{IsDistinct, get_or-map, get_or-take, get_or-drop, get_or_append_left, get_or-append_right, length-map, length-take, has, wish_of, fits, IsAssignment, narrowed}
use Rattle.pin_matching.proofs.Lists.{once_by_places, same_place}

pub wish_front : (wishes : List (List ℕ)) (n s : ℕ) → s < n → wish_of (take n wishes) s ≡ wish_of wishes s
wish_front wishes n s low = get_or-take n wishes s [] low

pub fits_front : (wishes : List (List ℕ)) (n s p : ℕ) → s < n → fits (take n wishes) s p ≡ fits wishes s p
fits_front wishes n s p low = ap (λ xs. has xs p) (wish_front wishes n s low)

pub once_front : (xs : List ℕ) (n : ℕ) → IsDistinct eqb xs → IsDistinct eqb (take n xs)
once_front xs n once = once_by_places (take n xs) (λ i j i_in j_in same.
    let i_low : i < n = omega (arith, i_in, length-take n xs) in
    let j_low : j < n = omega (arith, j_in, length-take n xs) in
    same_place xs i j once (omega (arith, i_in, length-take n xs)) (omega (arith, j_in, length-take n xs)) (sym (get_or-take n xs i 0 i_low) ∙ (same ∙ get_or-take n xs j 0 j_low)))

-- the front of an assignment is one of the front
pub front : (wishes : List (List ℕ)) (pins : List ℕ) (n : ℕ) → IsAssignment wishes pins → IsAssignment (take n wishes) (take n pins)
front wishes pins n is = record {
  each = let each = is.each in omega (arith, each, length-take n wishes, length-take n pins);
  fit = λ s low.
      let s_low : s < n = omega (arith, low, length-take n wishes) in
      let s_in : s < length wishes = omega (arith, low, length-take n wishes) in
      rw (fits_front wishes n s (get_or (take n pins) s 0) s_low, get_or-take n pins s 0 s_low) (is.fit s s_in);
  once = once_front pins n is.once;
}

-- no signal needs no pin
pub placed_none : (wishes : List (List ℕ)) → IsAssignment (take 0 wishes) []
unfolding IsDistinct
placed_none wishes = record { each = refl; fit = λ s low. absurd (omega (arith, low)); once = tt }

module _ (wishes : List (List ℕ)) (fixed : List ℕ) (within : length fixed ≤ length wishes) where
  pub length_narrowed : length (narrowed wishes fixed) ≡ length wishes
  length_narrowed = omega (arith, within, length-append (map (λ p. p ∷ []) fixed) (drop (length fixed) wishes), length-map fixed (λ p. p ∷ []), length-drop (length fixed) wishes)

  pub wish_fixed : (s : ℕ) → s < length fixed → wish_of (narrowed wishes fixed) s ≡ get_or fixed s 0 ∷ []
  wish_fixed s low =
      get_or_append_left (map (λ p. p ∷ []) fixed) (drop (length fixed) wishes) [] s (omega (arith, low, length-map fixed (λ p. p ∷ [])))
      ∙ get_or-map (λ p. p ∷ []) fixed s 0 [] low

  pub wish_later : (s : ℕ) → length fixed ≤ s → wish_of (narrowed wishes fixed) s ≡ wish_of wishes s
  wish_later s low =
      get_or-append_right (map (λ p. p ∷ []) fixed) (drop (length fixed) wishes) (length fixed) s [] (length-map fixed (λ p. p ∷ [])) low
      ∙ (get_or-drop (length fixed) wishes (s - length fixed) [] ∙ ap (λ k. get_or wishes k []) (omega (arith, low)))

  pub fits_fixed : (s p : ℕ) → s < length fixed → fits (narrowed wishes fixed) s p ≡ eqb p (get_or fixed s 0)
  fits_fixed s p low = ap (λ xs. has xs p) (wish_fixed s low) ∙ alone (eqb p (get_or fixed s 0))
    where
      alone : (b : Bool) → (b || false) ≡ b
      alone true = refl
      alone false = refl

  pub fits_later : (s p : ℕ) → length fixed ≤ s → fits (narrowed wishes fixed) s p ≡ fits wishes s p
  fits_later s p low = ap (λ xs. has xs p) (wish_later s low)
