-- The first place from the front, and whether there is one.
use Rattle.std.proofs.Common.{◌≡◌, ℕ, ◌+◌, ◌<◌, ◌≤◌, Bool, true, false, ◌||◌, cond, List, length, get_or, drop, Some, None, sym, ap, ◌∙◌, add-one, position}
use Rattle.pld_device.proofs.Common.{list_any, position_from, drop-cons, drop_all}
use Rattle.std.proofs.lemmas.Iterator.Adapters.{position_from-zero}

module _ {X : Type 0} (p : X → Bool) (y : X) (xs : List X) where
  pub place_first : position p xs ≡ position_from p 0 (drop 0 xs)
  place_first = position_from-zero p xs

  from_here : (k : ℕ) → k < length xs → position_from p k (drop k xs) ≡ cond (p (get_or xs k y)) (Some k) (position_from p (k + 1) (drop (k + 1) xs))
  from_here k within =
      ap (λ ys. position_from p k ys) (drop-cons xs k y within)
      ∙ ap (λ n. cond (p (get_or xs k y)) (Some k) (position_from p (k + 1) (drop n xs))) (sym (add-one k))

  -- it is this one
  pub place_here : (k : ℕ) → k < length xs → p (get_or xs k y) ≡ true → position_from p k (drop k xs) ≡ Some k
  place_here k within hit = from_here k within ∙ ap (λ b. cond b (Some k) (position_from p (k + 1) (drop (k + 1) xs))) hit

  -- it is a later one
  pub place_later : (k : ℕ) → k < length xs → p (get_or xs k y) ≡ false → position_from p k (drop k xs) ≡ position_from p (k + 1) (drop (k + 1) xs)
  place_later k within miss = from_here k within ∙ ap (λ b. cond b (Some k) (position_from p (k + 1) (drop (k + 1) xs))) miss

  -- there isn't one
  pub place_none : (k : ℕ) → length xs ≤ k → position_from p k (drop k xs) ≡ None
  place_none k past = ap (λ ys. position_from p k ys) (drop_all k xs past)

  pub any_here : (k : ℕ) → k < length xs → list_any p (drop k xs) ≡ (p (get_or xs k y) || list_any p (drop (k + 1) xs))
  any_here k within = ap (λ ys. list_any p ys) (drop-cons xs k y within) ∙ ap (λ n. p (get_or xs k y) || list_any p (drop n xs)) (sym (add-one k))

  pub any_none : (k : ℕ) → length xs ≤ k → list_any p (drop k xs) ≡ false
  any_none k past = ap (λ ys. list_any p ys) (drop_all k xs past)
