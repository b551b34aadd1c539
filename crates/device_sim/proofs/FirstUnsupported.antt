-- The first character that isn't simulated, vector by vector.
use Rattle.std.proofs.Common.{◌≡◌, ℕ, ◌+◌, ◌<◌, None, Some, List, ◌∷◌, length, get_or, drop, refl, ap, sym, add-one, position, drop-cons}
use Rattle.device_sim.proofs.Common.{Vector, is_unsupported, first_unsupported, chars_at, all_chars_at}

module _ (pins : ℕ) (vectors : List Vector) (i : ℕ) (v : Vector) (within : i < length vectors) where
  -- the first of the vectors from i on
  rest_is : all_chars_at pins (drop i vectors) ≡ chars_at pins (get_or vectors i v) ∷ all_chars_at pins (drop (i + 1) vectors)
  rest_is = rw (add-one i, drop-cons vectors i v within) refl

  -- a vector that has one, at this place
  pub found_first : (number place : ℕ) → position is_unsupported (chars_at pins (get_or vectors i v)) ≡ Some place → first_unsupported number (all_chars_at pins (drop i vectors)) ≡ Some (number, place + 1)
  found_first number place is = rw (rest_is, is) (ap (λ p. Some (number, p)) (sym (add-one place)))

  -- a vector that has none
  pub found_later : (number : ℕ) → position is_unsupported (chars_at pins (get_or vectors i v)) ≡ None → first_unsupported number (all_chars_at pins (drop i vectors)) ≡ first_unsupported (number + 1) (all_chars_at pins (drop (i + 1) vectors))
  found_later number is = rw (rest_is, is, add-one number) refl
