-- The lists of a device, one entry after the other.
use Rattle.std.proofs.Common.{◌≡◌, ◌<◌, ◌≤◌, ℕ, ◌+◌, Some, None, List, [], ◌∷◌, ◌++◌, length, map, take, slice_get, sym, ap, ◌∙◌, arith}
use Rattle.std.proofs.lemmas.List.{take_all, take_more}
use Rattle.std.proofs.lemmas.List.FromFn.{get_or-map-range_with_len, length-map-range_with_len}
use Rattle.std.proofs.lemmas.Option.{slice_get-get_or, slice_get_cases, slice_get_within}
use Rattle.pld_device.proofs.Common.{get_or_from_slice_get, range_with_len}

module _ {X : Type 0} where
  pub one_more : (items xs : List X) (i : ℕ) (x : X) → items ≡ take i xs → slice_get xs i ≡ Some x → items ++ x ∷ [] ≡ take (i + 1) xs
  one_more items xs i x far found =
      ap (λ l. l ++ x ∷ []) far
      ∙ ap (λ y. take i xs ++ y ∷ []) (sym (get_or_from_slice_get xs i x x found))
      ∙ sym (take_more xs i x (slice_get_within xs i x found))

  past_end : (xs : List X) (i : ℕ) → slice_get xs i ≡ None → length xs ≤ i
  past_end xs i none = grind (arith, none, slice_get_cases xs i)

  pub ended : (xs : List X) (i : ℕ) → slice_get xs i ≡ None → take i xs ≡ xs
  ended xs i none = take_all i xs (past_end xs i none)

  -- the entry of a number, in a list of what a function gives
  pub given_at : (f : ℕ → X) (n i : ℕ) (x : X) → i < n → x ≡ f i → slice_get (map f (range_with_len 0 n)) i ≡ Some x
  given_at f n i x within is =
      slice_get-get_or (map f (range_with_len 0 n)) i x (omega (arith, within, length-map-range_with_len f 0 n))
      ∙ ap Some (get_or-map-range_with_len f 0 n i i x within (omega arith) ∙ sym is)
