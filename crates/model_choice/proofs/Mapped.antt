-- Tests of a list whose elements are seen as something else.
use Rattle.std.proofs.Common.{◌≡◌, ℕ, suc, ◌+◌, Bool, true, false, ◌||◌, Some, List, [], ◌∷◌, length, map, if◌then◌else◌, filter, position, refl, sym, ap, ◌∙◌}
use Rattle.std.proofs.lemmas.Iterator.Adapters.{position_from-zero}
use Rattle.std.specs.List.{list_any, position_from}

-- one element more, which passes a test or doesn't
one_more : {X Y : Type 0} (p : Y → Bool) (y : Y) (q : X → Bool) (x : X) (ys : List Y) (xs : List X) → p y ≡ q x → length (filter p ys) ≡ length (filter q xs)
    → length (filter p (y ∷ ys)) ≡ length (filter q (x ∷ xs))
one_more p y q x ys xs same rest = by (q x) refl
  where
    by : (b : Bool) → q x ≡ b → length (filter p (y ∷ ys)) ≡ length (filter q (x ∷ xs))
    by true is = rw (same ∙ is, is) (ap (λ n. suc n) rest)
    by false is = rw (same ∙ is, is) rest

module _ {X Y : Type 0} (p : Y → Bool) (f : X → Y) where
  pub any_mapped : (xs : List X) → list_any p (map f xs) ≡ list_any (λ x. p (f x)) xs
  any_mapped [] = refl
  any_mapped (x ∷ xs) = ap (λ b. p (f x) || b) (any_mapped xs)

  pub count_mapped : (xs : List X) → length (filter p (map f xs)) ≡ length (filter (λ x. p (f x)) xs)
  count_mapped [] = refl
  count_mapped (x ∷ xs) = one_more p (f x) (λ x. p (f x)) x (map f xs) xs refl (count_mapped xs)

  from_mapped : (i : ℕ) (xs : List X) → position_from p i (map f xs) ≡ position_from (λ x. p (f x)) i xs
  from_mapped i [] = refl
  from_mapped i (x ∷ xs) = ap (λ o. if p (f x) then Some i else o) (from_mapped (i + 1) xs)

  pub position_mapped : (xs : List X) → position p (map f xs) ≡ position (λ x. p (f x)) xs
  position_mapped xs = position_from-zero p (map f xs) ∙ (from_mapped 0 xs ∙ sym (position_from-zero (λ x. p (f x)) xs))
