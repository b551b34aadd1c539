-- Tests of what is seen of a list, and of a part of the list outside of which nothing passes.
use Rattle.std.proofs.Common.{◌≡◌, Bool, true, false, ◌&&◌, ◌||◌, cond, List, [], ◌∷◌, map, Some, refl, sym, ◌∙◌, ap, inl, inr, filter, find}
use Rattle.gathering.proofs.Common.{list_any, list_all, cases_Bool}

module _ {X Y : Type 0} (f : X → Y) (p : Y → Bool) where
  pub any_map : (xs : List X) → list_any p (map f xs) ≡ list_any (λ x. p (f x)) xs
  any_map [] = refl
  any_map (x ∷ xs) = ap (λ b. p (f x) || b) (any_map xs)

-- what a part says says the whole list, step by step, if no step changes anything at what isn't in the part
module _ {X Z : Type 0} (own : X → Bool) (say : List X → Z) (step : X → Z → Z) (each : (x : X) (xs : List X) → say (x ∷ xs) ≡ step x (say xs)) (none : (x : X) (z : Z) → own x ≡ false → step x z ≡ z) where
  pub own_says : (xs : List X) → say (filter own xs) ≡ say xs
  own_says [] = refl
  own_says (x ∷ xs) =
      elim (cases_Bool (own x)) [
        | inl hit ↦ rw hit (each x (filter own xs) ∙ ap (step x) (own_says xs) ∙ sym (each x xs))
        | inr miss ↦ rw miss (own_says xs ∙ sym (none x (say xs) miss) ∙ sym (each x xs))
      ]

module _ {X Y : Type 0} (f : X → Y) (p : Y → Bool) (own : X → Bool) where
  pub filter_own : ((x : X) → own x ≡ false → p (f x) ≡ false) → (xs : List X) → filter p (map f (filter own xs)) ≡ filter p (map f xs)
  filter_own none = own_says own (λ xs. filter p (map f xs)) (λ x ys. cond (p (f x)) (f x ∷ ys) ys) (λ x xs. refl) (λ x ys miss. rw (none x miss) refl)

  pub any_own : ((x : X) → own x ≡ false → p (f x) ≡ false) → (xs : List X) → list_any p (map f (filter own xs)) ≡ list_any p (map f xs)
  any_own none = own_says own (λ xs. list_any p (map f xs)) (λ x b. p (f x) || b) (λ x xs. refl) (λ x b miss. rw (none x miss) refl)

  pub all_own : ((x : X) → own x ≡ false → p (f x) ≡ true) → (xs : List X) → list_all p (map f (filter own xs)) ≡ list_all p (map f xs)
  all_own all = own_says own (λ xs. list_all p (map f xs)) (λ x b. p (f x) && b) (λ x xs. refl) (λ x b miss. rw (all x miss) refl)

pub find_own : {X : Type 0} (p own : X → Bool) → ((x : X) → own x ≡ false → p x ≡ false) → (xs : List X) → find p (filter own xs) ≡ find p xs
find_own p own none = own_says own (λ xs. find p xs) (λ x o. cond (p x) (Some x) o) (λ x xs. refl) (λ x o miss. rw (none x miss) refl)
