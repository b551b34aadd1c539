-- A list that is seen through a function: one entry more, tests of it, and past its end.
use Rattle.std.proofs.Common.{◌≡◌, ℕ, ◌+◌, ◌<◌, ◌≤◌, Bool, false, ◌||◌, List, [], ◌∷◌, ◌++◌, drop, length, map, take, get_or, refl, sym, ap, ◌∙◌, append_assoc}
use Rattle.placer.proofs.Common.{flat_map, list_any, append-nil, drop_all, map-append, take_more}

pub any_mapped : {X Y : Type 0} (p : Y → Bool) (f : X → Y) (xs : List X) → list_any p (map f xs) ≡ list_any (λ x. p (f x)) xs
any_mapped p f [] = refl
any_mapped p f (x ∷ xs) = ap (λ b. p (f x) || b) (any_mapped p f xs)

pub any_past : {X : Type 0} (p : X → Bool) (xs : List X) (k : ℕ) → length xs ≤ k → list_any p (drop k xs) ≡ false
any_past p xs k past = ap (λ ys. list_any p ys) (drop_all k xs past)

pub mapped_next : {X Y : Type 0} (f : X → Y) (xs : List X) (k : ℕ) (x : X) → k < length xs → map f (take (k + 1) xs) ≡ map f (take k xs) ++ f (get_or xs k x) ∷ []
mapped_next f xs k x low = ap (map f) (take_more xs k x low) ∙ map-append f (take k xs) (get_or xs k x ∷ [])

pub flat_push : {X Y : Type 0} (f : X → List Y) (xs : List X) (x : X) → flat_map f (xs ++ x ∷ []) ≡ flat_map f xs ++ f x
flat_push f [] x = append-nil (f x)
flat_push f (y ∷ xs) x = ap (λ l. f y ++ l) (flat_push f xs x) ∙ sym (append_assoc (f y) (flat_map f xs) (f x))

pub mapped_more : {X Y : Type 0} (f : X → Y) (xs : List X) (k : ℕ) (x : X) → k < length xs → x ≡ get_or xs k x → map f (take (k + 1) xs) ≡ map f (take k xs) ++ f x ∷ []
mapped_more f xs k x low at = mapped_next f xs k x low ∙ ap (λ y. map f (take k xs) ++ f y ∷ []) (sym at)
