-- Entries that pass a test, one by one.
use Rattle.std.proofs.Common.{◌≡◌, ℕ, ◌+◌, ◌<◌, Bool, List, [], ◌∷◌, ◌++◌, length, take, get_or, if◌then◌else◌, filter, sym, ap, ap₂, ◌∙◌}
use Rattle.std.proofs.lemmas.List.Elements.{filter_more}

-- one more entry, by what the test says of it
pub passed_more : {X : Type 0} (p : X → Bool) (xs front new : List X) (i : ℕ) (d : X) (b : Bool) → i < length xs → b ≡ p (get_or xs i d) → front ≡ filter p (take i xs)
    → new ≡ front ++ (if b then get_or xs i d ∷ [] else []) → new ≡ filter p (take (i + 1) xs)
passed_more p xs front new i d b within says before is =
    is
    ∙ (ap₂ (λ ys zs. ys ++ zs) before (ap (λ c. if c then get_or xs i d ∷ [] else []) says)
    ∙ sym (filter_more p xs i d within))
