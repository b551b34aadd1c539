-- One more item of a list, seen through a function.
use Rattle.std.proofs.Common.{◌≡◌, ℕ, ◌<◌, ◌+◌, List, [], ◌∷◌, ◌++◌, map, sym, ap, ◌∙◌, take, length, get_or}
use Rattle.decls.proofs.Common.{take_more, map-append}

-- the first k + 1 items, seen through a function
pub mapped_more : {A B : Type 0} (f : A → B) (es : List A) (k : ℕ) (e : A) → k < length es → e ≡ get_or es k e → map f (take (k + 1) es) ≡ map f (take k es) ++ f e ∷ []
mapped_more f es k e h i = ap (map f) (take_more es k e h ∙ ap (λ x. take k es ++ x ∷ []) (sym i)) ∙ map-append f (take k es) (e ∷ [])
