-- Constants one after the other.
use Rattle.std.proofs.Common.{◌≡◌, ℕ, ◌+◌, ◌<◌, Option, Some, None, List, [], ◌∷◌, ◌++◌, fold, take, length, zip, get_or, refl, sym, ap, ◌∙◌, arith, slice_get}
use Rattle.decls.proofs.Common.{take_more, length-take-le, fold-append, Word, Tree, Progress, constant_at, constant_step}

-- a pair, if there is a value
abbrev pair_at : Word → Option Tree → List (Word × Tree)
pair_at w None = []
pair_at w (Some t) = (w, t) ∷ []

zip_push : (xs : List Word) (x : Word) (ts : List Tree) → zip (xs ++ x ∷ []) ts ≡ zip xs ts ++ pair_at x (slice_get ts (length xs))
zip_push [] x [] = refl
zip_push [] x (t ∷ ts) = refl
zip_push (y ∷ xs) x [] = refl
zip_push (y ∷ xs) x (t ∷ ts) = ap (λ ps. (y, t) ∷ ps) (zip_push xs x ts)

stepped : (s : Progress) (w : Word) (o : Option Tree) → constant_at w o s ≡ fold constant_step s (pair_at w o)
stepped s w None = refl
stepped s w (Some t) = refl

pub values_more : (s : Progress) (es : List Word) (ts : List Tree) (k : ℕ) (e : Word) → k < length es → e ≡ get_or es k e
    → constant_at e (slice_get ts k) (fold constant_step s (zip (take k es) ts)) ≡ fold constant_step s (zip (take (k + 1) es) ts)
values_more s es ts k e h i =
    let n : length (take k es) ≡ k = length-take-le k es (omega (arith, h)) in
    stepped (fold constant_step s (zip (take k es) ts)) e (slice_get ts k)
    ∙ (sym (fold-append constant_step s (zip (take k es) ts) (pair_at e (slice_get ts k)))
    ∙ ap (fold constant_step s)
    (sym (ap (λ xs. zip xs ts) (take_more es k e h ∙ ap (λ y. take k es ++ y ∷ []) (sym i))
    ∙ (zip_push (take k es) e ts ∙ ap (λ j. zip (take k es) ts ++ pair_at e (slice_get ts j)) n))))
