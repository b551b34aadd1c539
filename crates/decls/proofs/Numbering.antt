-- Names by their numbers, one more.
use Rattle.std.proofs.Common.{◌≡◌, ℕ, ◌+◌, ◌<◌, List, [], ◌∷◌, ◌++◌, map, take, length, get_or, sym, ap, ◌∙◌, append_assoc}
use Rattle.decls.proofs.Common.{append-nil, Entry, find, GivenName, number_if, numbered, view_given}
use Rattle.decls.specs.declared.items.Given.{Given}
use Rattle.decls.proofs.Rows.{mapped_more}

numbered_push : (es : List Entry) (xs : List GivenName) (x : GivenName) → numbered es (xs ++ x ∷ []) ≡ numbered es xs ++ number_if x.place (find es x.name)
numbered_push es [] x = append-nil (number_if x.place (find es x.name))
numbered_push es (y ∷ xs) x =
    ap (λ l. number_if y.place (find es y.name) ++ l) (numbered_push es xs x)
    ∙ sym (append_assoc (number_if y.place (find es y.name)) (numbered es xs) (number_if x.place (find es x.name)))

pub numbered_more : (es : List Entry) (gs : List Given) (k : ℕ) (g : Given) → k < length gs → g ≡ get_or gs k g → numbered es (map view_given (take (k + 1) gs)) ≡ numbered es (map view_given (take k gs)) ++ number_if g.place (find es g.name.items)
numbered_more es gs k g h i = ap (numbered es) (mapped_more view_given gs k g h i) ∙ numbered_push es (map view_given (take k gs)) (view_given g)
