-- Names that represent the same, and lists with more names.
use Rattle.std.proofs.Common.{◌≡◌, ℕ, suc, Bool, true, ◌&&◌, if◌then◌else◌, Option, Some, None, List, [], ◌∷◌, ◌++◌, map, refl, sym, ap, ap₂, ◌∙◌}
use Rattle.decls.proofs.Common.{list_all, bytes_eq, and_parts, Flip, Kind, Words, Entry, kind_of, passes, is_value, names_any, used_names, is_named, are_named, Use, GivenName, with_words, with_kinds}
use Rattle.abel_tree.specs.Assigned.{Assigned}
use Rattle.abel_meaning.specs.Held.{Holds}
use Rattle.decls.proofs.FirstNames.{kind_append, or_else}

-- ---- the same names of the same kinds

abbrev pub Alike : List Entry → List Entry → Type 0
Alike [] [] = Unit {0}
Alike [] (y ∷ ys) = ⊥
Alike (x ∷ xs) [] = ⊥
Alike (x ∷ xs) (y ∷ ys) = (x.name ≡ y.name) × ((x.kind ≡ y.kind) × Alike xs ys)

pub alike_kinds : (xs ys : List Entry) → Alike xs ys → (name : List ℕ) → kind_of xs name ≡ kind_of ys name
alike_kinds [] [] a name = refl
alike_kinds [] (y ∷ ys) a name = absurd a
alike_kinds (x ∷ xs) [] a name = absurd a
alike_kinds (x ∷ xs) (y ∷ ys) a name =
    ap (λ o. if bytes_eq name x.name then Some x.kind else o) (alike_kinds xs ys a.1.1 name)
    ∙ ap₂ (λ n k. if bytes_eq name n then Some k else kind_of ys name) a.0 a.1.0

pub alike_push : (xs ys : List Entry) (x y : Entry) → Alike xs ys → x.name ≡ y.name → x.kind ≡ y.kind → Alike (xs ++ x ∷ []) (ys ++ y ∷ [])
alike_push [] [] x y a n k = (n, (k, tt))
alike_push [] (z ∷ ys) x y a n k = absurd a
alike_push (z ∷ xs) [] x y a n k = absurd a
alike_push (z ∷ xs) (w ∷ ys) x y a n k = (a.0, (a.1.0, alike_push xs ys x y a.1.1 n k))

pub alike_told : (xs : List GivenName) (w : Words) (es : List Entry) → Alike es (map (with_words xs w) es)
alike_told xs w [] = tt
alike_told xs w (e ∷ es) = (refl, (refl, alike_told xs w es))

pub alike_settled : (flip : Flip) (held : Holds) (found : List Assigned) (s : ℕ) (es : List Entry) → Alike es (with_kinds flip held found s es)
alike_settled flip held found s [] = tt
alike_settled flip held found s (e ∷ es) = (refl, (refl, alike_settled flip held found (suc s) es))

-- ---- what is known stays known

abbrev pub Extends : List Entry → List Entry → Type 0
Extends es fs = (name : List ℕ) (k : Kind) → kind_of es name ≡ Some k → kind_of fs name ≡ Some k

pub extends_same : (es : List Entry) → Extends es es
extends_same es name k e = e

pub extends_then : (es fs gs : List Entry) → Extends es fs → Extends fs gs → Extends es gs
extends_then es fs gs f g name k e = g name k (f name k e)

pub extends_append : (es fs : List Entry) → Extends es (es ++ fs)
extends_append es fs name k e = kind_append es fs name ∙ ap (λ o. or_else o (kind_of fs name)) e

pub extends_alike : (es fs : List Entry) → Alike es fs → Extends es fs
extends_alike es fs a name k e = sym (alike_kinds es fs a name) ∙ e

-- ---- names that are used

any_more : (test : Kind → Bool) (es fs : List Entry) (name : List ℕ) → Extends es fs → names_any test es name ≡ true → names_any test fs name ≡ true
any_more test es fs name f h = by (kind_of es name) refl h
  where
    by : (o : Option Kind) → kind_of es name ≡ o → passes test o ≡ true → names_any test fs name ≡ true
    by None e g = absurd cc
    by (Some k) e g = ap (passes test) (f name k e) ∙ g

all_more : {A : Type 0} (p q : A → Bool) (xs : List A) → ((x : A) → p x ≡ true → q x ≡ true) → list_all p xs ≡ true → list_all q xs ≡ true
all_more p q [] f h = refl
all_more p q (x ∷ xs) f h =
    let b = and_parts (p x) (list_all p xs) h in
    ap₂ (λ c d. c && d) (f x b.0) (all_more p q xs f b.1)

pub named_more : (es fs : List Entry) (us : List Use) → Extends es fs → are_named es us ≡ true → are_named fs us ≡ true
named_more es fs us f h =
    all_more (is_named es) (is_named fs) us
    (λ u g. all_more (names_any is_value es) (names_any is_value fs) (used_names u) (λ name i. any_more is_value es fs name f i) g) h
