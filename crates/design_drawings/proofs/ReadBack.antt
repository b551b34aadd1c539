-- Escaped texts have no markup of their own, and are read back.
use Rattle.std.proofs.Common.{◌≡◌, inl, inr, ℕ, List, [], ◌∷◌, ◌++◌, drop, get_or, refl, sym, ap, ap₂, ◌∙◌, subst, arith}
use Rattle.std.specs.List.{All, AllByRecursion}
use Rattle.std.proofs.lemmas.List.Elements.{All-nil, All-cons, All-append}
use Rattle.design_drawings.specs.Escaped.{escaped, escaped_byte}
use Rattle.design_drawings.specs.Unescaped.{ReadsAs, IsNoMarkup, EscapedTextsReadBack}
use Rattle.design_drawings.proofs.Forms.{IsInName, HasForm, form, of_name}

-- ---- no markup

in_name_no_markup : (v : List ℕ) → AllByRecursion IsInName v → All IsNoMarkup v
in_name_no_markup [] p = All-nil IsNoMarkup
in_name_no_markup (b ∷ v) p = All-cons IsNoMarkup b v p.0.1 (in_name_no_markup v p.1)

one_byte : (b : ℕ) → IsNoMarkup b → All IsNoMarkup (b ∷ [])
one_byte b h = All-cons IsNoMarkup b [] h (All-nil IsNoMarkup)

no_markup_in : (x : ℕ) → HasForm x → All IsNoMarkup (escaped_byte x)
no_markup_in x (inl i) = subst (All IsNoMarkup) (sym i.same) (one_byte x i.markup)
no_markup_in x (inr (v, n)) =
    let amp : IsNoMarkup 38 = (λ e. omega (arith, e), λ e. omega (arith, e), λ e. omega (arith, e), λ e. omega (arith, e)) in
    let semicolon : IsNoMarkup 59 = (λ e. omega (arith, e), λ e. omega (arith, e), λ e. omega (arith, e), λ e. omega (arith, e)) in
    subst (All IsNoMarkup) (sym n.same) (All-cons IsNoMarkup 38 (v ++ 59 ∷ []) amp (All-append IsNoMarkup v (59 ∷ []) (in_name_no_markup v n.markup) (one_byte 59 semicolon)))

no_markup : (bytes : List ℕ) → All IsNoMarkup (escaped bytes)
no_markup [] = All-nil IsNoMarkup
no_markup (x ∷ xs) = All-append IsNoMarkup (escaped_byte x) (escaped xs) (no_markup_in x (form x)) (no_markup xs)

-- ---- what is read

reads : (bytes : List ℕ) → ReadsAs (escaped bytes) bytes
reads [] = refl
reads (x ∷ xs) = (escaped xs, refl, reads xs)

-- ---- and nothing else

head_is : (a b : ℕ) (v w : List ℕ) → a ∷ v ≡ b ∷ w → a ≡ b
head_is a b v w e = ap (λ (l : List ℕ). get_or l 0 0) e

tail_is : (a b : ℕ) (v w : List ℕ) → a ∷ v ≡ b ∷ w → v ≡ w
tail_is a b v w e = ap (drop 1) e

-- a name ends at its semicolon
same_name : (v w r s : List ℕ) → AllByRecursion IsInName v → AllByRecursion IsInName w → (v ++ 59 ∷ []) ++ r ≡ (w ++ 59 ∷ []) ++ s → (v ≡ w) × (r ≡ s)
same_name [] [] r s p q e = (refl, tail_is 59 59 r s e)
same_name [] (b ∷ w) r s p q e = absurd (q.0.0 (sym (head_is 59 b r ((w ++ 59 ∷ []) ++ s) e)))
same_name (a ∷ v) [] r s p q e = absurd (p.0.0 (head_is a 59 ((v ++ 59 ∷ []) ++ r) s e))
same_name (a ∷ v) (b ∷ w) r s p q e =
    let t = same_name v w r s p.1 q.1 (tail_is a b ((v ++ 59 ∷ []) ++ r) ((w ++ 59 ∷ []) ++ s) e) in
    (ap₂ (λ (c : ℕ) (u : List ℕ). c ∷ u) (head_is a b ((v ++ 59 ∷ []) ++ r) ((w ++ 59 ∷ []) ++ s) e) t.0, t.1)

-- the first byte and what follows it
same_byte : (x y : ℕ) (r s : List ℕ) → HasForm x → HasForm y → escaped_byte x ++ r ≡ escaped_byte y ++ s → (x ≡ y) × (r ≡ s)
same_byte x y r s (inl i) (inl j) e =
    let f : x ∷ r ≡ y ∷ s = sym (ap (λ (w : List ℕ). w ++ r) i.same) ∙ e ∙ ap (λ (w : List ℕ). w ++ s) j.same in
    (head_is x y r s f, tail_is x y r s f)
same_byte x y r s (inl i) (inr (w, n)) e =
    let f : x ∷ r ≡ 38 ∷ ((w ++ 59 ∷ []) ++ s) = sym (ap (λ (u : List ℕ). u ++ r) i.same) ∙ e ∙ ap (λ (u : List ℕ). u ++ s) n.same in
    absurd (i.plain (head_is x 38 r ((w ++ 59 ∷ []) ++ s) f))
same_byte x y r s (inr (v, m)) (inl j) e =
    let f : 38 ∷ ((v ++ 59 ∷ []) ++ r) ≡ y ∷ s = sym (ap (λ (u : List ℕ). u ++ r) m.same) ∙ e ∙ ap (λ (u : List ℕ). u ++ s) j.same in
    absurd (j.plain (sym (head_is 38 y ((v ++ 59 ∷ []) ++ r) s f)))
same_byte x y r s (inr (v, m)) (inr (w, n)) e =
    let f : 38 ∷ ((v ++ 59 ∷ []) ++ r) ≡ 38 ∷ ((w ++ 59 ∷ []) ++ s) = sym (ap (λ (u : List ℕ). u ++ r) m.same) ∙ e ∙ ap (λ (u : List ℕ). u ++ s) n.same in
    let t = same_name v w r s m.markup n.markup (tail_is 38 38 ((v ++ 59 ∷ []) ++ r) ((w ++ 59 ∷ []) ++ s) f) in
    (sym m.tells ∙ ap of_name t.0 ∙ n.tells, t.1)

not_empty : (x : ℕ) (r : List ℕ) → HasForm x → [] ≡ escaped_byte x ++ r → ⊥
not_empty x r (inl i) e = let f : [] ≡ x ∷ r = e ∙ ap (λ (w : List ℕ). w ++ r) i.same in absurd cc
not_empty x r (inr (v, n)) e = let f : [] ≡ 38 ∷ ((v ++ 59 ∷ []) ++ r) = e ∙ ap (λ (w : List ℕ). w ++ r) n.same in absurd cc

read_once : (text v w : List ℕ) → ReadsAs text v → ReadsAs text w → w ≡ v
read_once text [] [] p q = refl
read_once text [] (y ∷ ys) p q = absurd (not_empty y q.0 (form y) (sym p ∙ q.1))
read_once text (x ∷ xs) [] p q = absurd (not_empty x p.0 (form x) (sym q ∙ p.1))
read_once text (x ∷ xs) (y ∷ ys) p q =
    let t = same_byte x y p.0 q.0 (form x) (form y) (sym p.1 ∙ q.1) in
    ap₂ (λ (c : ℕ) (u : List ℕ). c ∷ u) (sym t.0) (read_once p.0 xs ys p.2 (subst (λ (u : List ℕ). ReadsAs u ys) (sym t.1) q.2))

pub escaped_texts_read_back : EscapedTextsReadBack
escaped_texts_read_back bytes = (no_markup bytes, reads bytes, λ others h. read_once (escaped bytes) bytes others (reads bytes) h)
