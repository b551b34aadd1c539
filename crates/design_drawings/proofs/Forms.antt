-- The two forms that an escaped byte has: itself, or a name between `&` and `;`.
use Rattle.std.proofs.Common.{◌≡◌, ◌⊎◌, inl, inr, ℕ, ◌+◌, ◌-◌, ◌<◌, ◌≤◌, ◌^◌, Bool, true, false, List, [], ◌∷◌, ◌++◌, refl, sym, ap, ◌∙◌, subst, arith}
use Rattle.std.specs.Prelude.{◌≢◌, ◌==◌, nat_lt, codes, if◌then◌else◌}
use Rattle.std.specs.Fmt.{decimal}
use Rattle.std.specs.List.{AllByRecursion}
use Rattle.std.specs.Str.Parse.{digits_value}
use Rattle.std.proofs.lemmas.Bool.{eqb-true, eqb-false, ltb-true, ne_eqb}
use Rattle.std.proofs.lemmas.Fmt.{digits_decimal, decimal_is_IsNumeral}
use Rattle.std.proofs.lemmas.Str.Parse.{IsDigitsTest, numerals_by_value}
use Rattle.design_drawings.specs.Escaped.{escaped_byte, plain_byte, is_blank, reference, first_picture, delete_picture}
use Rattle.design_drawings.specs.Unescaped.{IsNoMarkup}

-- a byte of a name
abbrev pub IsInName : ℕ → Type 0
IsInName b = (b ≢ 59) × IsNoMarkup b

-- the byte whose name is `#` and this number
abbrev of_number : ℕ → ℕ
of_number n = if n == 39 then 39 else (if n == delete_picture then 127 else n - first_picture)

-- the byte of a name, by its first letter
abbrev pub of_name : List ℕ → ℕ
of_name [] = 0
of_name (b ∷ ds) = if b == 35 then of_number (digits_value 10 ds) else (if b == 108 then 60 else (if b == 103 then 62 else (if b == 97 then 38 else 34)))

-- a byte that represents itself
pub record IsItself (x : ℕ) : Type 0 where
  pub same : escaped_byte x ≡ x ∷ []
  pub plain : x ≢ 38
  pub markup : IsNoMarkup x

-- a byte that is by a name, which gives it
pub record IsNamed (x : ℕ) (name : List ℕ) : Type 0 where
  pub same : escaped_byte x ≡ 38 ∷ (name ++ 59 ∷ [])
  pub markup : AllByRecursion IsInName name
  pub tells : of_name name ≡ x

abbrev pub HasForm : ℕ → Type 0
HasForm x = IsItself x ⊎ ((name : List ℕ) × IsNamed x name)

-- ---- bytes of names

letter : (b : ℕ) → 97 ≤ b → IsInName b
letter b h = (λ e. omega (arith, e, h), (λ e. omega (arith, e, h), λ e. omega (arith, e, h), λ e. omega (arith, e, h), λ e. omega (arith, e, h)))

digit : (b : ℕ) → 48 ≤ b → b ≤ 57 → IsInName b
digit b l h = (λ e. omega (arith, e, h), (λ e. omega (arith, e, h), λ e. omega (arith, e, h), λ e. omega (arith, e, l), λ e. omega (arith, e, l)))

number_sign : IsInName 35
number_sign = (λ e. omega (arith, e), (λ e. omega (arith, e), λ e. omega (arith, e), λ e. omega (arith, e), λ e. omega (arith, e)))

abbrev IsDigit : ℕ → Type 0
IsDigit b = (48 ≤ b) × (b ≤ 57)

told : IsDigitsTest (AllByRecursion IsDigit)
told = record { empty = tt; parts = λ c cs p. p; more = λ c cs i p. (i, p) }

digits_in_name : (ds : List ℕ) → AllByRecursion IsDigit ds → AllByRecursion IsInName ds
digits_in_name [] p = tt
digits_in_name (b ∷ ds) p = (digit b p.0.0 p.0.1, digits_in_name ds p.1)

-- ---- tests

by_test : {A : Type 0} (t : Bool) → (t ≡ true → A) → (t ≡ false → A) → A
by_test true yes_ no_ = yes_ refl
by_test false yes_ no_ = no_ refl

is_then : {A : Type 0} (t : Bool) (v w : A) → t ≡ true → (if t then v else w) ≡ v
is_then true v w e = refl
is_then false v w e = absurd cc

is_else : {A : Type 0} (t : Bool) (v w : A) → t ≡ false → (if t then v else w) ≡ w
is_else true v w e = absurd cc
is_else false v w e = refl

-- ---- each byte has a form

by_number : (x n : ℕ) → escaped_byte x ≡ reference n → n < 2 ^ 64 → of_number n ≡ x → HasForm x
by_number x n same below tells =
    inr (
      35 ∷ decimal n,
      record {
        same = same;
        markup = (number_sign, digits_in_name (decimal n) (digits_decimal (numerals_by_value (AllByRecursion IsDigit) told) n below));
        tells = ap of_number (decimal_is_IsNumeral n below).1 ∙ tells;
      },
    )

less_than : HasForm 60
less_than = inr (codes "lt", record { same = refl; markup = (letter 108 (omega arith), (letter 116 (omega arith), tt)); tells = refl })

greater_than : HasForm 62
greater_than = inr (codes "gt", record { same = refl; markup = (letter 103 (omega arith), (letter 116 (omega arith), tt)); tells = refl })

ampersand : HasForm 38
ampersand = inr (codes "amp", record { same = refl; markup = (letter 97 (omega arith), (letter 109 (omega arith), (letter 112 (omega arith), tt))); tells = refl })

quotation_mark : HasForm 34
quotation_mark =
    inr (codes "quot", record { same = refl; markup = (letter 113 (omega arith), (letter 117 (omega arith), (letter 111 (omega arith), (letter 116 (omega arith), tt)))); tells = refl })

apostrophe : HasForm 39
apostrophe =
    inr (codes "#39", record { same = refl; markup = (number_sign, (digit 51 (omega arith) (omega arith), (digit 57 (omega arith) (omega arith), tt))); tells = refl })

delete : HasForm 127
delete = by_number 127 delete_picture refl (omega arith) refl

picture_tells : (x : ℕ) → x < 32 → of_number (first_picture + x) ≡ x
picture_tells x h =
    let n : ℕ = first_picture + x in
    is_else (n == 39) 39 (if n == delete_picture then 127 else n - first_picture) (ne_eqb n 39 (λ e. omega (arith, e)))
    ∙ is_else (n == delete_picture) 127 (n - first_picture) (ne_eqb n delete_picture (λ e. omega (arith, e, h)))
    ∙ omega arith

-- a byte that is no markup
unmarked : (x : ℕ) → (x == 60) ≡ false → (x == 62) ≡ false → (x == 38) ≡ false → (x == 34) ≡ false → (x == 39) ≡ false → HasForm x
unmarked x a b c d e =
    let plain : escaped_byte x ≡ plain_byte x = is_else (x == 60) _ _ a ∙ is_else (x == 62) _ _ b ∙ is_else (x == 38) _ _ c ∙ is_else (x == 34) _ _ d ∙ is_else (x == 39) _ _ e in
    let itself : plain_byte x ≡ x ∷ [] → HasForm x =
    λ s. inl (record { same = plain ∙ s; plain = eqb-false x 38 c; markup = (eqb-false x 60 a, eqb-false x 62 b, eqb-false x 34 d, eqb-false x 39 e) }) in
    by_test (is_blank x) (λ t. itself (is_then (is_blank x) _ _ t))
    (λ t. by_test (nat_lt x 32)
    (λ u. let h : x < 32 = ltb-true x 32 u in by_number x (first_picture + x) (plain ∙ is_else (is_blank x) _ _ t ∙ is_then (nat_lt x 32) _ _ u) (omega (arith, h)) (picture_tells x h))
    (λ u. by_test (x == 127) (λ v. subst HasForm (sym (eqb-true x 127 v)) delete)
    (λ v. itself (is_else (is_blank x) _ _ t ∙ is_else (nat_lt x 32) _ _ u ∙ is_else (x == 127) _ _ v))))

pub form : (x : ℕ) → HasForm x
form x =
    by_test (x == 60) (λ e. subst HasForm (sym (eqb-true x 60 e)) less_than)
    (λ a. by_test (x == 62) (λ e. subst HasForm (sym (eqb-true x 62 e)) greater_than)
    (λ b. by_test (x == 38) (λ e. subst HasForm (sym (eqb-true x 38 e)) ampersand)
    (λ c. by_test (x == 34) (λ e. subst HasForm (sym (eqb-true x 34 e)) quotation_mark)
    (λ d. by_test (x == 39) (λ e. subst HasForm (sym (eqb-true x 39 e)) apostrophe) (unmarked x a b c d)))))
