-- A signal with one line has its sum.
use Rattle.std.proofs.Common.{◌≡◌, ℕ, inl, inr, Bool, true, false, not, is_some, Some, List, [], ◌∷◌, filter, map, refl, sym, ap, subst, ◌∙◌, ◌&&◌, ◌||◌, if◌then◌else◌}
use Rattle.decompiled.proofs.Common.{list_all, list_any, cases_Bool, true≢false, same_level, Leaf, make_or, Formula, Const, Extension, Contribution, One, Any, control_by, control_of, is_control, Context, formulas, Function, any_of, both_function, function_of, gives_some, is_both, is_complement, is_data_in, is_data_to, is_free_elsewhere, same_gives, single_function, some_holds, PinLiteral, SumLine, sum_formula, line_gives, is_data_line, is_control_line, OneLineIsAFunction}

-- the sum of nothing and one is the one
only : (f : Formula) → (make_or (Const false) f).what ≡ f
unfolding make_or
only f = refl

-- ---- lists

filter_map : {A B : Type 0} (f : A → B) (test : B → Bool) (xs : List A) → filter test (map f xs) ≡ map f (filter (λ x. test (f x)) xs)
filter_map f test [] = refl
filter_map {A} {B} f test (x ∷ xs) = elim (cases_Bool (test (f x))) [
  | inl e ↦ rw e (ap (λ (ys : List B). f x ∷ ys) (filter_map f test xs))
  | inr e ↦ rw e (filter_map f test xs)
]

-- tests that answer alike keep alike
filter_alike : {A : Type 0} (p q : A → Bool) (xs : List A) → ((x : A) → p x ≡ q x) → filter p xs ≡ filter q xs
filter_alike p q [] same = refl
filter_alike {A} p q (x ∷ xs) same = elim (cases_Bool (p x)) [
  | inl e ↦ let f : q x ≡ true = sym (same x) ∙ e in rw e (rw f (ap (λ (ys : List A). x ∷ ys) (filter_alike p q xs same)))
  | inr e ↦ let f : q x ≡ false = sym (same x) ∙ e in rw e (rw f (filter_alike p q xs same))
]

filter_none : {A : Type 0} (test : A → Bool) (xs : List A) → ((x : A) → test x ≡ false) → filter test xs ≡ []
filter_none test [] none = refl
filter_none test (x ∷ xs) none = rw (none x) (filter_none test xs none)

-- what some of the kept ones have, some of all have
any_kept : {A : Type 0} (p q : A → Bool) (xs : List A) → list_any (λ x. p x && q x) xs ≡ list_any q (filter p xs)
any_kept p q [] = refl
any_kept p q (x ∷ xs) = elim (cases_Bool (p x)) [
  | inl e ↦ rw e (ap (λ (b : Bool). q x || b) (any_kept p q xs))
  | inr e ↦ rw e (any_kept p q xs)
]

any_mapped : {A B : Type 0} (f : A → B) (test : B → Bool) (xs : List A) → list_any test (map f xs) ≡ list_any (λ x. test (f x)) xs
any_mapped f test [] = refl
any_mapped f test (x ∷ xs) = ap (λ (b : Bool). test (f x) || b) (any_mapped f test xs)

and_true : (b : Bool) → (b && true) ≡ b
and_true true = refl
and_true false = refl

and_false : (b : Bool) → (b && false) ≡ false
and_false true = refl
and_false false = refl

or_false : (b : Bool) → (b || false) ≡ b
or_false true = refl
or_false false = refl

module _ (d : Context) (signal_of : ℕ → ℕ) (leaf_of : PinLiteral → Leaf) (ls : List SumLine) (s : ℕ) where
  abbrev give : SumLine → Contribution Formula
  give = line_gives signal_of leaf_of

  abbrev cs : List (Contribution Formula)
  cs = map give ls

  abbrev to_it : SumLine → Bool
  to_it = is_data_line signal_of s

  ones : gives_some (formulas d) cs One s ≡ some_holds (formulas d) (map give (filter to_it ls))
  ones = ap (some_holds (formulas d)) (filter_map give (λ c. is_data_to s c && same_gives One c.gives) ls ∙ ap (map give) (filter_alike (λ l. to_it l && true) to_it ls (λ l. and_true (to_it l))))

  anys : gives_some (formulas d) cs Any s ≡ Const false
  anys = ap (some_holds (formulas d)) (filter_map give (λ c. is_data_to s c && same_gives Any c.gives) ls ∙ ap (map give) (filter_none (λ l. to_it l && false) ls (λ l. and_false (to_it l))))

  -- an equation leaves nothing free
  not_free : list_any (is_data_to s) cs ≡ true → is_free_elsewhere cs s ≡ false
  not_free some = rw some (none ls (sym (any_mapped give (is_data_to s) ls) ∙ some))
    where
      none : (xs : List SumLine) → list_any to_it xs ≡ true → list_all (λ (c : Contribution Formula). not (is_data_to s c) || (is_some c.block && c.dontcare)) (map give xs) ≡ false
      none [] e = absurd (true≢false (sym e))
      none (x ∷ xs) e = elim (cases_Bool (to_it x)) [
        | inl t ↦ rw t refl
        | inr t ↦ rw t (none xs (subst (λ (b : Bool). (b || list_any to_it xs) ≡ true) t e))
      ]

  one_data : (l : SumLine) → filter to_it ls ≡ l ∷ [] → list_any (is_data_to s) cs ≡ true
  one_data l e = any_mapped give (is_data_to s) ls ∙ some ls e
    where
      some : (xs : List SumLine) → filter to_it xs ≡ l ∷ [] → list_any to_it xs ≡ true
      some [] e = absurd cc
      some (x ∷ xs) e = elim (cases_Bool (to_it x)) [
        | inl t ↦ rw t refl
        | inr t ↦ rw t (some xs (subst (λ (b : Bool). (if b then x ∷ filter to_it xs else filter to_it xs) ≡ l ∷ []) t e))
      ]

  -- one line has one polarity
  one_polarity : (l : SumLine) → filter to_it ls ≡ l ∷ [] → is_both cs s ≡ false
  one_polarity l e = ap (λ (b : Bool). b && list_any (is_data_in true s) cs) (in_polarity false) ∙ ap (λ (b : Bool). same_level l.negated false && b) (in_polarity true) ∙ never_both l.negated
    where
      in_polarity : (b : Bool) → list_any (is_data_in b s) cs ≡ same_level l.negated b
      in_polarity b =
          any_mapped give (is_data_in b s) ls ∙ any_kept to_it (λ x. same_level x.negated b) ls
          ∙ ap (list_any (λ (x : SumLine). same_level x.negated b)) e ∙ or_false (same_level l.negated b)

      never_both : (n : Bool) → (same_level n false && same_level n true) ≡ false
      never_both true = refl
      never_both false = refl

  function_is : (l : SumLine) → filter to_it ls ≡ l ∷ []
      → function_of (formulas d) cs s ≡ record { one = sum_formula leaf_of l.products; any = Const false; complement = l.negated }
  function_is l e =
      let one : gives_some (formulas d) cs One s ≡ sum_formula leaf_of l.products = ones ∙ ap (λ (xs : List SumLine). some_holds (formulas d) (map give xs)) e ∙ only (sum_formula leaf_of l.products) in
      let any : any_of (formulas d) cs s ≡ Const false = rw (not_free (one_data l e)) anys in
      let complement : is_complement cs s ≡ l.negated =
      any_mapped give (λ c. is_data_to s c && c.complement) ls ∙ any_kept to_it (λ x. x.negated) ls ∙ ap (list_any (λ (x : SumLine). x.negated)) e ∙ or_false l.negated in
      ap (λ (b : Bool). if b then both_function (formulas d) cs s else single_function (formulas d) cs s) (one_polarity l e)
      ∙ ap (λ (f : Formula). function f (any_of (formulas d) cs s) (is_complement cs s)) one
      ∙ ap (λ (f : Formula). function (sum_formula leaf_of l.products) f (is_complement cs s)) any
      ∙ ap (function (sum_formula leaf_of l.products) (Const false)) complement
    where
      function : Formula → Formula → Bool → Function Formula
      function f g b = record { one = f; any = g; complement = b }

  controls : (e : Extension) (kept : List SumLine) → filter (is_control_line signal_of s e) ls ≡ kept → control_of (formulas d) cs s e ≡ control_by (formulas d) (map give kept)
  controls e kept is = ap (control_by (formulas d)) (filter_map give (is_control s e) ls ∙ ap (map give) is)

pub says : OneLineIsAFunction
says d signal_of leaf_of ls s =
    record {
      function = function_is d signal_of leaf_of ls s;
      control = λ e l plain is. controls d signal_of leaf_of ls s e (l ∷ []) is
          ∙ ap (λ (b : Bool). Some (if b then (formulas d).not (some_holds (formulas d) (line_gives signal_of leaf_of l ∷ [])) else some_holds (formulas d) (line_gives signal_of leaf_of l ∷ []))) plain
          ∙ ap Some (only (sum_formula leaf_of l.products));
      no_control = λ e is. controls d signal_of leaf_of ls s e [] is;
    }
