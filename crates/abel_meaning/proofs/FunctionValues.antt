-- If one way to read terms follows another, the functions and controls of signals do.
use Rattle.std.proofs.Common.{◌≡◌, ℕ, Bool, true, false, not, ◌&&◌, ◌||◌, cond, List, [], ◌∷◌, map, Some, refl, sym, ap, ap₂, ◌∙◌, inl, inr, filter, fold, option_map, if◌then◌else◌, is_some}
use Rattle.abel_meaning.proofs.Common.{cases_Bool, list_any, list_all, Levels, Extension, Design, Evaluator, Gives, One, Any, Match, Contribution, is_data_to, same_gives, some_holds, gives_some, is_free_elsewhere, any_of, is_complement, single_function, is_data_in, is_both, gives_in, both_function, function_of, Function, function_seen, formula_value, formulas, truth_at, given_at, given_formulas, Follows, seen}
use Rattle.abel_meaning.specs.Controls.{is_control, control_by, control_of}
use Rattle.abel_meaning.proofs.FormulasFollow.{formulas_follow, formulas_have_values}

module _ {V W : Type 0} (h : V → W) (ev : Evaluator V) (fv : Evaluator W) (l : Follows h ev fv) where
  -- tests that see nothing of what holds
  filtered : (p : Contribution V → Bool) (q : Contribution W → Bool) → ((c : Contribution V) → q (seen h c) ≡ p c) → (cs : List (Contribution V)) → filter q (map (seen h) cs) ≡ map (seen h) (filter p cs)
  filtered p q alike [] = refl
  filtered p q alike (c ∷ cs) =
      ap (λ b. cond b (seen h c ∷ filter q (map (seen h) cs)) (filter q (map (seen h) cs))) (alike c)
      ∙ kept_or_not (p c) _ _ (filtered p q alike cs)
    where
      kept_or_not : (b : Bool) (xs : List (Contribution W)) (ys : List (Contribution V)) → xs ≡ map (seen h) ys → cond b (seen h c ∷ xs) xs ≡ map (seen h) (cond b (c ∷ ys) ys)
      kept_or_not true xs ys e = ap (λ zs. seen h c ∷ zs) e
      kept_or_not false xs ys e = e

  folded : (a : V) (cs : List (Contribution V)) → h (fold (λ (w : V) (c : Contribution V). ev.either w c.holds) a cs) ≡ fold (λ (w : W) (c : Contribution W). fv.either w c.holds) (h a) (map (seen h) cs)
  folded a [] = refl
  folded a (c ∷ cs) =
      folded (ev.either a c.holds) cs
      ∙ ap (λ w. fold (λ (x : W) (b : Contribution W). fv.either x b.holds) w (map (seen h) cs)) (l.either a c.holds)

  some_seen : (cs : List (Contribution V)) → h (some_holds ev cs) ≡ some_holds fv (map (seen h) cs)
  some_seen cs =
      folded (ev.constant false) cs
      ∙ ap (λ w. fold (λ (x : W) (b : Contribution W). fv.either x b.holds) w (map (seen h) cs)) (l.constant false)

  -- the sum of those that pass such a test
  sum_seen : (p : Contribution V → Bool) (q : Contribution W → Bool) → ((c : Contribution V) → q (seen h c) ≡ p c) → (cs : List (Contribution V)) → h (some_holds ev (filter p cs)) ≡ some_holds fv (filter q (map (seen h) cs))
  sum_seen p q alike cs = some_seen (filter p cs) ∙ ap (λ xs. some_holds fv xs) (sym (filtered p q alike cs))

  gives_seen : (cs : List (Contribution V)) (gives : Gives) (s : ℕ) → h (gives_some ev cs gives s) ≡ gives_some fv (map (seen h) cs) gives s
  gives_seen cs gives s = sum_seen (λ (c : Contribution V). is_data_to s c && same_gives gives c.gives) (λ (c : Contribution W). is_data_to s c && same_gives gives c.gives) (λ c. refl) cs

  gives_in_seen : (cs : List (Contribution V)) (complement : Bool) (gives : Gives) (s : ℕ) → h (gives_in ev cs complement gives s) ≡ gives_in fv (map (seen h) cs) complement gives s
  gives_in_seen cs complement gives s =
      sum_seen (λ (c : Contribution V). is_data_in complement s c && same_gives gives c.gives) (λ (c : Contribution W). is_data_in complement s c && same_gives gives c.gives) (λ c. refl) cs

  any_seen : (p : Contribution V → Bool) (q : Contribution W → Bool) → ((c : Contribution V) → q (seen h c) ≡ p c) → (cs : List (Contribution V)) → list_any q (map (seen h) cs) ≡ list_any p cs
  any_seen p q alike [] = refl
  any_seen p q alike (c ∷ cs) = ap₂ (λ a b. a || b) (alike c) (any_seen p q alike cs)

  all_seen : (p : Contribution V → Bool) (q : Contribution W → Bool) → ((c : Contribution V) → q (seen h c) ≡ p c) → (cs : List (Contribution V)) → list_all q (map (seen h) cs) ≡ list_all p cs
  all_seen p q alike [] = refl
  all_seen p q alike (c ∷ cs) = ap₂ (λ a b. a && b) (alike c) (all_seen p q alike cs)

  free_seen : (cs : List (Contribution V)) (s : ℕ) → is_free_elsewhere (map (seen h) cs) s ≡ is_free_elsewhere cs s
  free_seen cs s =
      ap₂ (λ a b. a && b)
      (any_seen (is_data_to s) (is_data_to s) (λ c. refl) cs)
      (all_seen (λ (c : Contribution V). not (is_data_to s c) || (is_some c.block && c.dontcare)) (λ (c : Contribution W). not (is_data_to s c) || (is_some c.block && c.dontcare)) (λ c. refl) cs)

  either_seen : (v w : V) (x y : W) → h v ≡ x → h w ≡ y → h (ev.either v w) ≡ fv.either x y
  either_seen v w x y p q = l.either v w ∙ ap₂ (λ a b. fv.either a b) p q

  not_seen : (v : V) (w : W) → h v ≡ w → h (ev.not v) ≡ fv.not w
  not_seen v w p = l.negates v ∙ ap (λ x. fv.not x) p

  chosen : (b : Bool) (v w : V) (x y : W) → h v ≡ x → h w ≡ y → h (if b then v else w) ≡ if b then x else y
  chosen true v w x y p q = p
  chosen false v w x y p q = q

  -- what may be anything, also if no don't-care block matches
  or_no_match_seen : (cs : List (Contribution V)) (s : ℕ) (v : V) (w : W) → h v ≡ w
      → h (if is_free_elsewhere cs s then ev.either v (ev.not (gives_some ev cs Match s)) else v) ≡ if is_free_elsewhere (map (seen h) cs) s then fv.either w (fv.not (gives_some fv (map (seen h) cs) Match s)) else w
  or_no_match_seen cs s v w p =
      chosen (is_free_elsewhere cs s) _ _ _ _ (either_seen _ _ _ _ p (not_seen _ _ (gives_seen cs Match s))) p
      ∙ ap (λ b. if b then fv.either w (fv.not (gives_some fv (map (seen h) cs) Match s)) else w) (sym (free_seen cs s))

  any_of_seen : (cs : List (Contribution V)) (s : ℕ) → h (any_of ev cs s) ≡ any_of fv (map (seen h) cs) s
  any_of_seen cs s = or_no_match_seen cs s _ _ (gives_seen cs Any s)

  -- the same signals are assigned in both polarities
  pub both_seen : (cs : List (Contribution V)) (s : ℕ) → is_both (map (seen h) cs) s ≡ is_both cs s
  both_seen cs s =
      ap₂ (λ a b. a && b) (any_seen (is_data_in false s) (is_data_in false s) (λ c. refl) cs) (any_seen (is_data_in true s) (is_data_in true s) (λ c. refl) cs)

  pub both_one_seen : (cs : List (Contribution V)) (s : ℕ) → h (both_function ev cs s).one ≡ (both_function fv (map (seen h) cs) s).one
  both_one_seen cs s =
      either_seen _ _ _ _ (gives_in_seen cs false One s)
      (not_seen _ _ (either_seen _ _ _ _ (gives_in_seen cs true One s) (or_no_match_seen cs s _ _ (gives_in_seen cs true Any s))))

  pub both_any_seen : (cs : List (Contribution V)) (s : ℕ) → h (both_function ev cs s).any ≡ (both_function fv (map (seen h) cs) s).any
  both_any_seen cs s = either_seen _ _ _ _ (gives_in_seen cs false Any s) (not_seen _ _ (gives_in_seen cs true One s))

  -- the polarity is the same
  pub complement_seen : (cs : List (Contribution V)) (s : ℕ) → is_complement (map (seen h) cs) s ≡ is_complement cs s
  complement_seen cs s =
      any_seen (λ (c : Contribution V). is_data_to s c && c.complement) (λ (c : Contribution W). is_data_to s c && c.complement) (λ c. refl) cs

  control_by_seen : (cs : List (Contribution V)) → option_map h (control_by ev cs) ≡ control_by fv (map (seen h) cs)
  control_by_seen [] = refl
  control_by_seen (c ∷ cs) =
      ap (λ w. Some w) (chosen c.complement _ _ _ _ (l.negates (some_holds ev (c ∷ cs)) ∙ ap (λ w. fv.not w) (some_seen (c ∷ cs))) (some_seen (c ∷ cs)))

  -- the controls of a signal
  pub control_seen : (cs : List (Contribution V)) (s : ℕ) (e : Extension) → option_map h (control_of ev cs s e) ≡ control_of fv (map (seen h) cs) s e
  control_seen cs s e =
      control_by_seen (filter (is_control s e) cs)
      ∙ ap (λ xs. control_by fv xs) (sym (filtered (is_control s e) (is_control s e) (λ c. refl) cs))

abbrev with_parts : (one any complement : Bool) → Function Bool
with_parts one any complement = record { one = one; any = any; complement = complement }

same_parts : (a b c x y z : Bool) → a ≡ x → b ≡ y → c ≡ z → with_parts a b c ≡ with_parts x y z
same_parts a b c x y z p q r = ap₂ (λ one any. with_parts one any c) p q ∙ ap (λ complement. with_parts x y complement) r

-- what contributions of one polarity amount to
single_formulas : (d : Design) (at : Levels) (s : ℕ) → function_seen (formula_value at) (single_function (formulas d.context) (given_formulas d) s) ≡ single_function (truth_at d.context at) (given_at d at) s
single_formulas d at s =
    same_parts _ _ _ _ _ _
    (gives_seen (formula_value at) (formulas d.context) (truth_at d.context at) (formulas_follow d.context at) (given_formulas d) One s
    ∙ ap (λ cs. gives_some (truth_at d.context at) cs One s) (formulas_have_values d at))
    (any_of_seen (formula_value at) (formulas d.context) (truth_at d.context at) (formulas_follow d.context at) (given_formulas d) s
    ∙ ap (λ cs. any_of (truth_at d.context at) cs s) (formulas_have_values d at))
    (sym (complement_seen (formula_value at) (formulas d.context) (truth_at d.context at) (formulas_follow d.context at) (given_formulas d) s)
    ∙ ap (λ cs. is_complement cs s) (formulas_have_values d at))

-- what those of both amount to
both_formulas : (d : Design) (at : Levels) (s : ℕ) → function_seen (formula_value at) (both_function (formulas d.context) (given_formulas d) s) ≡ both_function (truth_at d.context at) (given_at d at) s
both_formulas d at s =
    same_parts _ _ _ _ _ _
    (both_one_seen (formula_value at) (formulas d.context) (truth_at d.context at) (formulas_follow d.context at) (given_formulas d) s
    ∙ ap (λ cs. (both_function (truth_at d.context at) cs s).one) (formulas_have_values d at))
    (both_any_seen (formula_value at) (formulas d.context) (truth_at d.context at) (formulas_follow d.context at) (given_formulas d) s
    ∙ ap (λ cs. (both_function (truth_at d.context at) cs s).any) (formulas_have_values d at))
    refl

both_same : (d : Design) (at : Levels) (s : ℕ) → is_both (given_formulas d) s ≡ is_both (given_at d at) s
both_same d at s =
    sym (both_seen (formula_value at) (formulas d.context) (truth_at d.context at) (formulas_follow d.context at) (given_formulas d) s) ∙ ap (λ cs. is_both cs s) (formulas_have_values d at)

-- at every point the folded formulas of a signal have the values of its function there
pub formula_function : (d : Design) (at : Levels) (s : ℕ) → function_seen (formula_value at) (function_of (formulas d.context) (given_formulas d) s) ≡ function_of (truth_at d.context at) (given_at d at) s
formula_function d at s =
    elim (cases_Bool (is_both (given_formulas d) s)) [
      | inl both ↦ rw (both, sym (both_same d at s) ∙ both) (both_formulas d at s)
      | inr single ↦ rw (single, sym (both_same d at s) ∙ single) (single_formulas d at s)
    ]

-- and those of its controls
pub formula_control : (d : Design) (at : Levels) (s : ℕ) (e : Extension) → option_map (formula_value at) (control_of (formulas d.context) (given_formulas d) s e) ≡ control_of (truth_at d.context at) (given_at d at) s e
formula_control d at s e =
    control_seen (formula_value at) (formulas d.context) (truth_at d.context at) (formulas_follow d.context at) (given_formulas d) s e
    ∙ ap (λ cs. control_of (truth_at d.context at) cs s e) (formulas_have_values d at)
