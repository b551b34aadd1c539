-- What is made of contributions, step by step, is what the language says of them; and what it says of the signal's own it
-- says of all.
use Rattle.std.proofs.Common.{◌≡◌, ℕ, ◌<◌, ◌≤◌, ◌-◌, Bool, true, false, not, ◌&&◌, ◌||◌, List, [], ◌∷◌, ◌++◌, length, get_or, take, drop, Option, Some, None, refl, sym, ap, ap₂, ◌∙◌, arith, inl, inr, filter, fold, is_some, if◌then◌else◌}
use Rattle.gathering.proofs.Common.{list_any, list_all, cases_Bool, map-append, take_all, filter-append, Control, ExprId, formula_at, Made, make_not, make_or, Formula, Const, Extension, is_control, is_the_control, control_by, control_of, Context, formulas, is_data_to, is_data_in, is_free_elsewhere, is_both, is_complement, is_raw_signal, both_function, single_function, function_of, view_contribution, Contribution, Totals, contributions_in, first_target, target_place, IsFunctionGiven, IsControlGiven, AreGiven, is_for, is_to, is_data_of, is_data_of_polarity, is_free_one, Stands, part_sum, bit_of, IsFunctionIn, list_all-map}
use Rattle.std.proofs.lemmas.List.Sums.{fold-append}
use Rattle.bit_expr.proofs.FoldingCases.{or_zero_right}
use Rattle.abel_tree.specs.declared.words.Extension.TheVariants as extension
use Rattle.abel_tree.specs.Extensions.{is_data, is_raw}
use Rattle.abel_meaning.specs.Contributions as meant
use Rattle.abel_meaning.specs.Functions as meant_function
use Rattle.set_expr.specs.declared.contributions.Gives.TheVariants as gives
use Rattle.gathering.specs.declared.parts.Part.{Part}
use Rattle.gathering.specs.declared.parts.Part.TheVariants as part
use Rattle.gathering.specs.declared.sums.Step.{Step}
use Rattle.gathering.specs.declared.sums.Step.TheVariants as step
use Rattle.gathering.proofs.SeenLists.{any_map, filter_own, any_own, all_own, find_own}
use Rattle.gathering.proofs.Standing.{same_seen}

-- ---- sums

-- a list with one more
abbrev and_one : Formula → meant.Contribution Formula → Formula
and_one f c = (make_or f c.holds).what

sum_more : (part : Part) (s : ℕ) (cs : List (meant.Contribution Formula)) (c : meant.Contribution Formula) → part_sum part s (cs ++ c ∷ []) ≡ (if is_for part s c then (make_or (part_sum part s cs) c.holds).what else part_sum part s cs)
sum_more part s cs c =
    ap (λ xs. fold and_one (Const false) xs) (filter-append (is_for part s) cs (c ∷ []))
    ∙ fold-append and_one (Const false) (filter (is_for part s) cs) (filter (is_for part s) (c ∷ []))
    ∙ last (is_for part s c)
  where
    last : (b : Bool) → fold and_one (part_sum part s cs) (if b then c ∷ [] else []) ≡ (if b then and_one (part_sum part s cs) c else part_sum part s cs)
    last true = refl
    last false = refl

-- one more for its part, though the arena has grown
pub sum_on : (fs gs : List Formula) (part : Part) (s : ℕ) (cs : List Contribution) (c : Contribution) (f : Formula) → Stands fs gs → c.when.0 < length fs → f ≡ part_sum part s (contributions_in fs cs)
    → (if is_for part s (view_contribution gs c) then (make_or f (formula_at gs c.when)).what else f) ≡ part_sum part s (contributions_in fs (cs ++ c ∷ []))
sum_on fs gs part s cs c f stands within is =
    ap (λ (v : meant.Contribution Formula). if is_for part s v then (make_or f v.holds).what else f) (same_seen fs gs stands c within)
    ∙ ap (λ g. if is_for part s (view_contribution fs c) then (make_or g (formula_at fs c.when)).what else g) is
    ∙ sym (sum_more part s (contributions_in fs cs) (view_contribution fs c))
    ∙ ap (part_sum part s) (sym (map-append (view_contribution fs) cs (c ∷ [])))

or_nothing : (f : Formula) → (make_or f (Const false)).what ≡ f
or_nothing f = ap (λ (m : Made Formula). m.what) (or_zero_right f (Const false) refl)

-- ---- steps

pub no_steps : (s : ℕ) (cs : List (meant.Contribution Formula)) (steps : List Step) → length steps < 1 → Const false ≡ bit_of steps s cs
no_steps s cs [] none = refl
no_steps s cs (x ∷ steps) none = absurd (omega (arith, none))

pub first_step : (s : ℕ) (cs : List (meant.Contribution Formula)) (steps : List Step) (x y : Step) → 1 ≤ length steps → get_or steps 0 x ≡ y → bit_of (y ∷ take (length steps - 1) (drop 1 steps)) s cs ≡ bit_of steps s cs
first_step s cs [] x y some is = absurd (omega (arith, some))
first_step s cs (z ∷ steps) x y some is = ap₂ (λ v vs. bit_of (v ∷ vs) s cs) (sym is) (take_all (length (z ∷ steps) - 1) steps (omega arith))

module _ (fs : List Formula) (s : ℕ) (cs : List Contribution) (steps : List Step) where
  pub not_if : (complement b : Bool) → complement ≡ b
      → (if b then (make_not (bit_of steps s (contributions_in fs cs))).what else bit_of steps s (contributions_in fs cs)) ≡ bit_of (step.NotIf complement ∷ steps) s (contributions_in fs cs)
  not_if complement b is = ap (λ (x : Bool). if x then (make_not (bit_of steps s (contributions_in fs cs))).what else bit_of steps s (contributions_in fs cs)) (sym is)

  -- where don't-care tables and diagrams alone assign the signal, no table or diagram matches
  free_seen : is_free_elsewhere (contributions_in fs cs) s ≡ (list_any (is_data_of s) cs && list_all (is_free_one s) cs)
  free_seen =
      ap₂ (λ a b. a && b) (any_map (view_contribution fs) (is_data_to s) cs)
      (list_all-map (λ c. not (is_data_to s c) || (is_some c.block && c.dontcare)) (view_contribution fs) cs)

  abbrev unmatched_by : Bool → Formula
  unmatched_by free = if free then (make_not (part_sum (part.Data gives.Match) s (contributions_in fs cs))).what else bit_of steps s (contributions_in fs cs)

  pub when_free : (list_any (is_data_of s) cs && list_all (is_free_one s) cs) ≡ true → (make_not (part_sum (part.Data gives.Match) s (contributions_in fs cs))).what ≡ bit_of (step.Unmatched ∷ steps) s (contributions_in fs cs)
  when_free free = ap unmatched_by (sym (free_seen ∙ free))

  pub when_bound : (list_any (is_data_of s) cs && list_all (is_free_one s) cs) ≡ false → bit_of steps s (contributions_in fs cs) ≡ bit_of (step.Unmatched ∷ steps) s (contributions_in fs cs)
  when_bound bound = ap unmatched_by (sym (free_seen ∙ bound))

-- ---- functions

abbrev pub both_one : List Step
both_one = step.Or (part.DataIn false gives.One) ∷ step.NotIf true ∷ step.Or (part.DataIn true gives.One) ∷ step.Or (part.DataIn true gives.Any) ∷ step.Unmatched ∷ []

abbrev pub both_any : List Step
both_any = step.Or (part.DataIn false gives.Any) ∷ step.NotIf true ∷ step.Or (part.DataIn true gives.One) ∷ []

abbrev pub single_one : List Step
single_one = step.Or (part.Data gives.One) ∷ []

abbrev pub single_any : List Step
single_any = step.Or (part.Data gives.Any) ∷ step.Unmatched ∷ []

unmatched : (free : Bool) (f m : Formula) → (make_or f (if free then (make_not m).what else Const false)).what ≡ (if free then (make_or f (make_not m).what).what else f)
unmatched true f m = refl
unmatched false f m = or_nothing f

abbrev with_parts : (one any : Formula) → (complement : Bool) → meant_function.Function Formula
with_parts one any complement = record { one = one; any = any; complement = complement }

abbrev pub IsMade : (cs : List (meant.Contribution Formula)) → ℕ → (one any : List Step) → (complement : Bool) → Type 0
IsMade cs s one any complement = (d : Context) → with_parts (bit_of one s cs) (bit_of any s cs) complement ≡ function_of (formulas d) cs s

module _ (cs : List (meant.Contribution Formula)) (s : ℕ) where
  abbrev by_polarity : Context → Bool → meant_function.Function Formula
  by_polarity d both = if both then both_function (formulas d) cs s else single_function (formulas d) cs s

  abbrev all_matches : Formula
  all_matches = part_sum (part.Data gives.Match) s cs

  pub both_made : is_both cs s ≡ true → IsMade cs s both_one both_any false
  both_made both d =
      ap₂ (λ x y. with_parts x y false)
      (ap (λ f. (make_or (part_sum (part.DataIn false gives.One) s cs) (make_not (make_or (part_sum (part.DataIn true gives.One) s cs) f).what).what).what) (unmatched (is_free_elsewhere cs s) (part_sum (part.DataIn true gives.Any) s cs) all_matches))
      (ap (λ f. (make_or (part_sum (part.DataIn false gives.Any) s cs) (make_not f).what).what) (or_nothing (part_sum (part.DataIn true gives.One) s cs)))
      ∙ ap (by_polarity d) (sym both)

  pub single_made : is_both cs s ≡ false → IsMade cs s single_one single_any (is_complement cs s)
  single_made single d =
      ap₂ (λ x y. with_parts x y (is_complement cs s)) (or_nothing (part_sum (part.Data gives.One) s cs)) (unmatched (is_free_elsewhere cs s) (part_sum (part.Data gives.Any) s cs) all_matches)
      ∙ ap (by_polarity d) (sym single)

-- what the tests of contributions say of what is seen of them
pub both_seen : (fs : List Formula) (s : ℕ) (cs : List Contribution) → (list_any (is_data_of_polarity false s) cs && list_any (is_data_of_polarity true s) cs) ≡ is_both (contributions_in fs cs) s
both_seen fs s cs = sym (ap₂ (λ a b. a && b) (any_map (view_contribution fs) (is_data_in false s) cs) (any_map (view_contribution fs) (is_data_in true s) cs))

pub complement_seen : (fs : List Formula) (s : ℕ) (cs : List Contribution) → list_any (λ (c : Contribution). is_data_of s c && c.complement) cs ≡ is_complement (contributions_in fs cs) s
complement_seen fs s cs = sym (any_map (view_contribution fs) (λ c. is_data_to s c && c.complement) cs)

pub raw_seen : (fs : List Formula) (s : ℕ) (cs : List Contribution) → list_any (λ (c : Contribution). is_data_of s c && is_raw c.target.extension) cs ≡ is_raw_signal (contributions_in fs cs) s
raw_seen fs s cs = sym (any_map (view_contribution fs) (λ c. is_data_to s c && is_raw c.extension) cs)

-- a function of two bits
pub function_made : (first last : List Formula) (cs : List Contribution) (s : ℕ) (one any : List Step) (complement : Bool) (a b : ExprId)
    → formula_at last a ≡ bit_of one s (contributions_in first cs) → formula_at last b ≡ bit_of any s (contributions_in first cs) → IsFunctionIn (length last) (record { one = a; any = b; complement = complement })
    → IsMade (contributions_in first cs) s one any complement → IsFunctionGiven first last cs s (record { one = a; any = b; complement = complement })
function_made first last cs s one any complement a b is_one is_any inside made = record { is = λ d. ap₂ (λ x y. with_parts x y complement) is_one is_any ∙ made d; inside = inside }

-- ---- controls

module _ (d : Context) (fs : List Formula) (s : ℕ) (e : Extension) where
  abbrev pub control_steps : (complement : Bool) → List Step
  control_steps complement = step.NotIf complement ∷ step.Or (part.Control e) ∷ []

  signed : (complement : Bool) (cs : List (meant.Contribution Formula)) → bit_of (control_steps complement) s cs ≡ (if complement then (make_not (part_sum (part.Control e) s cs)).what else part_sum (part.Control e) s cs)
  signed true cs = ap (λ f. (make_not f).what) (or_nothing (part_sum (part.Control e) s cs))
  signed false cs = or_nothing (part_sum (part.Control e) s cs)

  pub no_control : (cs : List Contribution) → first_target s e cs ≡ None → None ≡ control_of (formulas d) (contributions_in fs cs) s e
  no_control [] none = refl
  no_control (c ∷ cs) none =
      elim (cases_Bool (is_to s c && is_the_control e c.target.extension)) [
        | inl hit ↦ absurd (let bad : Some c ≡ None = rw hit at none in cc)
        | inr miss ↦ rw miss (no_control cs (rw miss at none))
      ]

  signed_control : (cs : List Contribution) (first : Contribution) → first_target s e cs ≡ Some first
      → Some (if first.complement then (make_not (part_sum (part.Control e) s (contributions_in fs cs))).what else part_sum (part.Control e) s (contributions_in fs cs)) ≡ control_of (formulas d) (contributions_in fs cs) s e
  signed_control [] first is = absurd cc
  signed_control (c ∷ cs) first is =
      elim (cases_Bool (is_to s c && is_the_control e c.target.extension)) [
        | inl hit ↦ let same : first ≡ c = (let there : Some c ≡ Some first = rw hit at is in cc) in rw (hit, same) refl
        | inr miss ↦ rw miss (signed_control cs first (rw miss at is))
      ]

  pub some_control : (cs : List Contribution) (first : Contribution) → first_target s e cs ≡ Some first
      → Some (bit_of (control_steps first.complement) s (contributions_in fs cs)) ≡ control_of (formulas d) (contributions_in fs cs) s e
  some_control cs first is = ap (λ f. Some f) (signed first.complement (contributions_in fs cs)) ∙ signed_control cs first is

-- ---- the signal's own contributions

module _ (fs : List Formula) (s : ℕ) (cs : List Contribution) where
  abbrev all : List (meant.Contribution Formula)
  all = contributions_in fs cs

  abbrev own : List (meant.Contribution Formula)
  own = contributions_in fs (filter (is_to s) cs)

  sum_own : (p : Part) → part_sum p s own ≡ part_sum p s all
  sum_own p = ap (λ xs. fold and_one (Const false) xs) (filter_own (view_contribution fs) (is_for p s) (is_to s) (outside p) cs)
    where
      outside : (q : Part) (c : Contribution) → is_to s c ≡ false → is_for q s (view_contribution fs c) ≡ false
      outside (part.Data g) c miss = rw miss refl
      outside _ c miss = rw miss refl

  any_same : (p : meant.Contribution Formula → Bool) → ((c : Contribution) → is_to s c ≡ false → p (view_contribution fs c) ≡ false) → list_any p own ≡ list_any p all
  any_same p none = any_own (view_contribution fs) p (is_to s) none cs

  free_own : is_free_elsewhere own s ≡ is_free_elsewhere all s
  free_own =
      ap₂ (λ a b. a && b) (any_same (is_data_to s) (λ c miss. rw miss refl))
      (all_own (view_contribution fs) (λ c. not (is_data_to s c) || (is_some c.block && c.dontcare)) (is_to s) (λ c miss. rw miss refl) cs)

  both_own : is_both own s ≡ is_both all s
  both_own = ap₂ (λ a b. a && b) (any_same (is_data_in false s) (λ c miss. rw miss refl)) (any_same (is_data_in true s) (λ c miss. rw miss refl))

  complement_own : is_complement own s ≡ is_complement all s
  complement_own = any_same (λ c. is_data_to s c && c.complement) (λ c miss. rw miss refl)

  function_own : (d : Context) → function_of (formulas d) own s ≡ function_of (formulas d) all s
  function_own d =
      rw (both_own, free_own, complement_own, sum_own (part.DataIn false gives.One), sum_own (part.DataIn true gives.One), sum_own (part.DataIn true gives.Any), sum_own (part.DataIn false gives.Any), sum_own (part.Data gives.One), sum_own (part.Data gives.Any), sum_own (part.Data gives.Match)) refl

  control_own : (new : List Formula) (e : Extension) (control : Option Control) → IsControlGiven fs new (filter (is_to s) cs) s e control → IsControlGiven fs new cs s e control
  control_own new e control given = record {
    is = λ d. given.is d ∙ ap (control_by (formulas d)) (filter_own (view_contribution fs) (is_control s e) (is_to s) (λ c miss. rw miss refl) cs);
    inside = given.inside;
    place = given.place ∙ ap target_place (find_own (λ (c : Contribution). is_to s c && is_the_control e c.target.extension) (is_to s) (λ c miss. rw miss refl) cs);
  }

  pub totals_own : (new : List Formula) (totals : Totals) → AreGiven fs new (filter (is_to s) cs) s totals → AreGiven fs new cs s totals
  totals_own new totals given = record {
    function = record { is = λ d. given.function.is d ∙ function_own d; inside = given.function.inside };
    raw = given.raw ∙ any_same (λ c. is_data_to s c && is_raw c.extension) (λ c miss. rw miss refl);
    enable = control_own new extension.Oe totals.controls.enable given.enable;
    reset = control_own new extension.Ar totals.controls.reset given.reset;
    preset = control_own new extension.Sp totals.controls.preset given.preset;
    place = given.place ∙ ap target_place (find_own (λ (c : Contribution). is_to s c && is_data c.target.extension) (is_to s) (λ c miss. rw miss refl) cs);
  }
