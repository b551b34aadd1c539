-- The reset or preset that all registers of a netlist share is that of the design.
use Rattle.std.proofs.Common.{◌≡◌, ℕ, suc, ◌≤◌, Bool, true, false, nat_lt, List, [], ◌∷◌, slice_get, Option, Some, None, refl, ap, ap₂, ◌∙◌, inl, inr, arith, is_some, IsSome, IfSome, unwrap_or, if◌then◌else◌}
use Rattle.netlist_laws.proofs.Common.{option_map, cases_Bool, le-ltb, Levels, Formula, Const, formula_value, Extension, Entry, is_stored, truth_at, given_at, Evaluator, Contribution, control_if_stored, shared_from, Context, Design, formulas, Wanted, earlier_name, first_with, own_of, given_formulas, formula_control, wanted_for, cell_of, and_cell, cells_from}

-- a signal that isn't stored has no such control
unstored : {W : Type 0} (ev : Evaluator W) (cs : List (Contribution W)) (e : Extension) (s : ℕ) (x : Entry) → is_stored x ≡ false → control_if_stored ev cs e s x ≡ None
unstored ev cs e s x is = rw is refl

module _ (d : Context) (cs : List (Contribution Formula)) (e : Extension) (own : Wanted → Option Formula) (own_is : (c s : ℕ) (x : Entry) → own (wanted_for d cs c s x) ≡ control_if_stored (formulas d) cs e s x) where
  -- the names of the cells are those of the list
  abbrev FromOn : ℕ → Option Wanted → Type 0
  FromOn s w = IfSome w (λ w. s ≤ w.name)

  later : (s : ℕ) (w : Option Wanted) → FromOn (suc s) w → FromOn s w
  later s None from = tt
  later s (Some w) from = omega (arith, from)

  kept : (s : ℕ) (w : Wanted) (rest : Option Wanted) → w.name ≡ s → FromOn (suc s) rest → earlier_name w rest ≡ w
  kept s w None is from = refl
  kept s w (Some v) is from = let no_less : nat_lt v.name w.name ≡ false = le-ltb v.name w.name (omega (arith, is, from)) in rw no_less refl

  first_of : (s : ℕ) (w : Wanted) (ws : List Wanted) → w.name ≡ s → FromOn (suc s) (first_with own ws) → first_with own (w ∷ ws) ≡ if is_some (own w) then Some w else first_with own ws
  first_of s w ws is from =
      elim (cases_Bool (is_some (own w))) [
        | inl some ↦ rw some (ap (λ v. Some v) (kept s w (first_with own ws) is from))
        | inr none ↦ rw none refl
      ]

  from_on : (s : ℕ) (c : Option ℕ) (x : Entry) (ws : List Wanted) → FromOn (suc s) (first_with own ws) → FromOn s (first_with own (and_cell (option_map (λ c. wanted_for d cs c s x) c) ws))
  from_on s None x ws from = later s (first_with own ws) from
  from_on s (Some c) x ws from =
      rw (first_of s (wanted_for d cs c s x) ws refl from) (by (is_some (own (wanted_for d cs c s x))))
    where
      by : (b : Bool) → FromOn s (if b then Some (wanted_for d cs c s x) else first_with own ws)
      by true = omega arith
      by false = later s (first_with own ws) from

  all_from_on : (s : ℕ) (xs : List Entry) → FromOn s (first_with own (cells_from d cs s xs))
  all_from_on s [] = tt
  all_from_on s (x ∷ xs) = from_on s (cell_of d.device x) x (cells_from d cs (suc s) xs) (all_from_on (suc s) xs)

  abbrev shared_of : List Wanted → Formula
  shared_of ws = unwrap_or (own_of own (first_with own ws)) (Const false)

  chosen : (w : Wanted) (f : Option Formula) (rest : Option Wanted) → own w ≡ f → unwrap_or (own_of own (if is_some f then Some w else rest)) (Const false) ≡ unwrap_or f (unwrap_or (own_of own rest) (Const false))
  chosen w None rest is = refl
  chosen w (Some f) rest is = rw is refl

  with_one : (s : ℕ) (c : Option ℕ) (x : Entry) (ws : List Wanted) → (is_stored x ≡ true → IsSome c) → FromOn (suc s) (first_with own ws)
      → shared_of (and_cell (option_map (λ c. wanted_for d cs c s x) c) ws) ≡ unwrap_or (control_if_stored (formulas d) cs e s x) (shared_of ws)
  with_one s None x ws has from =
      elim (cases_Bool (is_stored x)) [
        | inl stored ↦ absurd (nothing (has stored))
        | inr combinational ↦ rw (unstored (formulas d) cs e s x combinational) refl
      ]
    where
      nothing : false ≡ true → ⊥
      nothing e = absurd cc
  with_one s (Some c) x ws has from =
      rw (first_of s (wanted_for d cs c s x) ws refl from)
      (chosen (wanted_for d cs c s x) (own (wanted_for d cs c s x)) (first_with own ws) refl
      ∙ ap (λ f. unwrap_or f (shared_of ws)) (own_is c s x))

  pub shared_is : (s : ℕ) (xs : List Entry) → ((k : ℕ) (x : Entry) → slice_get xs k ≡ Some x → is_stored x ≡ true → IsSome (cell_of d.device x)) → shared_of (cells_from d cs s xs) ≡ shared_from (formulas d) cs e s xs
  shared_is s [] has = refl
  shared_is s (x ∷ xs) has =
      with_one s (cell_of d.device x) x (cells_from d cs (suc s) xs) (has 0 x refl) (all_from_on (suc s) xs)
      ∙ ap (λ f. unwrap_or (control_if_stored (formulas d) cs e s x) f) (shared_is (suc s) xs (λ k y. has (suc k) y))

-- ---- at a point

pub unwrapped : (at : Levels) (f : Option Formula) (rest : Formula) → formula_value at (unwrap_or f rest) ≡ unwrap_or (option_map (formula_value at) f) (formula_value at rest)
unwrapped at None rest = refl
unwrapped at (Some f) rest = refl

pub stored_value : (d : Design) (at : Levels) (e : Extension) (s : ℕ) (x : Entry) → option_map (formula_value at) (control_if_stored (formulas d.context) (given_formulas d) e s x) ≡ control_if_stored (truth_at d.context at) (given_at d at) e s x
stored_value d at e s x =
    elim (cases_Bool (is_stored x)) [
      | inl stored ↦ rw stored (formula_control d at s e)
      | inr combinational ↦ rw combinational refl
    ]

-- the shared formula has the value of the shared control
pub shared_value : (d : Design) (at : Levels) (e : Extension) (s : ℕ) (xs : List Entry) → formula_value at (shared_from (formulas d.context) (given_formulas d) e s xs) ≡ shared_from (truth_at d.context at) (given_at d at) e s xs
shared_value d at e s [] = refl
shared_value d at e s (x ∷ xs) =
    unwrapped at (control_if_stored (formulas d.context) (given_formulas d) e s x) _
    ∙ ap₂ (λ f r. unwrap_or f r) (stored_value d at e s x) (shared_value d at e (suc s) xs)
