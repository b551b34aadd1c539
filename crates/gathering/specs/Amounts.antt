-- What all contributions to a signal amount to, in the terms of the language (ABEL-HDL Reference Manual, equations).
use Rattle.std.specs.Prelude.{◌≡◌, ℕ, ◌&&◌, Option, List, length, find, map}
use Rattle.gathering.specs.Prelude.{Place, Control, Formula, Extension, is_data, is_the_control, control_of, Context, formulas, function_of, is_raw_signal, plain_function, plain_control, IsFunctionIn, IsControlIn, view_contribution, Contribution}
use Rattle.std.specs.Option.{option_map}
use Rattle.bit_expr.specs.declared.netlist.Function.{Function}
use Rattle.abel_tree.specs.declared.words.Extension.TheVariants as extension
use Rattle.abel_meaning.specs.Contributions as meant
use Rattle.gathering.specs.Parts.{is_to}
use Rattle.gathering.specs.declared.signal.Totals.{Totals}

-- the contributions of a list over the formulas of an arena
abbrev pub contributions_in : List Formula → List Contribution → List (meant.Contribution Formula)
contributions_in fs cs = map (view_contribution fs) cs

-- the first contribution to a control of the signal
abbrev pub first_target : ℕ → Extension → List Contribution → Option Contribution
first_target s e cs = find (λ (c : Contribution). is_to s c && is_the_control e c.target.extension) cs

-- the first contribution of data to the signal
abbrev pub first_data : ℕ → List Contribution → Option Contribution
first_data s cs = find (λ (c : Contribution). is_to s c && is_data c.target.extension) cs

-- the place of a control, and of a contribution
abbrev pub control_place : Option Control → Option Place
control_place control = option_map (λ (c : Control). c.place) control

abbrev pub target_place : Option Contribution → Option Place
target_place first = option_map (λ (c : Contribution). c.place) first

-- a function in the second arena is the signal's by contributions in the first
pub record IsFunctionGiven (old new : List Formula) (cs : List Contribution) (s : ℕ) (f : Function) : Type 0 where
  pub is : (d : Context) → plain_function new f ≡ function_of (formulas d) (contributions_in old cs) s
  pub inside : IsFunctionIn (length new) f

-- a control in the second arena is the signal's by contributions in the first, with the place of the first of them
pub record IsControlGiven (old new : List Formula) (cs : List Contribution) (s : ℕ) (e : Extension) (control : Option Control) : Type 0 where
  pub is : (d : Context) → plain_control new control ≡ control_of (formulas d) (contributions_in old cs) s e
  pub inside : IsControlIn (length new) control
  pub place : control_place control ≡ target_place (first_target s e cs)

-- function and controls in the second arena are the signal's by contributions in the first, with the place of the first
-- data
pub record AreGiven (old new : List Formula) (cs : List Contribution) (s : ℕ) (totals : Totals) : Type 0 where
  pub function : IsFunctionGiven old new cs s totals.function
  pub raw : totals.raw ≡ is_raw_signal (contributions_in old cs) s
  pub enable : IsControlGiven old new cs s extension.Oe totals.controls.enable
  pub reset : IsControlGiven old new cs s extension.Ar totals.controls.reset
  pub preset : IsControlGiven old new cs s extension.Sp totals.controls.preset
  pub place : totals.place ≡ target_place (first_data s cs)
