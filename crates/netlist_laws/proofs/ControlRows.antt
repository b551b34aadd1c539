-- The rows of the controls of a fitted module, and the cells that it leaves over.
use Rattle.std.proofs.Common.{arith, ◌≡◌, ℕ, ◌<◌, Bool, true, false, ◌||◌, List, [], ◌∷◌, length, Option, Some, None, refl, sym, ap, ◌∙◌, subst, inl, inr}
use Rattle.netlist_laws.proofs.Common.{option_map, cases_Bool, eq-eqb, true≢false, Levels, exchanged_refines, Row, IsDevice, row_value, Table, cell_at, no_cell, has, Formula, formula_value, Extension, Entry, ModuleTree, control_if_stored, signal_on, Design, design_of, name_at, formulas, PlainNetlist, Wanted, shared_function, wanted_at, drives, enable_of, given_formulas, IsSound, MayExchangeIn, formula_exchanged, netlist_exchanged, netlist_shown, shown, wanted_exchanged, IsExactRow, is_used, IsFitted, IsFittedAs, IsFittedEnable, IsFittedShared, netlist_of, wanted_for, RegistersHaveCells, FittedControlsAreOwn, FittedSparesAreUnused, IsValuedPoint, chosen_logic}
use Rattle.abel_tree.specs.declared.words.Extension.TheVariants as extension
use Rattle.netlist_laws.proofs.ExchangedCells.{shared_exchanged, wanted_at_exchanged}
use Rattle.netlist_laws.proofs.ExchangedFormulas.{value_exchanged}
use Rattle.netlist_laws.proofs.ExchangedLogic.{exchanged_means_so}
use Rattle.netlist_laws.proofs.BoolLaws.{both_ways}
use Rattle.netlist_laws.proofs.UnusedRows.{unused_value}
use Rattle.netlist_laws.proofs.CellsFound.{wanted_found}
use Rattle.netlist_laws.proofs.Meaning.{gathered_means_the_same}
use Rattle.netlist_laws.proofs.SharedControls.{shared_is, shared_value}
use Rattle.netlist_laws.specs.Controls.{HasControlRows, IsRowOf, seen_at, shared_at}
use Rattle.netlist_laws.proofs.Choosing.{fits_choice, may_choose}
use Rattle.netlist_laws.proofs.ModulePoints.{choice, valued_back, valued_there}

or_off : (b : Bool) → (b || false) ≡ b
or_off true = refl
or_off false = refl

-- ---- a row with a formula's value

module _ (t : Table) (m : ModuleTree) (fuses : List Bool) (laws : IsDevice t) (may : MayExchangeIn t (netlist_of t m) (choice t m fuses)) (value : Levels → Bool) (row : ℕ) where
  own_row : has (row ∷ []) row ≡ true
  own_row = rw (eq-eqb row row refl) refl

  exact_row : (f : Formula) → ((at : Levels) → IsValuedPoint t m fuses at → formula_value at f ≡ value at) → IsExactRow t (netlist_exchanged (choice t m fuses) (netlist_of t m)) fuses f row → IsRowOf t m fuses value row
  exact_row f is exact = record {
    same = λ at valued.
        both_ways (row_value t fuses at row) (value at)
        (λ on. sym (is at valued) ∙ exact.at_allowed at (valued_there t m fuses laws may at valued) (or_off (row_value t fuses at row) ∙ on))
        (λ on. sym (or_off (row_value t fuses at row)) ∙ exact.at_needed at (valued_there t m fuses laws may at valued) (is at valued ∙ on));
    prime = λ used column low closed all.
        exact.no_literal row own_row used column low closed (λ at valued without. is at (valued_back t m fuses laws may at valued) ∙ all at (valued_back t m fuses laws may at valued) without);
    zero = λ never. elim (cases_Bool (is_used t fuses row)) [
      | inl used ↦ absurd (exact.no_row row own_row used (λ at valued on. absurd (true≢false (sym on ∙ (is at (valued_back t m fuses laws may at valued) ∙ never at (valued_back t m fuses laws may at valued))))))
      | inr unused ↦ unused
    ];
  }

  -- one that is all 0
  unused_row : length fuses ≡ t.fuses → row < t.rows → is_used t fuses row ≡ false → ((at : Levels) → IsValuedPoint t m fuses at → value at ≡ false) → IsRowOf t m fuses value row
  unused_row size low unused never = record {
    same = λ at valued. unused_value t laws fuses size row at low unused ∙ sym (never at valued);
    prime = λ used column within closed all. true≢false (sym used ∙ unused);
    zero = λ all. unused;
  }

-- ---- cells that nothing assigns

module _ (t : Table) (m : ModuleTree) (x : ℕ → Bool) (laws : IsDevice t) (c : ℕ) (within : c < length t.cells) where
  abbrev d : Design
  d = design_of t m

  abbrev its : ℕ → Wanted
  its s = wanted_for d.context (given_formulas d) c s (name_at d.context s)

  wanted_is : (found : Option ℕ) → signal_on (design_of t m).context c ≡ found → wanted_at (netlist_exchanged x (netlist_of t m)) c ≡ option_map (wanted_exchanged x) (option_map its found)
  wanted_is found is =
      wanted_at_exchanged x (netlist_of t m) c
      ∙ ap (option_map (wanted_exchanged x)) (wanted_found d.context (given_formulas d) laws c within ∙ ap (λ s. option_map its s) is)

pub spares_are_unused : FittedSparesAreUnused
spares_are_unused t m net fuses laws same fitted c within none =
    subst (IsFittedAs t (netlist_shown t fuses net) fuses c)
    (ap (λ n. wanted_at (netlist_exchanged (shown t fuses net) n) c) same ∙ wanted_is t m (shown t fuses net) laws c within None none) (fitted.cells c within)

-- ---- the controls

module _ (t : Table) (m : ModuleTree) (fuses : List Bool) (laws : IsDevice t) (has_cells : RegistersHaveCells (design_of t m).context) (may : MayExchangeIn t (netlist_of t m) (choice t m fuses))
    (fitted : IsFitted t (netlist_exchanged (choice t m fuses) (netlist_of t m)) fuses) where
  abbrev net : PlainNetlist
  net = netlist_exchanged (choice t m fuses) (netlist_of t m)

  low : (c : ℕ) → choice t m fuses c ≡ true → c < 32
  low c on = let few = laws.sizes.few_cells in omega (arith, (may c on).0, few)

  -- a module enables a cell just as its netlist does
  enabled_by : (c row : ℕ) (wanted : Option Wanted) (at : Levels) → c < length t.cells → (cell_at t c).enable ≡ Row row → wanted_at net c ≡ wanted → IsValuedPoint t m fuses at
      → drives at wanted (Row row) ≡ (chosen_logic t m fuses).enabled at c
  enabled_by c row wanted at within enable is valued =
      let means = exchanged_means_so t (netlist_of t m) (choice t m fuses) laws may in
      let module_means = exchanged_refines (choice t m fuses) _ _ (gathered_means_the_same t m laws has_cells).to in
      sym (ap (λ w. drives at w (Row row)) is)
      ∙ (sym (ap (drives at (wanted_at net c)) enable)
      ∙ ((means.to.allows at valued.is_point).enabled c within ∙ (module_means.allows at valued.is_point).enabled c within))

  enable_as : (c row : ℕ) (wanted : Option Wanted) → c < length t.cells → (cell_at t c).enable ≡ Row row → wanted_at net c ≡ wanted → IsFittedAs t net fuses c wanted
      → IsRowOf t m fuses (λ at. (chosen_logic t m fuses).enabled at c) row
  enable_as c row None within enable is spare =
      unused_row t m fuses laws may (λ at. (chosen_logic t m fuses).enabled at c) row fitted.size ((laws.cells c no_cell within).enable_below row enable) (spare.enable row enable)
      (λ at valued. sym (enabled_by c row None at within enable is valued))
  enable_as c row (Some w) within enable is cell =
      exact_row t m fuses laws may (λ at. (chosen_logic t m fuses).enabled at c) row (enable_of w) (λ at valued. enabled_by c row (Some w) at within enable is valued)
      (subst (IsFittedEnable t net fuses (enable_of w)) enable cell.enable)

  -- what all registers share
  shared_row : (e : Extension) (own : Wanted → Option Formula)
      → ((c s : ℕ) (x : Entry) → own (wanted_for (design_of t m).context (given_formulas (design_of t m)) c s x) ≡ control_if_stored (formulas (design_of t m).context) (given_formulas (design_of t m)) e s x)
      → ((w : Wanted) → own (wanted_exchanged (choice t m fuses) w) ≡ option_map (formula_exchanged (choice t m fuses)) (own w))
      → (found : Option ℕ) → IsFittedShared t net fuses (shared_function own net) found → (row : ℕ) → found ≡ Some row
      → IsRowOf t m fuses (λ at. shared_at t m e (seen_at t m fuses at)) row
  shared_row e own own_is exchanged_is found shared row is =
      let d = design_of t m in
      exact_row t m fuses laws may (λ at. shared_at t m e (seen_at t m fuses at)) row (shared_function own net)
      (λ at valued.
      ap (formula_value at) (shared_exchanged (choice t m fuses) own exchanged_is (netlist_of t m))
      ∙ (value_exchanged (choice t m fuses) low at valued.is_point (shared_function own (netlist_of t m))
      ∙ (ap (formula_value (seen_at t m fuses at)) (shared_is d.context (given_formulas d) e own own_is 0 d.context.names has_cells) ∙ shared_value d (seen_at t m fuses at) e 0 d.context.names)))
      (subst (IsFittedShared t net fuses (shared_function own net)) is shared)

  control_rows : HasControlRows t m fuses
  control_rows = record {
    enables = λ c row within enable. enable_as c row (wanted_at net c) within enable refl (fitted.cells c within);
    reset = shared_row extension.Ar (λ (w : Wanted). w.reset) (λ c s x. refl) (λ w. refl) t.reset fitted.reset;
    preset = shared_row extension.Sp (λ (w : Wanted). w.preset) (λ c s x. refl) (λ w. refl) t.preset fitted.preset;
  }

pub controls_are_own : FittedControlsAreOwn
controls_are_own t m net fuses laws has_cells same sound fitted =
    let own = subst (IsSound t) same sound in
    control_rows t m fuses laws has_cells (may_choose t m fuses laws own)
    (fits_choice t m fuses laws (subst (λ (n : PlainNetlist). IsFitted t (netlist_shown t fuses n) fuses) same fitted))
