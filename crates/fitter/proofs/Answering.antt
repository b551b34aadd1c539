-- The answers of fitting, by what the steps on the way answered.
use Rattle.std.proofs.Common.{◌≡◌, ◌≢◌, ℕ, ◌<◌, ◌≤◌, Bool, true, List, length, get_or, slice_get, Option, Some, None, refl, sym, ap, ◌∙◌, subst, arith}
use Rattle.fitter.proofs.Common.{bit_xor, length-map, length_permutation, same_Some, slice_get_within, Flip, AfterRegister, Always, BeforeRegister, IsDevice, pin_complements, is_inverted, Table, cell_at, CellWanted, Netlist, Wanted, plain_netlist, IsSoundNetlist, Cube, all_turned, turned, Tried, HasCellPlan, IsTurnMask, PlansNetlist, PlansRows, cell_wanted, enable_bit, is_chosen, control_function, CellPlan, Plan, form_at, HoldsCubes, SharedControl, Preset, Reset, CellCovers, HasCheckedAs, HasCoversAs, FittedCell, CellRows, SharedRows, HasControls, IsFitOf, IsTooMany, CoversBelow, AreRowsInOrder, AreRowsOf, EachFitsBelow, HasSharedRow, IsEntryOf, IsManyRows, IsOverAt, IsSingleRow, RowsBelow, SingleBelow, EnablesBelow, IsFirstSum, IsProduct, IsSharedProduct, IsDirectOver, IsFittedEntry, Rises, IsTurnedCell}
use Rattle.fitter.proofs.BurnedControls.{says_inverted}
use Rattle.fitter.proofs.PlannedRows.{cell_single}
use Rattle.fitter.proofs.PlansFit.{may_choose, plans_fit}
use Rattle.fitter.proofs.SharedChosen.{shared_chosen}
use Rattle.fitter.specs.declared.answer.Fitted.{Fitted}
use Rattle.fitter.specs.declared.planning.AllRows.{AllRows}
use Rattle.fitter.specs.Fitting.{IsBurnedPlan, plan_of}
use Rattle.fitter.proofs.Controls.{first_of_one, is_no_product, is_product}
use Rattle.fitter.proofs.CellPlans.{over_at, plan_as}
use Rattle.fitter.proofs.CoversInTurn.{none_wide}
use Rattle.fitter.proofs.FittingCovers.{each_fits_below, fitting_cover}
use Rattle.fitter.proofs.RowOrder.{rows_in_order}
use Rattle.fitter.proofs.TurnedPlans.{both_is, turned_as, turned_control}

-- ---- controls

module _ (t : Table) (laws : IsDevice t) (net : Netlist) (sound : IsSoundNetlist t net) (mask : ℕ) (mask_is : IsTurnMask t (plain_netlist net) mask) where
  few_pairs : length t.pairs ≤ 32
  few_pairs = omega (arith, laws.sizes.columns_even, laws.sizes.columns_high)

  pub shared_product : (which : SharedControl) (row : Option Cube) → HasSharedRow t mask net which row → IsSharedProduct t net which
  shared_product which row has = record { bit = has.bit; shared = has.shared; product = is_product (length t.pairs) mask net has.bit few_pairs mask_is.low row has.covers_it }

  -- the enable of a cell with one row at most
  enable_product : (wanted : Option CellWanted) (w : CellWanted) (found : Option CellCovers) → wanted ≡ Some w → HasCheckedAs t mask net wanted found → IsSingleRow found
      → IsProduct (length t.pairs) net (enable_bit w)
  enable_product None w found is has one = absurd cc
  enable_product (Some v) w None is has one = absurd has
  enable_product (Some v) w (Some x) is has one =
      let same : v ≡ w = same_some is in
      subst (λ u. IsProduct (length t.pairs) net (enable_bit u)) same
      (is_product (length t.pairs) mask net (enable_bit v) few_pairs mask_is.low (slice_get x.enable.items 0)
      (subst (PlansRows (length t.pairs) mask net (control_function (enable_bit v)) true) (first_of_one x.enable.items one) has.enable))
    where
      same_some : Some v ≡ Some w → v ≡ w
      same_some e = cc

  pub enables_below : (covers : List (Option CellCovers)) (c : ℕ) → CoversBelow t mask net (length t.cells) covers → c ≤ length t.cells → SingleBelow covers c → EnablesBelow t net c
  enables_below covers c below few single d w low is =
      enable_product (cell_wanted net d) w (get_or covers d None) is (below.each d (omega (arith, low, few))) (single d low)

  first_sum_of : (wanted : Option CellWanted) (c : ℕ) (found : Option CellCovers) → cell_wanted net c ≡ wanted → HasCheckedAs t mask net wanted found → IsManyRows found → EnablesBelow t net c
      → IsFirstSum t net c
  first_sum_of None c None is has many before = absurd many
  first_sum_of None c (Some x) is has many before = absurd has
  first_sum_of (Some w) c None is has many before = absurd has
  first_sum_of (Some w) c (Some x) is has many before = record {
    cell = w;
    wanted = is;
    many = is_no_product (length t.pairs) mask net (enable_bit w) few_pairs mask_is.low x.enable.items has.enable many;
    before = before;
  }

  pub first_sum : (covers : List (Option CellCovers)) (c : ℕ) → CoversBelow t mask net (length t.cells) covers → c < length t.cells → IsManyRows (get_or covers c None) → SingleBelow covers c
      → IsFirstSum t net c
  first_sum covers c below low many single =
      first_sum_of (cell_wanted net c) c (get_or covers c None) refl (below.each c low) many (enables_below covers c below (omega (arith, low)) single)

  -- ---- all controls

  module _ (covers : List (Option CellCovers)) (shared : SharedRows) (below : CoversBelow t mask net (length t.cells) covers)
      (reset : HasSharedRow t mask net Reset shared.reset) (preset : HasSharedRow t mask net Preset shared.preset) (single : SingleBelow covers (length t.cells)) where
    controls : HasControls t net
    controls = record {
      wide = none_wide t mask net sound covers below;
      reset = shared_product Reset shared.reset reset;
      preset = shared_product Preset shared.preset preset;
      enables = enables_below covers (length t.cells) below (omega arith) single;
    }

    pub too_many : (c : ℕ) (tried : Tried) → c < length t.cells → IsOverAt t c (get_or covers c None) tried → EachFitsBelow t covers c → IsTooMany t net c tried
    too_many c tried low over fit = record {
      controls = controls;
      mask = mask;
      mask_is = mask_is;
      over = over_at t mask net c (cell_wanted net c) (get_or covers c None) tried refl (below.tried c low fit) over;
      before = λ d w less is. fitting_cover t mask net d (cell_wanted net d) w (get_or covers d None) refl is (below.tried d (omega (arith, less, low)) (λ e before. fit e (omega (arith, before, less)))) (fit d less);
    }

    -- ---- fuses

    module _ (rows : AllRows) (are : RowsBelow t covers (length t.cells) rows.plans.items rows.forms.items) (fitted : Fitted) (is : IsBurnedPlan t net shared rows fitted) where
      -- each cell has its covers, since each has one that fits
      covers_at : (c : ℕ) → c < length t.cells → HasCoversAs t mask net (cell_wanted net c) (get_or covers c None)
      covers_at c low = below.tried c low (λ d less. each_fits_below t covers (length t.cells) rows.plans.items rows.forms.items are d (omega (arith, less, low)))

      -- the plan of the rows that were turned, under the mask of the chosen forms
      abbrev plan : Plan
      plan = plan_of is.choice shared is.plans

      abbrev both : ℕ
      both = bit_xor mask is.choice

      cell_plans : (c : ℕ) → c < length t.cells → HasCellPlan t both net plan rows.forms.items c
      cell_plans c low =
          let has = are.each c low in
          let new = is.turned_are.each c has.plan has.there in
          record {
            cell = new.cell;
            there = new.there;
            planned = turned_as t laws mask is.choice mask_is.low is.choice_is.low net c (cell_wanted net c) has.plan new.cell (form_at rows.forms.items c)
                (plan_as t mask net c (cell_wanted net c) (get_or covers c None) (record { plan = has.plan; form = form_at rows.forms.items c }) refl (covers_at c low) has.rows (single c low)) new.is;
          }

      plans : PlansNetlist t both net plan rows.forms.items
      plans =
          let control = turned_control t laws mask is.choice mask_is.low is.choice_is.low net in
          let may = may_choose t net sound rows.forms.items in
          record {
            mask_is = both_is t net sound rows.forms.items mask is.choice mask_is is.choice_is;
            count = is.turned_are.count ∙ are.plans_count;
            cells = cell_plans;
            reset = record { bit = reset.bit; within = reset.shared.id.within; shared = reset.shared.formula; covers_it = control reset.bit shared.reset reset.covers_it };
            preset = record { bit = preset.bit; within = preset.shared.id.within; shared = preset.shared.formula; covers_it = control preset.bit shared.preset preset.covers_it };
            resets_shared = shared_chosen t laws (plain_netlist net) (is_chosen net rows.forms.items) may (λ (w : Wanted). w.reset) (λ w. refl) reset.shared.shared;
            presets_shared = shared_chosen t laws (plain_netlist net) (is_chosen net rows.forms.items) may (λ (w : Wanted). w.preset) (λ w. refl) preset.shared.shared;
          }

      pin_as : (flip : Flip) (registered a b : Bool) → (flip ≢ Always → a ≡ b) → pin_complements flip registered b ≡ pin_complements flip registered a
      pin_as Always registered a b same = refl
      pin_as AfterRegister registered a b same = sym (same (λ e. absurd cc))
      pin_as BeforeRegister registered a b same = ap (pin_complements BeforeRegister registered) (sym (same (λ e. absurd cc)))

      -- the rows of an assigned cell fit
      rows_fit : (c : ℕ) (wanted : Option CellWanted) (w : CellWanted) (found : Option CellCovers) (r : CellRows) (y : CellPlan) → wanted ≡ Some w → HasCoversAs t mask net wanted found → AreRowsOf t c found r
          → IsTurnedCell t is.choice r.plan y → length y.rows ≤ (cell_at t c).room
      rows_fit c None w found r y e has of new = absurd cc
      rows_fit c (Some v) w None r y e has of new = absurd has
      rows_fit c (Some v) w (Some x) r y e has of new =
          let fit = of.fit in
          omega (arith, fit, ap length of.rows_are, length_permutation (all_turned is.choice r.plan.rows) y.rows new.same, length-map r.plan.rows (turned is.choice))

      -- an assigned cell is inverted only if its direct form doesn't fit
      direct_over : (c : ℕ) (wanted : Option CellWanted) (w : CellWanted) (found : Option CellCovers) (r : CellRows) → wanted ≡ Some w → HasCoversAs t mask net wanted found → AreRowsOf t c found r
          → r.form.inverted ≡ true → IsDirectOver t net c w
      direct_over c None w found r e has of on = absurd cc
      direct_over c (Some v) w None r e has of on = absurd has
      direct_over c (Some v) w (Some x) r e has of on =
          subst (IsDirectOver t net c) (same_Some v w e) (record { mask = mask; mask_is = mask_is; cover = x.tried.direct; tried = has.tried.direct; over = of.over on })

      entry : (x : FittedCell) → IsEntryOf t net is.plans rows.forms.items x → IsFittedEntry t net fitted.fuses x
      entry x of =
          let there = slice_get_within is.plans x.cell of.plan of.there in
          let low : x.cell < length t.cells = omega (arith, there, is.turned_are.count, are.plans_count) in
          let has = are.each x.cell low in
          let new = is.turned_are.each x.cell has.plan has.there in
          let same : new.cell ≡ of.plan = same_Some new.cell of.plan (sym new.there ∙ of.there) in
          let fit = rows_fit x.cell (cell_wanted net x.cell) of.cell (get_or covers x.cell None) (record { plan = has.plan; form = form_at rows.forms.items x.cell }) new.cell of.wanted (covers_at x.cell low) has.rows new.is in
          let rows_are : new.cell.rows ≡ x.rows = ap (λ (p : CellPlan). p.rows) same ∙ sym of.rows in
          record {
            cell = of.cell;
            wanted = of.wanted;
            inverted = of.inverted ∙ pin_as t.flip of.cell.registered (is_inverted t fitted.fuses x.cell) (form_at rows.forms.items x.cell).inverted
                (says_inverted t laws plan rows.forms.items fitted.fuses is.burned x.cell low);
            rows = subst (HoldsCubes t fitted.fuses (cell_at t x.cell).first (cell_at t x.cell).room) rows_are (is.burned.cells x.cell new.cell low new.there fit);
            rise = subst (Rises t.columns) rows_are new.is.rise;
            direct_first = λ free on.
                direct_over x.cell (cell_wanted net x.cell) of.cell (get_or covers x.cell None) (record { plan = has.plan; form = form_at rows.forms.items x.cell }) of.wanted (covers_at x.cell low) has.rows
                (sym (says_inverted t laws plan rows.forms.items fitted.fuses is.burned x.cell low free) ∙ on);
          }

      in_order : (c : ℕ) (w : CellWanted) → c < length t.cells → cell_wanted net c ≡ Some w → AreRowsInOrder t fitted.fuses c
      unfolding cell_plans
      in_order c w low asked =
          let has = are.each c low in
          let new = is.turned_are.each c has.plan has.there in
          let fit = rows_fit c (cell_wanted net c) w (get_or covers c None) (record { plan = has.plan; form = form_at rows.forms.items c }) new.cell asked (covers_at c low) has.rows new.is in
          rows_in_order t fitted.fuses c new.cell.rows laws.sizes.columns_low (is.burned.cells c new.cell low new.there fit)
          (cell_single t laws net both plan rows.forms.items fitted.fuses plans is.burned c (cell_wanted net c) new.cell (form_at rows.forms.items c) (cell_plans c low).planned)
          new.is.rise

      pub fit_of : IsFitOf t net fitted
      fit_of = record {
        controls = controls;
        fits = plans_fit t net both plan rows.forms.items fitted.fuses laws sound plans is.burned;
        cells = record {
          entries = λ k d within. entry (get_or fitted.cells k d) (is.entries.entries k d within);
          order = is.entries.order;
          each = is.entries.each;
        };
        order = in_order;
      }
