-- Fuses that hold a plan for a netlist are those of the netlist under the choice that they show.
use Rattle.std.proofs.Common.{◌≡◌, ◌≢◌, ℕ, ◌+◌, ◌-◌, ◌<◌, ◌≤◌, Bool, true, false, not, ◌&&◌, ◌||◌, if◌then◌else◌, List, [], length, slice_get, Option, Some, None, refl, sym, ap, ap₂, ◌∙◌, subst, arith, unwrap_or}
use Rattle.fitter.proofs.Common.{range_with_len, option_map, option_to_list, slice_get_past, same_level, IsPoint, Levels, PinLow, Driven, Released, Row, Flip, AfterRegister, Always, BeforeRegister, Combinational, Either, Registered, IsDevice, complement_if, data_complements, data_rows, pin_complements, is_inverted, says, stores, stores_by, IsDataRow, Table, cell_at, no_cell, registered_at, preset_in, reset_in, CellWanted, Function, Netlist, ExprId, arena, formula_at, Const, Formula, formula_value, allows_plain, PlainNetlist, Wanted, function_at, plain_netlist, plain_wanted, shared_function, wanted_at, enable_of, netlist_stores, registers_as, IsSoundNetlist, IsSound, IsSoundFormula, IsSoundFree, MayRegister, Cube, IsExactRow, IsPrimeCover, is_used, IsFitted, IsFittedAs, IsFittedCell, IsFittedEnable, IsFittedShared, IsSpareCell, or_complements, or_may_be, data_row_below, all_turned, one_of, one_or_any, control_function, follows_as, may_be_inverted_as, names_or, or_is_complement, rows_are_positive, CellForm, CellPlan, Plan, IsBurned, form_at, planned, IsSoundId, IsFunctionOf, PlansAs, PlansCell, PlansControl, PlansFit, PlansNetlist, PlansShared, PlansSpare, cell_wanted, enable_bit, is_chosen, is_free_cell, exchanged_at, in_sense, MayExchangeIn, formula_exchanged, function_exchanged, is_free_wanted, netlist_exchanged, shown, wanted_exchanged, shared_exchanged, wanted_at_exchanged, function_value_exchanged, value_exchanged}
use Rattle.pld_device.specs.declared.enable.Enable.{Enable}
use Rattle.pld_device.specs.declared.kinds.Kinds.{Kinds}
use Rattle.netlist_laws.proofs.ExchangedSound.{exchanged_is_sound}
use Rattle.netlist_laws.proofs.FoundCells.{found as found_cell}
use Rattle.netlist_laws.proofs.FreeCells.{free_may_exchange}
use Rattle.netlist_laws.proofs.SameChoices.{same_netlist}
use Rattle.fitter.proofs.BurnedControls.{fixed_levels, others_off, says_inverted, says_registered}
use Rattle.fitter.proofs.CubeRows.{cubes_cover}
use Rattle.fitter.proofs.NodeRanks.{signal_ranks}
use Rattle.fitter.proofs.PairLevels.{allowed_value, allows_value, needed_value, needs_value}
use Rattle.fitter.proofs.PlannedRows.{data_on, data_planned, enable_planned, one_on, one_row, preset_planned, reset_planned, switches, unused_row}
use Rattle.fitter.proofs.Polarity.{allowed_one, allowed_other, needed_one, needed_other, or_may}
use Rattle.fitter.proofs.WantedIds.{IsSoundIdCell, found_id, enable_id, enable_is, function_ids, shared_sound, sound_id_at, wanted_is, zero_is, zero_sound}

-- ---- kinds

spare_as : (kinds : Kinds) (chosen : Bool) → (kinds ≡ Either → chosen ≡ false) → stores_by kinds chosen ≡ stores_by kinds false
spare_as Combinational chosen either = refl
spare_as Registered chosen either = refl
spare_as Either chosen either = either refl

wanted_as : (kinds : Kinds) (chosen registered : Bool) → MayRegister kinds registered → (kinds ≡ Either → chosen ≡ registered) → stores_by kinds chosen ≡ registered
wanted_as Combinational chosen registered may either = sym may
wanted_as Registered chosen registered may either = sym may
wanted_as Either chosen registered may either = either refl

-- ---- polarities

complements_as : (flip : Flip) (registered a b : Bool) → (flip ≢ Always → a ≡ b)
    → (if registered then data_complements flip a else pin_complements flip false a) ≡ or_is_complement flip registered b
complements_as Always true a b same = refl
complements_as Always false a b same = refl
complements_as AfterRegister true a b same = refl
complements_as AfterRegister false a b same = same (λ e. absurd cc)
complements_as BeforeRegister true a b same = ap not (same (λ e. absurd cc))
complements_as BeforeRegister false a b same = same (λ e. absurd cc)

after_register : (flip : Flip) (w : CellWanted) (inverted : Bool) → flip ≡ AfterRegister → w.registered ≡ true → (w.free ≡ true → w.buffer ≡ true) → may_be_inverted_as flip w inverted ≡ true
    → inverted ≡ not (follows_as w inverted)
after_register flip w inverted is registered follows may = by w.free w.buffer inverted follows (rw (is, registered) at may)
  where
    by : (free buffer inverted : Bool) → (free ≡ true → buffer ≡ true) → (free || same_level inverted (not buffer)) ≡ true → inverted ≡ not (complement_if (free && inverted) buffer)
    by true buffer true follows may = rw (follows refl) refl
    by true buffer false follows may = rw (follows refl) refl
    by false true true follows may = absurd cc
    by false true false follows may = refl
    by false false true follows may = refl
    by false false false follows may = absurd cc

sense_as : (b v : Bool) → in_sense b v ≡ complement_if b v
sense_as true v = refl
sense_as false v = refl

after_flips : (flip : Flip) → flip ≡ AfterRegister → flip ≢ Always
after_flips Always is = absurd cc
after_flips AfterRegister is = λ e. absurd cc
after_flips BeforeRegister is = absurd cc

-- a device that leaves a register free complements after it
free_behind : (t : Table) (net : Netlist) → IsSoundNetlist t net → (c : ℕ) → is_free_wanted (wanted_at (plain_netlist net) c) ≡ true → t.flip ≡ AfterRegister
free_behind t net sound c free = by (wanted_at (plain_netlist net) c) refl free
  where
    by : (found : Option Wanted) → wanted_at (plain_netlist net) c ≡ found → is_free_wanted found ≡ true → t.flip ≡ AfterRegister
    by None is on = absurd cc
    by (Some w) is on = ((found_cell (λ (v : Wanted). v.free ≡ true → IsSoundFree t (plain_netlist net) v) (plain_netlist net).cells c w sound.sound.free is).has on).behind

-- ---- the choice

free_same : (net : Netlist) (c : ℕ) → is_free_wanted (wanted_at (plain_netlist net) c) ≡ is_free_cell (cell_wanted net c)
free_same net c = ap is_free_wanted (wanted_is net c) ∙ of (cell_wanted net c)
  where
    of : (found : Option CellWanted) → is_free_wanted (option_map (plain_wanted (arena net.exprs)) found) ≡ is_free_cell found
    of None = refl
    of (Some w) = refl

free_first : (a b : Bool) → (a && b) ≡ true → a ≡ true
free_first true b both = refl
free_first false b both = absurd cc

-- the free cells that are inverted may be exchanged
pub may_choose : (t : Table) (net : Netlist) → IsSoundNetlist t net → (forms : List CellForm) → MayExchangeIn t (plain_netlist net) (is_chosen net forms)
may_choose t net sound forms =
    free_may_exchange t (plain_netlist net) (is_chosen net forms) sound.sound
    (λ c on. free_same net c ∙ free_first (is_free_cell (cell_wanted net c)) (form_at forms c).inverted on)

same_true : (b : Bool) → same_level b true ≡ b
same_true true = refl
same_true false = refl

or_off : (b : Bool) → (b || false) ≡ b
or_off true = refl
or_off false = refl

module _ (t : Table) (laws : IsDevice t) (net : Netlist) (sound : IsSoundNetlist t net) (mask : ℕ) (plan : Plan) (forms : List CellForm) (fuses : List Bool)
    (plans : PlansNetlist t mask net plan forms) (burned : IsBurned t plan forms fuses) where
  -- the free cells that are inverted
  abbrev z : ℕ → Bool
  z = is_chosen net forms

  may_z : MayExchangeIn t (plain_netlist net) z
  may_z = may_choose t net sound forms

  -- the netlist under the choice
  sound_under : IsSound t (netlist_exchanged z (plain_netlist net))
  sound_under = exchanged_is_sound t (plain_netlist net) z sound.sound may_z

  low_z : (c : ℕ) → z c ≡ true → c < 32
  low_z c on = let few = laws.sizes.few_cells in omega (arith, (may_z c on).0, few)

  -- a cell stores if the netlist has a register
  kind_as : (c : ℕ) → c < length t.cells → (found : Option CellWanted) → cell_wanted net c ≡ found → (x : CellPlan) → PlansAs t mask net c found x (form_at forms c)
      → stores t fuses c ≡ registers_as (cell_at t c).kinds (option_map (plain_wanted (arena net.exprs)) found)
  kind_as c within None is x planned_as =
      spare_as (cell_at t c).kinds (says fuses (registered_at t c)) (λ either. says_registered t laws plan forms fuses burned c within either ∙ planned_as.registered)
  kind_as c within (Some w) is x planned_as =
      wanted_as (cell_at t c).kinds (says fuses (registered_at t c)) w.registered (sound_id_at t net sound c w is).at.kind
      (λ either. says_registered t laws plan forms fuses burned c within either ∙ planned_as.registered)

  kinds : (c : ℕ) → c < length t.cells → stores t fuses c ≡ netlist_stores t (plain_netlist net) c
  kinds c within =
      let has = plans.cells c within in
      kind_as c within (cell_wanted net c) refl has.cell has.planned
      ∙ ap (registers_as (cell_at t c).kinds) (sym (wanted_is net c))

  -- ---- a control's row

  module _ (bit : ExprId) (id : IsSoundId t net bit) where
    control_needs : (at : Levels) → needed_value net (control_function bit) true at ≡ formula_value at (formula_at (arena net.exprs) bit)
    control_needs at = same_true (formula_value at (formula_at (arena net.exprs) bit))

    control_allows : (at : Levels) → allowed_value net (control_function bit) true at ≡ formula_value at (formula_at (arena net.exprs) bit)
    control_allows at =
        same_true (formula_value at (one_or_any net (control_function bit)))
        ∙ (ap (λ f. formula_value at (formula_at (arena net.exprs) bit) || formula_value at f) (zero_is net) ∙ or_off (formula_value at (formula_at (arena net.exprs) bit)))

    exact : (row : ℕ) (o : Option Cube) → row < t.rows → planned t plan row ≡ o → PlansControl (length t.pairs) mask net bit o
        → IsExactRow t (netlist_exchanged z (plain_netlist net)) fuses (formula_exchanged z (formula_at (arena net.exprs) bit)) row
    exact row o within is cover =
        cubes_cover t laws fuses burned.size (netlist_exchanged z (plain_netlist net)) sound_under (signal_ranks t (netlist_exchanged z (plain_netlist net)) sound_under) row 1 (option_to_list o)
        (one_row t laws net mask plan forms fuses plans burned row o within is) (one_on t laws net mask plan forms fuses plans burned row o is) (omega (arith, within))
        (all_turned mask cover.needs) (all_turned mask cover.allows) (λ at. formula_value at (formula_exchanged z (formula_at (arena net.exprs) bit))) (λ at. formula_value at (formula_exchanged z (formula_at (arena net.exprs) bit)))
        (λ at valued. value_exchanged z low_z at valued.is_point (formula_at (arena net.exprs) bit) ∙ (sym (control_needs (exchanged_at z at)) ∙ needs_value t laws net sound z may_z mask plans.mask_is fuses kinds (control_function bit) id (zero_sound t net) true cover.needs cover.needs_is at valued))
        (λ at valued. value_exchanged z low_z at valued.is_point (formula_at (arena net.exprs) bit) ∙ (sym (control_allows (exchanged_at z at)) ∙ allows_value t laws net sound z may_z mask plans.mask_is fuses kinds (control_function bit) id (zero_sound t net) true cover.allows cover.allows_is at valued))
        cover.prime

  -- ---- an assigned cell

  module _ (c : ℕ) (within : c < length t.cells) (w : CellWanted) (is : cell_wanted net c ≡ Some w) (x : CellPlan) (there : slice_get plan.cells c ≡ Some x)
      (cell : PlansCell t mask net c w x (form_at forms c)) where
    ids : IsSoundIdCell t net sound c w
    ids = sound_id_at t net sound c w is

    -- it is chosen to store the complement if it is free and inverted
    z_is : z w.cell ≡ (w.free && (form_at forms c).inverted)
    z_is = ap z (found_id (λ (v : CellWanted). Unit {0}) net.cells c w (λ k v low. tt) is).cell ∙ ap (λ found. is_free_cell found && (form_at forms c).inverted) is

    follows_is : in_sense (z w.cell) w.buffer ≡ follows_as w (form_at forms c).inverted
    follows_is = ap (λ b. in_sense b w.buffer) z_is ∙ sense_as (w.free && (form_at forms c).inverted) w.buffer

    -- and its pin follows Q until then
    direct : w.free ≡ true → w.buffer ≡ true
    direct free =
        let found : wanted_at (plain_netlist net) c ≡ Some (plain_wanted (arena net.exprs) w) = wanted_is net c ∙ ap (option_map (plain_wanted (arena net.exprs))) is in
        ((found_cell (λ (v : Wanted). v.free ≡ true → IsSoundFree t (plain_netlist net) v) (plain_netlist net).cells c (plain_wanted (arena net.exprs) w) sound.sound.free found).has free).buffer

    complements : or_complements t fuses c (wanted_exchanged z (plain_wanted (arena net.exprs) w)) ≡ or_is_complement t.flip w.registered (form_at forms c).inverted
    complements = complements_as t.flip w.registered (is_inverted t fuses c) (form_at forms c).inverted (says_inverted t laws plan forms fuses burned c within)

    -- the rows have the complement of what `one` has
    negative : Bool
    negative = complement_if w.function.complement (names_or t.flip w (form_at forms c).inverted)

    or_is : (at : Levels) → IsPoint at → (v : Bool) → or_may_be t fuses c (wanted_exchanged z (plain_wanted (arena net.exprs) w)) at v
        ≡ allows_plain (formula_value (exchanged_at z at) (one_of net w.function)) (formula_value (exchanged_at z at) (formula_at (arena net.exprs) w.function.any)) (complement_if negative v)
    unfolding negative
    or_is at point v =
        or_may (wanted_exchanged z (plain_wanted (arena net.exprs) w)) (function_at at (wanted_exchanged z (plain_wanted (arena net.exprs) w)).function) (or_complements t fuses c (wanted_exchanged z (plain_wanted (arena net.exprs) w))) v
        ∙ (ap (λ b. allows_plain (formula_value at (formula_exchanged z (one_of net w.function))) (formula_value at (formula_exchanged z (formula_at (arena net.exprs) w.function.any)))
        (complement_if (complement_if w.function.complement (if w.raw then b else complement_if w.negated (complement_if (w.registered && not (in_sense (z w.cell) w.buffer)) b))) v)) complements
        ∙ (ap (λ b. allows_plain (formula_value at (formula_exchanged z (one_of net w.function))) (formula_value at (formula_exchanged z (formula_at (arena net.exprs) w.function.any)))
        (complement_if (complement_if w.function.complement (if w.raw then or_is_complement t.flip w.registered (form_at forms c).inverted else complement_if w.negated (complement_if (w.registered && not b) (or_is_complement t.flip w.registered (form_at forms c).inverted)))) v)) follows_is
        ∙ ap₂ (λ a b. allows_plain a b (complement_if (complement_if w.function.complement (names_or t.flip w (form_at forms c).inverted)) v))
        (value_exchanged z low_z at point (one_of net w.function)) (value_exchanged z low_z at point (formula_at (arena net.exprs) w.function.any))))

    needed_by : (b : Bool) (at : Levels) → not (allows_plain (formula_value at (one_of net w.function)) (formula_value at (formula_at (arena net.exprs) w.function.any)) (complement_if b false))
        ≡ needed_value net w.function (not b) at
    needed_by true at = needed_other (formula_value at (one_of net w.function)) (formula_value at (formula_at (arena net.exprs) w.function.any))
    needed_by false at = needed_one (formula_value at (one_of net w.function)) (formula_value at (formula_at (arena net.exprs) w.function.any))

    allowed_by : (b : Bool) (at : Levels) → allows_plain (formula_value at (one_of net w.function)) (formula_value at (formula_at (arena net.exprs) w.function.any)) (complement_if b true)
        ≡ allowed_value net w.function (not b) at
    allowed_by true at = allowed_other (formula_value at (one_of net w.function)) (formula_value at (formula_at (arena net.exprs) w.function.any))
    allowed_by false at = allowed_one (formula_value at (one_of net w.function)) (formula_value at (formula_at (arena net.exprs) w.function.any))

    cell_rows : IsPrimeCover t (netlist_exchanged z (plain_netlist net)) fuses (data_rows t c)
        (λ at. not (or_may_be t fuses c (wanted_exchanged z (plain_wanted (arena net.exprs) w)) at false)) (λ at. or_may_be t fuses c (wanted_exchanged z (plain_wanted (arena net.exprs) w)) at true)
    unfolding negative
    cell_rows =
        let both = function_ids t net sound c w ids in
        cubes_cover t laws fuses burned.size (netlist_exchanged z (plain_netlist net)) sound_under (signal_ranks t (netlist_exchanged z (plain_netlist net)) sound_under) (cell_at t c).first (cell_at t c).room x.rows
        (burned.cells c x within there cell.fit) (data_on t laws net mask plan forms fuses plans burned c within x there cell.fit) (laws.cells c no_cell within).data_below
        (all_turned mask cell.rows.needs) (all_turned mask cell.rows.allows) _ _
        (λ at valued. ap not (or_is at valued.is_point false) ∙ (needed_by negative (exchanged_at z at) ∙ needs_value t laws net sound z may_z mask plans.mask_is fuses kinds w.function both.0 both.1 (rows_are_positive t.flip w (form_at forms c).inverted) cell.rows.needs cell.rows.needs_is at valued))
        (λ at valued. or_is at valued.is_point true ∙ (allowed_by negative (exchanged_at z at) ∙ allows_value t laws net sound z may_z mask plans.mask_is fuses kinds w.function both.0 both.1 (rows_are_positive t.flip w (form_at forms c).inverted) cell.rows.allows cell.rows.allows_is at valued))
        cell.rows.prime

    enable_under : (o : Option Formula) → unwrap_or (option_map (formula_exchanged z) o) (Const true) ≡ formula_exchanged z (unwrap_or o (Const true))
    enable_under None = refl
    enable_under (Some f) = refl

    enable_by : (e : Enable) → (cell_at t c).enable ≡ e → IsFittedEnable t (netlist_exchanged z (plain_netlist net)) fuses (enable_of (wanted_exchanged z (plain_wanted (arena net.exprs) w))) e
    enable_by (PinLow pin) enables = tt
    enable_by Driven enables = tt
    enable_by Released enables = tt
    enable_by (Row row) enables =
        subst (λ f. IsExactRow t (netlist_exchanged z (plain_netlist net)) fuses f row) (ap (formula_exchanged z) (enable_is net w) ∙ sym (enable_under (plain_wanted (arena net.exprs) w).enable))
        (exact (enable_bit w) (enable_id t net sound c w ids) row x.enable ((laws.cells c no_cell within).enable_below row enables)
        (enable_planned t laws net mask plan forms fuses plans burned c row within x there enables) cell.enable)

    fitted_cell : IsFittedCell t (netlist_exchanged z (plain_netlist net)) fuses c (wanted_exchanged z (plain_wanted (arena net.exprs) w))
    fitted_cell = record {
      kind = λ either. says_registered t laws plan forms fuses burned c within either ∙ cell.registered;
      polarity = λ registered flip.
          says_inverted t laws plan forms fuses burned c within (after_flips t.flip flip) ∙ (after_register t.flip w (form_at forms c).inverted flip registered direct cell.may ∙ ap not (sym follows_is));
      enable = enable_by (cell_at t c).enable refl;
      rows = cell_rows;
    }

  -- ---- a cell that is assigned nothing

  spare_cell : (c : ℕ) → c < length t.cells → (x : CellPlan) → slice_get plan.cells c ≡ Some x → PlansSpare x (form_at forms c) → IsSpareCell t fuses c
  spare_cell c within x there spare = record {
    kind = λ either. says_registered t laws plan forms fuses burned c within either ∙ spare.registered;
    polarity = λ flips. says_inverted t laws plan forms fuses burned c within flips ∙ spare.inverted;
    enable = λ row enables. unused_row t laws net mask plan forms fuses plans burned row ((laws.cells c no_cell within).enable_below row enables)
        (enable_planned t laws net mask plan forms fuses plans burned c row within x there enables ∙ spare.enable);
    rows = λ row is. data_unused row is;
  }
    where
      at_place : (row i : ℕ) → row ≡ (cell_at t c).first + i → i < (cell_at t c).room → row < t.rows → is_used t fuses row ≡ false
      at_place row i is low below =
          unused_row t laws net mask plan forms fuses plans burned row below
          (ap (planned t plan) is ∙ (data_planned t laws net mask plan forms fuses plans burned c within x there i low ∙ ap (λ rows. slice_get rows i) spare.rows))

      data_unused : (row : ℕ) → IsDataRow t c row → is_used t fuses row ≡ false
      data_unused row is = at_place row (row - (cell_at t c).first) (omega (arith, is.0)) (omega (arith, is.0, is.1)) (data_row_below t laws c row within is)

  fitted_as : (c : ℕ) → c < length t.cells → (found : Option CellWanted) → cell_wanted net c ≡ found → (x : CellPlan) → slice_get plan.cells c ≡ Some x
      → PlansAs t mask net c found x (form_at forms c) → IsFittedAs t (netlist_exchanged z (plain_netlist net)) fuses c (option_map (wanted_exchanged z) (option_map (plain_wanted (arena net.exprs)) found))
  fitted_as c within None is x there planned_as = spare_cell c within x there planned_as
  fitted_as c within (Some w) is x there planned_as = fitted_cell c within w is x there planned_as

  -- ---- the shared controls

  shared_row : (own : Wanted → Option Formula) → ((w : Wanted) → own (wanted_exchanged z w) ≡ option_map (formula_exchanged z) (own w)) → (o : Option Cube) (device : Option ℕ) → PlansShared t mask net own o
      → IsSoundFormula t (plain_netlist net) (shared_function own (plain_netlist net))
      → ((row : ℕ) → device ≡ Some row → (row < t.rows) × (planned t plan row ≡ o)) → IsFittedShared t (netlist_exchanged z (plain_netlist net)) fuses (shared_function own (netlist_exchanged z (plain_netlist net))) device
  shared_row own own_is o None shared readable at = tt
  shared_row own own_is o (Some row) shared readable at =
      let here = at row refl in
      let id : IsSoundId t net shared.bit = record { within = shared.within; formula = subst (IsSoundFormula t (plain_netlist net)) (sym shared.shared) readable } in
      subst (λ f. IsExactRow t (netlist_exchanged z (plain_netlist net)) fuses f row) (ap (formula_exchanged z) shared.shared ∙ sym (shared_exchanged z own own_is (plain_netlist net)))
      (exact shared.bit id row o here.0 here.1 shared.covers_it)

  fits : IsFitted t (netlist_exchanged z (plain_netlist net)) fuses
  fits = record {
    size = burned.size;
    cells = λ c within.
        let has = plans.cells c within in
        subst (IsFittedAs t (netlist_exchanged z (plain_netlist net)) fuses c) (sym (wanted_at_exchanged z (plain_netlist net) c ∙ ap (option_map (wanted_exchanged z)) (wanted_is net c)))
        (fitted_as c within (cell_wanted net c) refl has.cell has.there has.planned);
    reset = shared_row (λ (w : Wanted). w.reset) (λ w. refl) plan.reset t.reset plans.reset (shared_sound t net sound (λ (w : Wanted). w.reset) t.reset (λ w law. law.reset))
        (λ row is. (reset_in t laws row is, reset_planned t laws net mask plan forms fuses plans burned row is));
    preset = shared_row (λ (w : Wanted). w.preset) (λ w. refl) plan.preset t.preset plans.preset (shared_sound t net sound (λ (w : Wanted). w.preset) t.preset (λ w law. law.preset))
        (λ row is. (preset_in t laws row is, preset_planned t laws net mask plan forms fuses plans burned row is));
    resets_shared = plans.resets_shared;
    presets_shared = plans.presets_shared;
    switches = switches t laws net mask plan forms fuses plans burned;
    fixed = fixed_levels t laws plan forms fuses burned;
    others = others_off t laws plan forms fuses burned;
  }

  -- the fuses show the choice of the plan
  shown_same : (c : ℕ) → z c ≡ shown t fuses (plain_netlist net) c
  shown_same c = by (is_free_cell (cell_wanted net c)) refl
    where
      by : (free : Bool) → is_free_cell (cell_wanted net c) ≡ free → z c ≡ shown t fuses (plain_netlist net) c
      by true free =
          let wanted = free_same net c ∙ free in
          let may = free_may_exchange t (plain_netlist net) (λ d. is_free_wanted (wanted_at (plain_netlist net) d)) sound.sound (λ d on. on) c wanted in
          let behind = free_behind t net sound c wanted in
          ap (λ b. b && (form_at forms c).inverted) free
          ∙ (sym (says_inverted t laws plan forms fuses burned c may.0 (after_flips t.flip behind))
          ∙ ap (λ b. b && is_inverted t fuses c) (sym wanted))
      by false free = ap (λ b. b && (form_at forms c).inverted) free ∙ ap (λ b. b && is_inverted t fuses c) (sym (free_same net c ∙ free))

pub plans_fit : PlansFit
plans_fit t net mask plan forms fuses laws sound plans burned =
    subst (λ (n : PlainNetlist). IsFitted t n fuses)
    (same_netlist (is_chosen net forms) (shown t fuses (plain_netlist net)) (shown_same t laws net sound mask plan forms fuses plans burned) (plain_netlist net))
    (fits t laws net sound mask plan forms fuses plans burned)
