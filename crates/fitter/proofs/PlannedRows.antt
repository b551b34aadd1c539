-- The rows of fuses that were burned for a plan: which cubes they hold, that they are switched on, and which are used.
use Rattle.std.proofs.Common.{◌≡◌, ℕ, zero, suc, ◌+◌, ◌<◌, ◌≤◌, Bool, true, false, ◌==◌, List, [], ◌∷◌, length, get_or, replicate, slice_get, Option, Some, None, refl, sym, ap, ◌∙◌, subst, arith, inl, inr, is_some}
use Rattle.fitter.proofs.Common.{bit_at, list_any, range_with_len, option_to_list, cases_Bool, get_or-map-range_with_len, length-map-range_with_len, list_any_at, get_or_from_slice_get, slice_get-get_or, slice_get_within, Row, IsDevice, is_switched_on, row_fuses, Table, cell_at, CellWanted, Netlist, ExprId, Cube, full_cube, is_used, all_turned, IsCoverBetween, Products, CellForm, CellPlan, Plan, IsBurned, form_at, cube_for, of_cell, planned, HoldsCubes, fuse_at, row_of, zeros, HasCellPlan, PlansAs, PlansNetlist, cell_wanted}
use Rattle.fit_plans.specs.FuseLists.{planned_row}
use Rattle.fit_plans.proofs.PlannedCubes.{each_planned}
use Rattle.fit_plans.proofs.OwnedRows.{enable_owner, planned_data, preset_owner, reset_owner}
use Rattle.fitter.proofs.BurnedControls.{holder_on, switch_as}
use Rattle.fitter.proofs.CubeWitness.{asks_one_level}

none_of : (n : ℕ) → list_any (λ (b : Bool). b) (replicate n false) ≡ false
none_of zero = refl
none_of (suc n) = none_of n

-- the cube doesn't ask the first variable to be both 1 and 0
abbrev pub IsSingle : Cube → Type 0
IsSingle c = (bit_at c.yes 0 == 0) ≡ false → (bit_at c.no 0 == 0) ≡ false → ⊥

same_cube : (c d : Cube) → Some c ≡ Some d → c ≡ d
same_cube c d e = cc

same_plan : (x y : CellPlan) → Some x ≡ Some y → x ≡ y
same_plan x y e = cc

-- ---- a row that holds such a cube has a fuse at 1

some_on : (t : Table) (c : Cube) (column : ℕ) → column < t.columns → fuse_at c column ≡ true → list_any (λ (b : Bool). b) (row_of t c) ≡ true
unfolding row_of
some_on t c column low on =
    list_any_at (λ (b : Bool). b) (row_of t c) column false (let long = length-map-range_with_len (fuse_at c) 0 t.columns in omega (arith, long, low))
    (get_or-map-range_with_len (fuse_at c) 0 t.columns column column false low (omega arith) ∙ on)

pub row_used : (t : Table) (c : Cube) → 2 ≤ t.columns → IsSingle c → list_any (λ (b : Bool). b) (row_of t c) ≡ true
row_used t c some single =
    elim (cases_Bool (bit_at c.yes 0 == 0)) [
      | inl off ↦ some_on t c 0 (omega (arith, some)) off
      | inr one ↦ elim (cases_Bool (bit_at c.no 0 == 0)) [
        | inl off ↦ some_on t c 1 (omega (arith, some)) off
        | inr none ↦ absurd (single one none)
      ]
    ]

pub zeros_unused : (t : Table) → list_any (λ (b : Bool). b) (zeros t) ≡ false
unfolding zeros
zeros_unused t = none_of t.columns

module _ (t : Table) (laws : IsDevice t) (net : Netlist) (mask : ℕ) (plan : Plan) (forms : List CellForm) (fuses : List Bool)
    (plans : PlansNetlist t mask net plan forms) (burned : IsBurned t plan forms fuses) where
  some_pair : 0 < length t.pairs
  some_pair = omega (arith, laws.sizes.columns_even, laws.sizes.columns_low)

  -- ---- each cube of the plan is such a cube

  cover_single : (needed allowed : Products) (rows : List Cube) → IsCoverBetween (length t.pairs) mask needed allowed rows → (i : ℕ) (c : Cube) → slice_get rows i ≡ Some c → IsSingle c
  cover_single needed allowed rows cover i c there one none =
      let within = slice_get_within rows i c there in
      let same : c ≡ get_or rows i full_cube = sym (get_or_from_slice_get rows i c full_cube there) in
      asks_one_level (all_turned mask cover.needs) (all_turned mask cover.allows) (length t.pairs) rows cover.prime i within 0 some_pair
      (ap (λ d. bit_at d.yes 0 == 0) (sym same) ∙ one) (ap (λ d. bit_at d.no 0 == 0) (sym same) ∙ none)

  control_single : (needed allowed : Products) (row : Option Cube) → IsCoverBetween (length t.pairs) mask needed allowed (option_to_list row) → (c : Cube) → row ≡ Some c → IsSingle c
  control_single needed allowed row cover c is = cover_single needed allowed (option_to_list row) cover 0 c (rw is refl)

  pub cell_single : (c : ℕ) (wanted : Option CellWanted) (x : CellPlan) (form : CellForm) → PlansAs t mask net c wanted x form → (i : ℕ) (d : Cube) → slice_get x.rows i ≡ Some d → IsSingle d
  cell_single c None x form is i d there = absurd (let none : slice_get x.rows i ≡ None = rw is.rows refl in none_some d (sym none ∙ there))
    where
      none_some : (e : Cube) → None ≡ Some e → ⊥
      none_some e is = absurd cc
  cell_single c (Some w) x form is i d there = cover_single _ _ x.rows is.rows i d there

  enable_single : (c : ℕ) (wanted : Option CellWanted) (x : CellPlan) (form : CellForm) → PlansAs t mask net c wanted x form → (d : Cube) → x.enable ≡ Some d → IsSingle d
  enable_single c None x form is d there = absurd (none_some d (sym is.enable ∙ there))
    where
      none_some : (e : Cube) → None ≡ Some e → ⊥
      none_some e is = absurd cc
  enable_single c (Some w) x form is d there = control_single _ _ x.enable is.enable d there

  -- the plan of a cell that is there
  plan_of : (c : ℕ) (x : CellPlan) → slice_get plan.cells c ≡ Some x → PlansAs t mask net c (cell_wanted net c) x (form_at forms c)
  plan_of c x there =
      let within = slice_get_within plan.cells c x there in
      let has = plans.cells c (omega (arith, within, plans.count)) in
      subst (λ y. PlansAs t mask net c (cell_wanted net c) y (form_at forms c)) (same_plan has.cell x (sym has.there ∙ there)) has.planned

  planned_single : (row : ℕ) (d : Cube) → planned t plan row ≡ Some d → IsSingle d
  planned_single row d is =
      each_planned t plan IsSingle (λ c i x e there here. cell_single c (cell_wanted net c) x (form_at forms c) (plan_of c x there) i e here)
      (λ c x e there here. enable_single c (cell_wanted net c) x (form_at forms c) (plan_of c x there) e here)
      (λ e here. control_single _ _ plan.reset plans.reset.covers_it e here) (λ e here. control_single _ _ plan.preset plans.preset.covers_it e here) row d is

  -- ---- rows

  used_as : (row : ℕ) (o : Option Cube) → row < t.rows → planned t plan row ≡ o → is_used t fuses row ≡ is_some o
  used_as row None within is = ap (list_any (λ (b : Bool). b)) (burned.rows row within ∙ ap (planned_row t) is) ∙ zeros_unused t
  used_as row (Some c) within is =
      ap (list_any (λ (b : Bool). b)) (burned.rows row within ∙ ap (planned_row t) is)
      ∙ row_used t c laws.sizes.columns_low (planned_single row c is)

  -- a row that isn't planned isn't used
  pub unused_row : (row : ℕ) → row < t.rows → planned t plan row ≡ None → is_used t fuses row ≡ false
  unused_row row within is = used_as row None within is

  pub switches : (row : ℕ) → row < length t.row_switches → is_switched_on t fuses row ≡ is_used t fuses row
  switches row within =
      switch_as t laws plan forms fuses burned row within ∙ sym (used_as row (planned t plan row) (omega (arith, within, laws.switches_end)) refl)

  -- the data rows of a cell hold its cubes, and are switched on
  pub data_planned : (c : ℕ) → c < length t.cells → (x : CellPlan) → slice_get plan.cells c ≡ Some x → (i : ℕ) → i < (cell_at t c).room
      → planned t plan ((cell_at t c).first + i) ≡ slice_get x.rows i
  data_planned c within x there i low = planned_data t laws plan x c i within there low

  pub data_on : (c : ℕ) → c < length t.cells → (x : CellPlan) → slice_get plan.cells c ≡ Some x → length x.rows ≤ (cell_at t c).room
      → (i : ℕ) → i < length x.rows → is_switched_on t fuses ((cell_at t c).first + i) ≡ true
  data_on c within x there fit i low =
      holder_on t laws plan forms fuses burned ((cell_at t c).first + i) (get_or x.rows i full_cube)
      (data_planned c within x there i (omega (arith, low, fit)) ∙ slice_get-get_or x.rows i full_cube low)

  pub enable_planned : (c row : ℕ) → c < length t.cells → (x : CellPlan) → slice_get plan.cells c ≡ Some x → (cell_at t c).enable ≡ Row row → planned t plan row ≡ x.enable
  enable_planned c row within x there is = ap (cube_for plan) (enable_owner t laws row c within is) ∙ ap (of_cell (λ (y : CellPlan). y.enable)) there

  pub reset_planned : (row : ℕ) → t.reset ≡ Some row → planned t plan row ≡ plan.reset
  reset_planned row is = ap (cube_for plan) (reset_owner t laws row is)

  pub preset_planned : (row : ℕ) → t.preset ≡ Some row → planned t plan row ≡ plan.preset
  preset_planned row is = ap (cube_for plan) (preset_owner t laws row is)

  -- a row that holds one cube or none
  pub one_row : (row : ℕ) (o : Option Cube) → row < t.rows → planned t plan row ≡ o → HoldsCubes t fuses row 1 (option_to_list o)
  one_row row None within is = record {
    fit = omega arith;
    rows = λ i low. absurd (omega (arith, low));
    rest = λ i past low. let e : row + i ≡ row = omega (arith, low) in rw e (burned.rows row within ∙ ap (planned_row t) is);
  }
  one_row row (Some c) within is = record {
    fit = omega arith;
    rows = λ i low.
        let e : row + i ≡ row = omega (arith, low) in
        let z : i ≡ 0 = omega (arith, low) in
        rw (e, z) (burned.rows row within ∙ ap (planned_row t) is);
    rest = λ i past low. absurd (omega (arith, past, low));
  }

  pub one_on : (row : ℕ) (o : Option Cube) → planned t plan row ≡ o → (i : ℕ) → i < length (option_to_list o) → is_switched_on t fuses (row + i) ≡ true
  one_on row None is i low = absurd (omega (arith, low))
  one_on row (Some c) is i low = let e : row + i ≡ row = omega (arith, low) in rw e (holder_on t laws plan forms fuses burned row c is)
