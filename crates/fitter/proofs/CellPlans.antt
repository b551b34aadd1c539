-- Plans of cells by their covers.
use Rattle.std.proofs.Common.{◌≡◌, ◌⊎◌, ℕ, ◌+◌, ◌<◌, ◌≤◌, Bool, true, false, List, [], ◌∷◌, ◌++◌, length, get_or, slice_get, Option, Some, None, Err, refl, sym, ap, ◌∙◌, subst, arith, inl, inr}
use Rattle.fitter.proofs.Common.{Vec, option_to_list, cases_Bool, cases_lt, get_or_append_left, length-append, get_or-append_seam, slice_get-get_or, Table, cell_at, CellWanted, Netlist, get_kept, Cube, Tried, FitsRoom, allowed_of, needed_of, PlansAs, PlansCell, PlansRows, cell_wanted, enable_bit, IsTriedAs, IsTriedCell, control_function, may_be_inverted_as, rows_are_positive, CellForm, CellPlan, form_at, CellCovers, HasCovers, HasCoversAs, CellRows, FitFault, AreChosen, ArePlanned, ArePlannedAt, AreRowsOf, EachFitsBelow, HasRowsAt, IsOver, IsOverAt, IsSingleRow, RowsBelow, SingleBelow, IsHeavier, IsOverRoom}
use Rattle.fitter.proofs.WantedIds.{found_id}
use Rattle.fitter.specs.declared.fault.FitFault.TheVariants as fault
use Rattle.fitter.proofs.Controls.{first_of_one}

-- ---- one cell more

plan_kept : (plans : List CellPlan) (p : CellPlan) (d : ℕ) (x : CellPlan) → slice_get plans d ≡ Some x → slice_get (plans ++ p ∷ []) d ≡ Some x
plan_kept plans p d x there = get_kept plans (p ∷ []) d x there

plan_last : (plans : List CellPlan) (p : CellPlan) (c : ℕ) → length plans ≡ c → slice_get (plans ++ p ∷ []) c ≡ Some p
plan_last plans p c count =
    slice_get-get_or (plans ++ p ∷ []) c p (omega (arith, count, length-append plans (p ∷ [])))
    ∙ ap (λ (x : CellPlan). Some x) (subst (λ n. get_or (plans ++ p ∷ []) n p ≡ p) count (get_or-append_seam plans p [] p))

form_kept : (forms : List CellForm) (f : CellForm) (d c : ℕ) → length forms ≡ c → d < c → form_at (forms ++ f ∷ []) d ≡ form_at forms d
form_kept forms f d c count low = get_or_append_left forms (f ∷ []) _ d (omega (arith, count, low))

form_last : (forms : List CellForm) (f : CellForm) (c : ℕ) → length forms ≡ c → form_at (forms ++ f ∷ []) c ≡ f
form_last forms f c count = subst (λ n. form_at (forms ++ f ∷ []) n ≡ f) count (get_or-append_seam forms f [] _)

pub rows_none : (t : Table) (covers : List (Option CellCovers)) → RowsBelow t covers 0 [] []
rows_none t covers = record { plans_count = refl; forms_count = refl; each = λ d low. absurd (omega (arith, low)) }

pub rows_more : (t : Table) (covers : List (Option CellCovers)) (c : ℕ) (plans : List CellPlan) (forms : List CellForm) (rows : CellRows) → RowsBelow t covers c plans forms
    → AreRowsOf t c (get_or covers c None) rows → RowsBelow t covers (c + 1) (plans ++ rows.plan ∷ []) (forms ++ rows.form ∷ [])
rows_more t covers c plans forms rows before here = record {
  plans_count = let count = before.plans_count in omega (arith, count, length-append plans (rows.plan ∷ []));
  forms_count = let count = before.forms_count in omega (arith, count, length-append forms (rows.form ∷ []));
  each = λ d low. elim (cases_lt d c) [
    | inl less ↦
        let has = before.each d less in
        record {
          plan = has.plan;
          there = plan_kept plans rows.plan d has.plan has.there;
          rows = subst (λ (f : CellForm). AreRowsOf t d (get_or covers d None) (record { plan = has.plan; form = f })) (sym (form_kept forms rows.form d c before.forms_count less)) has.rows;
        }
    | inr more ↦
        let same : d ≡ c = omega (arith, low, more) in
        subst (HasRowsAt t covers (plans ++ rows.plan ∷ []) (forms ++ rows.form ∷ [])) (sym same) (record {
          plan = rows.plan;
          there = plan_last plans rows.plan c before.plans_count;
          rows = subst (λ (f : CellForm). AreRowsOf t c (get_or covers c None) (record { plan = rows.plan; form = f })) (sym (form_last forms rows.form c before.forms_count)) here;
        })
  ];
}

-- ---- plans by covers

none_some : {X : Type 0} (x : X) → None ≡ Some x → ⊥
none_some x e = absurd cc

-- the cover of a form that was tried
pub record IsFormOf (t : Table) (mask : ℕ) (net : Netlist) (w : CellWanted) (inverted : Bool) (rows : List Cube) : Type 0 where
  pub may : may_be_inverted_as t.flip w inverted ≡ true
  pub cover : PlansRows (length t.pairs) mask net w.function (rows_are_positive t.flip w inverted) rows

form_of : (t : Table) (mask : ℕ) (net : Netlist) (w : CellWanted) (inverted : Bool) (found : Option (Vec Cube)) (rows : Vec Cube) → IsTriedAs t.flip (length t.pairs) mask net w inverted found
    → found ≡ Some rows → IsFormOf t mask net w inverted rows.items
form_of t mask net w inverted None rows tried is = absurd (none_some rows is)
form_of t mask net w inverted (Some other) rows tried is =
    elim (cases_Bool (may_be_inverted_as t.flip w inverted)) [
      | inl may ↦ record { may = may; cover = subst (λ (v : Vec Cube). PlansRows (length t.pairs) mask net w.function (rows_are_positive t.flip w inverted) v.items) (same other rows is) (tried.0 may) }
      | inr never ↦ absurd (none_some other (sym (tried.1 never)))
    ]
  where
    same : (a b : Vec Cube) → Some a ≡ Some b → a ≡ b
    same a b e = cc

-- the number of an assigned cell
pub number_is : (net : Netlist) (c : ℕ) (w : CellWanted) → cell_wanted net c ≡ Some w → w.cell ≡ c
number_is net c w is = (found_id (λ (v : CellWanted). Unit {0}) net.cells c w (λ k v within. tt) is).cell

-- what was tried, by the room of the cell's number
pub tried_at : (t : Table) (mask : ℕ) (net : Netlist) (c : ℕ) (w : CellWanted) (x : CellCovers) → w.cell ≡ c → HasCovers t mask net w x
    → IsTriedCell t.flip (cell_at t c).room (length t.pairs) mask net w x.tried
tried_at t mask net c w x own has = subst (λ n. IsTriedCell t.flip (cell_at t n).room (length t.pairs) mask net w x.tried) own has.tried

chosen_form : (t : Table) (mask : ℕ) (net : Netlist) (c : ℕ) (w : CellWanted) (x : CellCovers) (rows : CellRows) → w.cell ≡ c → HasCovers t mask net w x → (chosen : AreChosen t c x rows)
    → (inverted : Bool) → rows.form.inverted ≡ inverted → IsFormOf t mask net w inverted chosen.list.items
chosen_form t mask net c w x rows own has chosen true is =
    form_of t mask net w true x.tried.inverted chosen.list ((tried_at t mask net c w x own has).inverted (chosen.over is)) (chosen.inverted is)
chosen_form t mask net c w x rows own has chosen false is = form_of t mask net w false x.tried.direct chosen.list has.tried.direct (chosen.direct is)

cell_plan : (t : Table) (mask : ℕ) (net : Netlist) (c : ℕ) (w : CellWanted) (x : CellCovers) (rows : CellRows) → w.cell ≡ c → HasCovers t mask net w x → AreChosen t c x rows
    → length x.enable.items ≤ 1 → PlansCell t mask net c w rows.plan rows.form
cell_plan t mask net c w x rows own has chosen one =
    let form = chosen_form t mask net c w x rows own has chosen rows.form.inverted refl in
    record {
      registered = chosen.registered ∙ ap (λ (v : CellWanted). v.registered) has.wanted;
      may = form.may;
      enable = subst (PlansRows (length t.pairs) mask net (control_function (enable_bit w)) true)
          (first_of_one x.enable.items one ∙ ap option_to_list (sym chosen.enable)) has.enable;
      rows = subst (PlansRows (length t.pairs) mask net w.function (rows_are_positive t.flip w rows.form.inverted)) (sym chosen.rows_are) form.cover;
      fit = let fit = chosen.fit in omega (arith, fit, ap length chosen.rows_are);
    }

pub plan_as : (t : Table) (mask : ℕ) (net : Netlist) (c : ℕ) (wanted : Option CellWanted) (found : Option CellCovers) (rows : CellRows) → cell_wanted net c ≡ wanted
    → HasCoversAs t mask net wanted found → AreRowsOf t c found rows → IsSingleRow found → PlansAs t mask net c wanted rows.plan rows.form
plan_as t mask net c None None rows is has are one = record { registered = are.registered; inverted = are.inverted; enable = are.enable; rows = are.rows_none }
plan_as t mask net c None (Some x) rows is has are one = absurd has
plan_as t mask net c (Some w) None rows is has are one = absurd has
plan_as t mask net c (Some w) (Some x) rows is has are one = cell_plan t mask net c w x rows (number_is net c w is) has are one

-- ---- covers that fit no room

heavier_as : (t : Table) (mask : ℕ) (net : Netlist) (c : ℕ) (w : CellWanted) (inverted : Bool) (rows : Option (Vec Cube)) → IsTriedAs t.flip (length t.pairs) mask net w inverted rows
    → (FitsRoom (cell_at t c).room rows → ⊥) → may_be_inverted_as t.flip w inverted ≡ true → (needs allows : List Cube)
    → needed_of net w.function (rows_are_positive t.flip w inverted) ≡ Some needs → allowed_of net w.function (rows_are_positive t.flip w inverted) ≡ Some allows
    → length needs ≤ (cell_at t c).room → ⊥
heavier_as t mask net c w inverted None tried over may needs allows n a light = no_list (tried.0 may)
  where
    no_list : (needed_of net w.function (rows_are_positive t.flip w inverted) ≡ None) ⊎ (allowed_of net w.function (rows_are_positive t.flip w inverted) ≡ None) → ⊥
    no_list (inl none) = none_some needs (sym none ∙ n)
    no_list (inr none) = none_some allows (sym none ∙ a)
heavier_as t mask net c w inverted (Some rows) tried over may needs allows n a light =
    let cover = tried.0 may in
    let same : length cover.needs ≡ length needs = ap length (same_list cover.needs needs (sym cover.needs_is ∙ n)) in
    let few = cover.few in
    over (omega (arith, same, few, light))
  where
    same_list : (xs ys : List Cube) → Some xs ≡ Some ys → xs ≡ ys
    same_list xs ys e = cc

heavier : (t : Table) (mask : ℕ) (net : Netlist) (c : ℕ) (w : CellWanted) (tried : Tried) → IsTriedCell t.flip (cell_at t c).room (length t.pairs) mask net w tried
    → (FitsRoom (cell_at t c).room tried.direct → ⊥) → (FitsRoom (cell_at t c).room tried.inverted → ⊥) → IsHeavier t net c w
heavier t mask net c w tried is direct inverted true may needs allows n a needs_low allows_low = heavier_as t mask net c w true tried.inverted (is.inverted direct) inverted may needs allows n a needs_low
heavier t mask net c w tried is direct inverted false may needs allows n a needs_low allows_low = heavier_as t mask net c w false tried.direct is.direct direct may needs allows n a needs_low

over_cell : (t : Table) (mask : ℕ) (net : Netlist) (c : ℕ) (w : CellWanted) (x : CellCovers) (tried : Tried) → cell_wanted net c ≡ Some w → HasCovers t mask net w x → IsOver t c x tried
    → IsOverRoom t mask net c tried
over_cell t mask net c w x tried is has over =
    let own = tried_at t mask net c w x (number_is net c w is) has in
    let direct : FitsRoom (cell_at t c).room tried.direct → ⊥ = λ fits. over.direct (subst (FitsRoom (cell_at t c).room) over.direct_is fits) in
    let covers : IsTriedCell t.flip (cell_at t c).room (length t.pairs) mask net w tried = record {
      direct = subst (IsTriedAs t.flip (length t.pairs) mask net w false) (sym over.direct_is) own.direct;
      inverted = λ never. subst (IsTriedAs t.flip (length t.pairs) mask net w true) (sym over.inverted_is) (own.inverted over.direct);
      untried = λ fits. absurd (direct fits);
    } in
    let inverted : FitsRoom (cell_at t c).room tried.inverted → ⊥ = λ fits. over.inverted (subst (FitsRoom (cell_at t c).room) over.inverted_is fits) in
    record {
      cell = w;
      wanted = is;
      covers_it = covers;
      direct = direct;
      inverted = inverted;
      heavier = heavier t mask net c w tried covers direct inverted;
    }

pub over_at : (t : Table) (mask : ℕ) (net : Netlist) (c : ℕ) (wanted : Option CellWanted) (found : Option CellCovers) (tried : Tried) → cell_wanted net c ≡ wanted → HasCoversAs t mask net wanted found
    → IsOverAt t c found tried → IsOverRoom t mask net c tried
over_at t mask net c None None tried is has over = absurd over
over_at t mask net c None (Some x) tried is has over = absurd has
over_at t mask net c (Some w) None tried is has over = absurd has
over_at t mask net c (Some w) (Some x) tried is has over = over_cell t mask net c w x tried is has over

-- ---- the cells in turn

pub plans_stop : (t : Table) (covers : List (Option CellCovers)) (c : ℕ) (found : Option CellCovers) (x : FitFault) → c < length t.cells → found ≡ get_or covers c None
    → EachFitsBelow t covers c → ArePlannedAt t c found (Err x) → ArePlanned t covers (Err x)
plans_stop t covers c found (fault.TooWide d) low same before is = absurd is
plans_stop t covers c found (fault.NotShared which a b point) low same before is = absurd is
plans_stop t covers c found fault.ResetTooWide low same before is = absurd is
plans_stop t covers c found fault.PresetTooWide low same before is = absurd is
plans_stop t covers c found (fault.EnableTooWide d) low same before is = absurd is
plans_stop t covers c found (fault.TooManyProducts d tried) low same before is = let own = is.0 in (
  omega (arith, low, own),
  subst (λ n. IsOverAt t n (get_or covers n None) tried) (sym own) (subst (λ (o : Option CellCovers). IsOverAt t c o tried) same is.1),
  subst (EachFitsBelow t covers) (sym own) before,
)
plans_stop t covers c found fault.OutOfMemory low same before is = tt

-- ---- enables

pub single_more : (covers : List (Option CellCovers)) (c : ℕ) → SingleBelow covers c → IsSingleRow (get_or covers c None) → SingleBelow covers (c + 1)
single_more covers c before here d low =
    elim (cases_lt d c) [
      | inl less ↦ before d less
      | inr more ↦ let same : c ≡ d = omega (arith, low, more) in subst (λ n. IsSingleRow (get_or covers n None)) same here
    ]
