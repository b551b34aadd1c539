-- Cells whose functions or controls have no written lists, and cells that have their covers.
use Rattle.std.proofs.Common.{◌≡◌, ◌⊎◌, ℕ, ◌<◌, ◌≤◌, Bool, true, false, List, length, get_or, slice_get, Option, Some, None, Result, Err, refl, sym, ap, ◌∙◌, subst, arith, inl, inr}
use Rattle.fitter.proofs.Common.{Vec, cases_Bool, get_or_from_slice_get, Cell, Flip, IsDevice, Table, cell_at, no_cell, CellWanted, Control, Function, Netlist, ExprId, IsSoundNetlist, Cube, LowerFault, Fails, Products, bit_list, Tried, FitsRoom, IsSoundId, PlansRows, cell_wanted, enable_bit, CanCover, HasNoLists, IsCoverOf, IsListedAs, IsTriedAs, IsTriedCell, control_function, may_be_inverted_as, rows_are_positive, CellCovers, CanCoverCell, HasChecked, HasCheckedAs, HasCovers, HasCoversAs, HasRows, IsChecked, IsCheckedAt, IsCovered, IsCoveredAt, IsListed, HasNoWeight, IsControlTooWide, IsFunctionTooWide, IsTooWide}
use Rattle.sop_lowering.specs.declared.fault.LowerFault.TheVariants as lower
use Rattle.fitter.proofs.Coverable.{sound_cover}
use Rattle.fitter.proofs.WantedIds.{enable_id, function_ids, preset_id, reset_id, sound_id_at, zero_sound}
use Rattle.fitter.proofs.ControlLists.{no_list}

pub can_cover_cell : (t : Table) (net : Netlist) → IsSoundNetlist t net → (c : ℕ) (w : CellWanted) → cell_wanted net c ≡ Some w → CanCoverCell t net w
can_cover_cell t net sound c w is =
    let cell = sound_id_at t net sound c w is in
    let both = function_ids t net sound c w cell in
    record {
      low = omega (arith, cell.at.law.within, cell.cell);
      one = both.0;
      any = both.1;
      enable = enable_id t net sound c w cell;
      reset = λ control own. reset_id t net sound c w control cell own;
      preset = λ control own. preset_id t net sound c w control cell own;
    }

-- the number of an assigned cell is one of the device's
pub cell_low : (t : Table) (net : Netlist) → IsSoundNetlist t net → (c : ℕ) (w : CellWanted) → cell_wanted net c ≡ Some w → c < length t.cells
cell_low t net sound c w is = let cell = sound_id_at t net sound c w is in omega (arith, cell.at.law.within, cell.cell)

-- no form has a cover
none_tried : (t : Table) (mask : ℕ) (net : Netlist) (w : CellWanted) (inverted : Bool) (rows : Option (Vec Cube)) → IsTriedAs t.flip (length t.pairs) mask net w inverted rows → rows ≡ None
    → may_be_inverted_as t.flip w inverted ≡ true → HasNoWeight net w.function (rows_are_positive t.flip w inverted)
none_tried t mask net w inverted None tried none may = tried.0 may
none_tried t mask net w inverted (Some rows) tried none may = absurd (some_none none)
  where
    some_none : Some rows ≡ None → ⊥
    some_none e = absurd cc

pub function_wide : (t : Table) (room mask : ℕ) (net : Netlist) (w : CellWanted) (direct inverted : Option (Vec Cube)) → IsTriedAs t.flip (length t.pairs) mask net w false direct
    → ((FitsRoom room direct → ⊥) → IsTriedAs t.flip (length t.pairs) mask net w true inverted) → direct ≡ None → inverted ≡ None → IsFunctionTooWide t net w
function_wide t room mask net w direct inverted d i d_none i_none true may = none_tried t mask net w true inverted (i (λ fits. subst (FitsRoom room) d_none fits)) i_none may
function_wide t room mask net w direct inverted d i d_none i_none false may = none_tried t mask net w false direct d d_none may

both_lists : (needed allowed : Products) (needs allows : List Cube) → needed ≡ Some needs → allowed ≡ Some allows → (needed ≡ None) ⊎ (allowed ≡ None) → ⊥
both_lists needed allowed needs allows n a (inl none) = some_none (sym n ∙ none)
  where
    some_none : Some needs ≡ None → ⊥
    some_none e = absurd cc
both_lists needed allowed needs allows n a (inr none) = some_none (sym a ∙ none)
  where
    some_none : Some allows ≡ None → ⊥
    some_none e = absurd cc

some_tried : (t : Table) (mask : ℕ) (net : Netlist) (w : CellWanted) (inverted : Bool) (rows : Vec Cube) → IsTriedAs t.flip (length t.pairs) mask net w inverted (Some rows)
    → IsFunctionTooWide t net w → ⊥
some_tried t mask net w inverted rows tried wide =
    elim (cases_Bool (may_be_inverted_as t.flip w inverted)) [
      | inl may ↦
          let cover = tried.0 may in
          both_lists _ _ cover.needs cover.allows cover.needs_is cover.allows_is (wide inverted may)
      | inr never ↦ some_none (tried.1 never)
    ]
  where
    some_none : Some rows ≡ None → ⊥
    some_none e = absurd cc

function_fits : (t : Table) (room mask : ℕ) (net : Netlist) (w : CellWanted) (direct inverted : Option (Vec Cube)) → IsTriedAs t.flip (length t.pairs) mask net w false direct
    → ((FitsRoom room direct → ⊥) → IsTriedAs t.flip (length t.pairs) mask net w true inverted) → (direct ≡ None → inverted ≡ None → ⊥) → IsFunctionTooWide t net w → ⊥
function_fits t room mask net w None None d i some wide = some refl refl
function_fits t room mask net w None (Some rows) d i some wide = some_tried t mask net w true rows (i (λ fits. fits)) wide
function_fits t room mask net w (Some rows) inverted d i some wide = some_tried t mask net w false rows d wide

pub rows_listed : (vars mask : ℕ) (net : Netlist) (bit : ExprId) (rows : List Cube) → PlansRows vars mask net (control_function bit) true rows → bit_list net bit true ≡ None → ⊥
rows_listed vars mask net bit rows cover none = some_none (sym cover.needs_is ∙ none)
  where
    some_none : {needs : List Cube} → Some needs ≡ None → ⊥
    some_none e = absurd cc

pub not_wide : (t : Table) (mask : ℕ) (net : Netlist) (w : CellWanted) (x : CellCovers) → HasCovers t mask net w x → IsTooWide t net w → ⊥
not_wide t mask net w x has (inl wide) = function_fits t (cell_at t w.cell).room mask net w x.tried.direct x.tried.inverted has.tried.direct has.tried.inverted has.some wide
not_wide t mask net w x has (inr (inl none)) = rows_listed (length t.pairs) mask net (enable_bit w) x.enable.items has.enable none
not_wide t mask net w x has (inr (inr (inl reset))) = has.reset reset
not_wide t mask net w x has (inr (inr (inr preset))) = has.preset preset

same_some : (a b : CellWanted) → Some a ≡ Some b → a ≡ b
same_some a b e = cc

pub as_not_wide : (t : Table) (mask : ℕ) (net : Netlist) (wanted : Option CellWanted) (w : CellWanted) (found : Option CellCovers) → HasCoversAs t mask net wanted found → wanted ≡ Some w
    → IsTooWide t net w → ⊥
as_not_wide t mask net None w found has is wide = absurd cc
as_not_wide t mask net (Some v) w None has is wide = has
as_not_wide t mask net (Some v) w (Some x) has is wide = not_wide t mask net w x (subst (λ u. HasCovers t mask net u x) (same_some v w is) has) wide

-- ---- what covering asks for

pub can_cover : (t : Table) → IsDevice t → (net : Netlist) → IsSoundNetlist t net → (f : Function) (vars : ℕ) → vars ≡ length t.pairs → IsSoundId t net f.one → IsSoundId t net f.any
    → CanCover vars net f
can_cover t laws net sound f vars same one any = subst (λ n. CanCover n net f) (sym same) (sound_cover t net f laws sound one any)

pub can_cover_control : (t : Table) → IsDevice t → (net : Netlist) → IsSoundNetlist t net → (bit : ExprId) (vars : ℕ) → vars ≡ length t.pairs → IsSoundId t net bit
    → CanCover vars net (control_function bit)
can_cover_control t laws net sound bit vars same id = can_cover t laws net sound (control_function bit) vars same id (zero_sound t net)

pub pairs_few : (t : Table) → IsDevice t → (vars : ℕ) → vars ≡ length t.pairs → vars ≤ 22
pairs_few t laws vars same = omega (arith, same, laws.sizes.columns_even, laws.sizes.columns_high)

-- ---- covers of controls

pub rows_of_cover : (t : Table) (mask : ℕ) (net : Netlist) (bit : ExprId) (vars : ℕ) → vars ≡ length t.pairs → (found : Option (Vec Cube)) (rows : Vec Cube)
    → IsCoverOf vars mask net (control_function bit) true found → found ≡ Some rows → PlansRows (length t.pairs) mask net (control_function bit) true rows.items
rows_of_cover t mask net bit vars same None rows cover is = absurd (none_some is)
  where
    none_some : None ≡ Some rows → ⊥
    none_some e = absurd cc
rows_of_cover t mask net bit vars same (Some other) rows cover is =
    subst (λ (v : Vec Cube). PlansRows (length t.pairs) mask net (control_function bit) true v.items) (same_vec other rows is)
    (subst (λ n. PlansRows n mask net (control_function bit) true other.items) same cover)
  where
    same_vec : (a b : Vec Cube) → Some a ≡ Some b → a ≡ b
    same_vec a b e = cc

pub none_of_cover : (mask : ℕ) (net : Netlist) (bit : ExprId) (vars : ℕ) (found : Option (Vec Cube)) → IsCoverOf vars mask net (control_function bit) true found → found ≡ None
    → bit_list net bit true ≡ None
none_of_cover mask net bit vars None cover is = no_list net bit cover
none_of_cover mask net bit vars (Some rows) cover is = absurd (some_none is)
  where
    some_none : Some rows ≡ None → ⊥
    some_none e = absurd cc

-- a control that was listed, or not
pub listed_ok : (net : Netlist) (control : Option Control) (found : Control) (list : List Cube) → control ≡ Some found → bit_list net found.bit true ≡ Some list → IsControlTooWide net control → ⊥
listed_ok net control found list is has wide = some_none (sym has ∙ subst (IsControlTooWide net) is wide)
  where
    some_none : Some list ≡ None → ⊥
    some_none e = absurd cc

pub listed_err : (net : Netlist) (control : Option Control) (found : Control) (fault : LowerFault) → control ≡ Some found → Fails fault (bit_list net found.bit true) → IsListed net control (Err fault)
listed_err net control found lower.TooWide is none = subst (IsControlTooWide net) (sym is) none
listed_err net control found lower.OutOfMemory is none = tt

pub listed_none : (net : Netlist) (control : Option Control) → control ≡ None → IsControlTooWide net control → ⊥
listed_none net control is wide = subst (IsControlTooWide net) is wide

-- ---- faults on the way to a cell's covers

pub cell_handed : (t : Table) (mask : ℕ) (net : Netlist) (w : CellWanted) (result : Result CellCovers LowerFault) (x : LowerFault) → (e : LowerFault) × (result ≡ Err e) × (e ≡ x)
    → IsCovered t mask net w (Err x) → IsCovered t mask net w result
cell_handed t mask net w result x is holds = subst (IsCovered t mask net w) (sym (is.1 ∙ ap (λ (e : LowerFault). Err e) is.2)) holds

pub enable_fails : (t : Table) (mask : ℕ) (net : Netlist) (w : CellWanted) (x : LowerFault) → HasRows t mask net (enable_bit w) (Err x) → IsCovered t mask net w (Err x)
enable_fails t mask net w lower.TooWide none = inr (inl none)
enable_fails t mask net w lower.OutOfMemory none = tt

pub reset_fails : (t : Table) (mask : ℕ) (net : Netlist) (w : CellWanted) (x : LowerFault) → IsListed net w.reset (Err x) → IsCovered t mask net w (Err x)
reset_fails t mask net w lower.TooWide none = inr (inr (inl none))
reset_fails t mask net w lower.OutOfMemory none = tt

pub preset_fails : (t : Table) (mask : ℕ) (net : Netlist) (w : CellWanted) (x : LowerFault) → IsListed net w.preset (Err x) → IsCovered t mask net w (Err x)
preset_fails t mask net w lower.TooWide none = inr (inr (inr none))
preset_fails t mask net w lower.OutOfMemory none = tt

-- ---- one cell that may be assigned

-- a cell's fault, handed on
pub at_fails : (t : Table) (mask : ℕ) (net : Netlist) (c : ℕ) (wanted : Option CellWanted) (w : CellWanted) (result : Result (Option CellCovers) LowerFault) (x : LowerFault)
    → (e : LowerFault) × (result ≡ Err e) × (e ≡ x) → wanted ≡ cell_wanted net c → wanted ≡ Some w → IsCovered t mask net w (Err x) → IsCoveredAt t mask net c result
at_fails t mask net c wanted w result x handed same is holds = subst (IsCoveredAt t mask net c) (sym (handed.1 ∙ ap (λ (e : LowerFault). Err e) handed.2)) (by x holds)
  where
    by : (x : LowerFault) → IsCovered t mask net w (Err x) → IsCoveredAt t mask net c (Err x)
    by lower.TooWide wide = record { cell = w; wanted = sym same ∙ is; wide = wide }
    by lower.OutOfMemory none = tt

pub at_none : (t : Table) (mask : ℕ) (net : Netlist) (wanted own : Option CellWanted) → wanted ≡ own → wanted ≡ None → HasCoversAs t mask net own None
at_none t mask net wanted own same is = subst (λ (o : Option CellWanted). HasCoversAs t mask net o None) (sym is ∙ same) tt

pub at_some : (t : Table) (mask : ℕ) (net : Netlist) (wanted own : Option CellWanted) (w : CellWanted) (x : CellCovers) → wanted ≡ own → wanted ≡ Some w → HasCovers t mask net w x
    → HasCoversAs t mask net own (Some x)
at_some t mask net wanted own w x same is has = subst (λ (o : Option CellWanted). HasCoversAs t mask net o (Some x)) (sym is ∙ same) has

-- a cell's room, by the device's table
pub own_room : (cells : List Cell) (c : ℕ) (x : Cell) → slice_get cells c ≡ Some x → x.room ≡ (get_or cells c no_cell).room
own_room cells c x is = ap (λ (y : Cell). y.room) (sym (get_or_from_slice_get cells c x no_cell is))

-- what was tried, by the device's table
pub tried_over : (t : Table) (mask : ℕ) (net : Netlist) (w : CellWanted) (tried : Tried) (flip : Flip) (room vars : ℕ) → flip ≡ t.flip → room ≡ (cell_at t w.cell).room → vars ≡ length t.pairs
    → IsTriedCell flip room vars mask net w tried → IsTriedCell t.flip (cell_at t w.cell).room (length t.pairs) mask net w tried
tried_over t mask net w tried flip room vars same room_is few has =
    subst (λ (f : Flip). IsTriedCell f (cell_at t w.cell).room (length t.pairs) mask net w tried) same
    (subst (λ n. IsTriedCell flip n (length t.pairs) mask net w tried) room_is (subst (λ n. IsTriedCell flip room n mask net w tried) few has))

-- ---- a cell that is checked alone

pub form_fits : (t : Table) (net : Netlist) (w : CellWanted) (flip : Flip) (inverted : Bool) → flip ≡ t.flip → IsListedAs flip net w inverted → IsFunctionTooWide t net w → ⊥
form_fits t net w flip inverted same listed wide =
    let own = subst (λ (f : Flip). IsListedAs f net w inverted) same listed in
    own.lists (wide inverted own.may)

pub forms_wide : (t : Table) (net : Netlist) (w : CellWanted) (flip : Flip) → flip ≡ t.flip
    → (may_be_inverted_as flip w false ≡ true → HasNoLists net w.function (rows_are_positive flip w false))
    → (may_be_inverted_as flip w true ≡ true → HasNoLists net w.function (rows_are_positive flip w true)) → IsFunctionTooWide t net w
forms_wide t net w flip same direct inverted = subst (λ (f : Flip). (b : Bool) → may_be_inverted_as f w b ≡ true → HasNoLists net w.function (rows_are_positive f w b)) same by
  where
    by : (b : Bool) → may_be_inverted_as flip w b ≡ true → HasNoLists net w.function (rows_are_positive flip w b)
    by true = inverted
    by false = direct

-- it fails as one that is covered
pub checked_fails : (t : Table) (mask : ℕ) (net : Netlist) (w : CellWanted) (x : LowerFault) → IsCovered t mask net w (Err x) → IsChecked t mask net w (Err x)
checked_fails t mask net w lower.TooWide wide = wide
checked_fails t mask net w lower.OutOfMemory none = tt

pub checked_handed : (t : Table) (mask : ℕ) (net : Netlist) (w : CellWanted) (result : Result CellCovers LowerFault) (x : LowerFault) → (e : LowerFault) × (result ≡ Err e) × (e ≡ x)
    → IsCovered t mask net w (Err x) → IsChecked t mask net w result
checked_handed t mask net w result x is holds = subst (IsChecked t mask net w) (sym (is.1 ∙ ap (λ (e : LowerFault). Err e) is.2)) (checked_fails t mask net w x holds)

pub check_fails : (t : Table) (mask : ℕ) (net : Netlist) (c : ℕ) (wanted : Option CellWanted) (w : CellWanted) (result : Result (Option CellCovers) LowerFault) (x : LowerFault)
    → (e : LowerFault) × (result ≡ Err e) × (e ≡ x) → wanted ≡ cell_wanted net c → wanted ≡ Some w → IsChecked t mask net w (Err x) → IsCheckedAt t mask net c result
check_fails t mask net c wanted w result x handed same is holds = subst (IsCheckedAt t mask net c) (sym (handed.1 ∙ ap (λ (e : LowerFault). Err e) handed.2)) (by x holds)
  where
    by : (x : LowerFault) → IsChecked t mask net w (Err x) → IsCheckedAt t mask net c (Err x)
    by lower.TooWide wide = record { cell = w; wanted = sym same ∙ is; wide = wide }
    by lower.OutOfMemory none = tt

pub check_none : (t : Table) (mask : ℕ) (net : Netlist) (wanted own : Option CellWanted) → wanted ≡ own → wanted ≡ None → HasCheckedAs t mask net own None
check_none t mask net wanted own same is = subst (λ (o : Option CellWanted). HasCheckedAs t mask net o None) (sym is ∙ same) tt

pub check_some : (t : Table) (mask : ℕ) (net : Netlist) (wanted own : Option CellWanted) (w : CellWanted) (x : CellCovers) → wanted ≡ own → wanted ≡ Some w → HasChecked t mask net w x
    → HasCheckedAs t mask net own (Some x)
check_some t mask net wanted own w x same is has = subst (λ (o : Option CellWanted). HasCheckedAs t mask net o (Some x)) (sym is ∙ same) has

-- a cell that has its covers is checked
pub covered_checked : (t : Table) (mask : ℕ) (net : Netlist) (wanted : Option CellWanted) (found : Option CellCovers) → HasCoversAs t mask net wanted found → HasCheckedAs t mask net wanted found
covered_checked t mask net None None has = tt
covered_checked t mask net None (Some x) has = has
covered_checked t mask net (Some w) None has = has
covered_checked t mask net (Some w) (Some x) has = record {
  wanted = has.wanted;
  form = λ wide. not_wide t mask net w x has (inl wide);
  enable = has.enable;
  reset = has.reset;
  preset = has.preset;
}

-- and one that is checked is not too wide
pub checked_not_wide : (t : Table) (mask : ℕ) (net : Netlist) (wanted : Option CellWanted) (w : CellWanted) (found : Option CellCovers) → HasCheckedAs t mask net wanted found → wanted ≡ Some w
    → IsTooWide t net w → ⊥
checked_not_wide t mask net None w found has is wide = absurd cc
checked_not_wide t mask net (Some v) w None has is wide = has
checked_not_wide t mask net (Some v) w (Some x) has is wide = by (subst (λ u. HasChecked t mask net u x) (same_some v w is) has) wide
  where
    by : HasChecked t mask net w x → IsTooWide t net w → ⊥
    by own (inl form) = own.form form
    by own (inr (inl none)) = rows_listed (length t.pairs) mask net (enable_bit w) x.enable.items own.enable none
    by own (inr (inr (inl reset))) = own.reset reset
    by own (inr (inr (inr preset))) = own.preset preset
