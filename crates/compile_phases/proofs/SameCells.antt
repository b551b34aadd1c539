-- Two netlists over arenas that represent one netlist over formulas fit alike, as they are written.
use Rattle.std.proofs.Common.{◌≡◌, ◌⊎◌, inl, inr, ℕ, ◌<◌, ◌≤◌, Bool, true, false, not, ◌&&◌, ◌||◌, if◌then◌else◌, List, length, Option, Some, None, Err, refl, sym, ap, ◌∙◌, subst, unwrap_or}
use Rattle.compile_phases.proofs.Common.{IsDevice, complement_if, Table, cell_at, Netlist, ExprId, arena, formula_at, Formula, Const, Or, PlainNetlist, Wanted, plain_control, plain_netlist, plain_wanted, shared_function, wanted_at, IsSoundNetlist, Products, written, bit_list, IsSoundId, IsControlTooWide, IsTooWide, NoneWide, IsFirstWide, FitFault, FitAnswers, HasControls, IsOfFit, HasRoom}
use Rattle.std.specs.Option.{option_map}
use Rattle.pld_base.specs.Bits.{same_level}
use Rattle.pld_base.specs.declared.point.Point.{Point}
use Rattle.pld_base.specs.Points.{levels_of}
use Rattle.pld_device.specs.declared.flip.Flip.{Flip}
use Rattle.pld_device.specs.declared.flip.Flip.TheVariants.{Always, AfterRegister, BeforeRegister}
use Rattle.bit_expr.specs.declared.netlist.CellWanted.{CellWanted}
use Rattle.bit_expr.specs.declared.netlist.Control.{Control}
use Rattle.covers.specs.declared.cube.Cube.{Cube}
use Rattle.netlist_laws.specs.Fitting.{AreShared}
use Rattle.fit_plans.specs.Tries.{needed_of, allowed_of, one_or_any}
use Rattle.fitter.specs.Plans.{bit_or, cell_wanted, enable_bit}
use Rattle.fitter.proofs.Coverable.{either_sound}
use Rattle.fitter.proofs.WantedIds.{wanted_is, one_is, IsSoundIdCell, sound_id_at, function_ids, enable_id, reset_id, preset_id}
use Rattle.fit_plans.specs.Forms.{may_be_inverted_as, or_is_complement, rows_are_positive}
use Rattle.fitter.specs.declared.shared.SharedControl.{SharedControl}
use Rattle.fitter.specs.declared.shared.SharedControl.TheVariants.{Preset, Reset}
use Rattle.fitter.specs.Sharing.{AreNotShared, own_formula}
use Rattle.fitter.specs.declared.fault.FitFault.TheVariants as fit
use Rattle.fitter.specs.Products.{IsProduct, IsNoProduct, IsOneProduct, IsSharedProduct, IsSharedSum}
use Rattle.compile_phases.proofs.SameNetlists.{written_same, bit_same}

-- ---- the forms of a cell, by its plain one

abbrev may_plain : Flip → Wanted → Bool → Bool
may_plain Always x i = i
may_plain AfterRegister x i = not x.registered || (x.free || same_level i (not x.buffer))
may_plain BeforeRegister x i = true

may_is : (flip : Flip) (fs : List Formula) (w : CellWanted) (i : Bool) → may_be_inverted_as flip w i ≡ may_plain flip (plain_wanted fs w) i
may_is Always fs w i = refl
may_is AfterRegister fs w i = refl
may_is BeforeRegister fs w i = refl

abbrev positive_plain : Flip → Wanted → Bool → Bool
positive_plain flip x i =
    not (complement_if x.function.complement
    (if x.raw
    then or_is_complement flip x.registered i
    else complement_if x.negated (complement_if (x.registered && not (complement_if (x.free && i) x.buffer)) (or_is_complement flip x.registered i))))

positive_is : (flip : Flip) (fs : List Formula) (w : CellWanted) (i : Bool) → rows_are_positive flip w i ≡ positive_plain flip (plain_wanted fs w) i
positive_is flip fs w i = refl

-- ---- its enable

control_formula : (n : Netlist) (o : Option Control)
    → formula_at (arena n.exprs) (bit_or (record { 0 = 1 }) o) ≡ unwrap_or (plain_control (arena n.exprs) o) (Const true)
control_formula n None = one_is n
control_formula n (Some control) = refl

enable_of : (n : Netlist) (w : CellWanted) → formula_at (arena n.exprs) (enable_bit w) ≡ unwrap_or (plain_wanted (arena n.exprs) w).enable (Const true)
enable_of n w = control_formula n w.enable

-- ---- lists that there are

-- two lists of one formula aren't one product and none
no_product : (vars : ℕ) (a b : Products) (xs ys : List Cube) → a ≡ b → a ≡ Some xs → b ≡ Some ys → IsOneProduct vars xs → (IsOneProduct vars ys → ⊥) → ⊥
no_product vars a b xs ys same is other one many =
    let e : Some xs ≡ Some ys = sym is ∙ same ∙ other in
    let f : xs ≡ ys = cc in
    many (subst (IsOneProduct vars) f one)

some_wanted : (fs : List Formula) (o : Option CellWanted) (x : Wanted) → option_map (plain_wanted fs) o ≡ Some x
    → (w : CellWanted) × (o ≡ Some w) × (plain_wanted fs w ≡ x)
some_wanted fs None x e = absurd cc
some_wanted fs (Some w) x e = (w, refl, some_same (plain_wanted fs w) x e)
  where
    some_same : (a b : Wanted) → Some a ≡ Some b → a ≡ b
    some_same a b h = cc

-- ---- two netlists

module _ (t : Table) (laws : IsDevice t) (net other : Netlist) (one : IsSoundNetlist t net) (two : IsSoundNetlist t other)
    (plain : plain_netlist net ≡ plain_netlist other) where
  -- the cell of the one that is a cell of the other
  pub record HasCell (c : ℕ) (w : CellWanted) : Type 0 where
    pub cell : CellWanted
    pub wanted : cell_wanted net c ≡ Some cell
    pub same : plain_wanted (arena net.exprs) cell ≡ plain_wanted (arena other.exprs) w
    pub ids : IsSoundIdCell t net one c cell

  pub cell_of : (c : ℕ) (w : CellWanted) → cell_wanted other c ≡ Some w → HasCell c w
  cell_of c w is =
      let found =
      some_wanted (arena net.exprs) (cell_wanted net c) (plain_wanted (arena other.exprs) w)
      (sym (wanted_is net c) ∙ ap (λ (x : PlainNetlist). wanted_at x c) plain ∙ wanted_is other c
      ∙ ap (option_map (plain_wanted (arena other.exprs))) is) in
      record { cell = found.0; wanted = found.1; same = found.2; ids = sound_id_at t net one c found.0 found.1 }

  module _ (c : ℕ) (w : CellWanted) (h : HasCell c w) where
    ids : IsSoundId t net h.cell.function.one × IsSoundId t net h.cell.function.any
    ids = function_ids t net one c h.cell h.ids

    one_list : (p : Bool) → bit_list net h.cell.function.one p ≡ bit_list other w.function.one p
    one_list p = bit_same t laws net other one two plain h.cell.function.one w.function.one ids.0 (ap (λ (x : Wanted). x.function.one) h.same) p

    either_list : (p : Bool) → written net (one_or_any net h.cell.function) p ≡ written other (one_or_any other w.function) p
    either_list p =
        written_same t laws net other one two plain (one_or_any net h.cell.function)
        (either_sound t net (formula_at (arena net.exprs) h.cell.function.one) (formula_at (arena net.exprs) h.cell.function.any) ids.0.formula ids.1.formula) p
        ∙ ap (λ (x : Wanted). written other (Or x.function.one x.function.any) p) h.same

    needed_same : (p : Bool) → needed_of net h.cell.function p ≡ needed_of other w.function p
    needed_same true = one_list true
    needed_same false = either_list false

    allowed_same : (p : Bool) → allowed_of net h.cell.function p ≡ allowed_of other w.function p
    allowed_same true = either_list true
    allowed_same false = one_list false

    pub may_same : (i : Bool) → may_be_inverted_as t.flip h.cell i ≡ may_be_inverted_as t.flip w i
    may_same i =
        may_is t.flip (arena net.exprs) h.cell i ∙ ap (λ (x : Wanted). may_plain t.flip x i) h.same ∙ sym (may_is t.flip (arena other.exprs) w i)

    positive_same : (i : Bool) → rows_are_positive t.flip h.cell i ≡ rows_are_positive t.flip w i
    positive_same i =
        positive_is t.flip (arena net.exprs) h.cell i ∙ ap (λ (x : Wanted). positive_plain t.flip x i) h.same
        ∙ sym (positive_is t.flip (arena other.exprs) w i)

    pub needed_as : (i : Bool) → needed_of net h.cell.function (rows_are_positive t.flip h.cell i) ≡ needed_of other w.function (rows_are_positive t.flip w i)
    needed_as i = ap (needed_of net h.cell.function) (positive_same i) ∙ needed_same (rows_are_positive t.flip w i)

    pub allowed_as : (i : Bool) → allowed_of net h.cell.function (rows_are_positive t.flip h.cell i) ≡ allowed_of other w.function (rows_are_positive t.flip w i)
    allowed_as i = ap (allowed_of net h.cell.function) (positive_same i) ∙ allowed_same (rows_are_positive t.flip w i)

    enable_same : bit_list net (enable_bit h.cell) true ≡ bit_list other (enable_bit w) true
    enable_same =
        bit_same t laws net other one two plain (enable_bit h.cell) (enable_bit w) (enable_id t net one c h.cell h.ids)
        (enable_of net h.cell ∙ ap (λ (x : Wanted). unwrap_or x.enable (Const true)) h.same ∙ sym (enable_of other w)) true

    control_wide : (a b : Option Control) → ((x : Control) → a ≡ Some x → IsSoundId t net x.bit)
        → plain_control (arena net.exprs) a ≡ plain_control (arena other.exprs) b → IsControlTooWide other b → IsControlTooWide net a
    control_wide a None sound same wide = absurd wide
    control_wide None (Some y) sound same wide = absurd cc
    control_wide (Some x) (Some y) sound same wide =
        bit_same t laws net other one two plain x.bit y.bit (sound x refl) (same_formula same) true ∙ wide
      where
        same_formula : Some (formula_at (arena net.exprs) x.bit) ≡ Some (formula_at (arena other.exprs) y.bit)
            → formula_at (arena net.exprs) x.bit ≡ formula_at (arena other.exprs) y.bit
        same_formula e = cc

    wide_same : IsTooWide t other w → IsTooWide t net h.cell
    wide_same (inl function) = inl (λ i may. weight i (function i (sym (may_same i) ∙ may)))
      where
        weight : (i : Bool) → (needed_of other w.function (rows_are_positive t.flip w i) ≡ None) ⊎ (allowed_of other w.function (rows_are_positive t.flip w i) ≡ None)
            → (needed_of net h.cell.function (rows_are_positive t.flip h.cell i) ≡ None) ⊎ (allowed_of net h.cell.function (rows_are_positive t.flip h.cell i) ≡ None)
        weight i (inl n) = inl (needed_as i ∙ n)
        weight i (inr a) = inr (allowed_as i ∙ a)
    wide_same (inr (inl enable)) = inr (inl (enable_same ∙ enable))
    wide_same (inr (inr (inl reset))) =
        inr (inr (inl (control_wide h.cell.reset w.reset (λ x is. reset_id t net one c h.cell x h.ids is) (ap (λ (x : Wanted). x.reset) h.same) reset)))
    wide_same (inr (inr (inr preset))) =
        inr (inr (inr (control_wide h.cell.preset w.preset (λ x is. preset_id t net one c h.cell x h.ids is) (ap (λ (x : Wanted). x.preset) h.same) preset)))

  -- if no cell of the one is too wide, none of the other is the first that is
  pub not_wide : NoneWide t net → (c : ℕ) → IsFirstWide t other c → ⊥
  not_wide none c first =
      let h = cell_of c first.cell first.wanted in
      none c h.cell h.wanted (wide_same c first.cell h first.wide)

  -- a product of the one is a product of the other
  not_sum : (id at : ExprId) → IsSoundId t net id → formula_at (arena net.exprs) id ≡ formula_at (arena other.exprs) at
      → IsProduct (length t.pairs) net id → IsNoProduct (length t.pairs) other at → ⊥
  not_sum id at sound same product sum =
      no_product (length t.pairs) (bit_list net id true) (bit_list other at true) product.list sum.list
      (bit_same t laws net other one two plain id at sound same true) product.list_is sum.list_is product.one sum.many

  not_shared_sum : (which : SharedControl) → IsSharedProduct t net which → IsSharedSum t other which → ⊥
  not_shared_sum which product sum =
      not_sum product.bit sum.bit product.shared.id
      (product.shared.formula ∙ ap (shared_function (own_formula which)) plain ∙ sym sum.shared.formula) product.product sum.many

  not_apart : (own : Wanted → Option Formula) (a b : ℕ) (point : Point) → AreShared t (plain_netlist net) own
      → AreNotShared t (plain_netlist other) own a b point → ⊥
  not_apart own a b point shared apart =
      let all = subst (λ (x : PlainNetlist). AreShared t x own) plain shared in
      apart.differ (all b apart.second apart.function apart.second_is apart.function_is (levels_of point) apart.valued)

  -- if the one fits as it is written, so does the other
  pub not_unfit : HasControls t net → ((c : ℕ) (w : CellWanted) → cell_wanted net c ≡ Some w → HasRoom t net w) → (f : FitFault) → IsOfFit f
      → FitAnswers t other (Err f) → ⊥
  not_unfit controls rooms (fit.TooWide c) is unfit = is
  not_unfit controls rooms (fit.NotShared Reset a b point) is unfit = not_apart (own_formula Reset) a b point controls.reset.shared.shared unfit.1
  not_unfit controls rooms (fit.NotShared Preset a b point) is unfit = not_apart (own_formula Preset) a b point controls.preset.shared.shared unfit.1.1
  not_unfit controls rooms fit.ResetTooWide is unfit = not_shared_sum Reset controls.reset unfit.2
  not_unfit controls rooms fit.PresetTooWide is unfit = not_shared_sum Preset controls.preset unfit.2
  not_unfit controls rooms (fit.EnableTooWide c) is unfit =
      let first = unfit.3 in
      let h = cell_of c first.cell first.wanted in
      let within : c < length t.cells = subst (λ (k : ℕ). k < length t.cells) h.ids.cell h.ids.at.law.within in
      not_sum (enable_bit h.cell) (enable_bit first.cell) (enable_id t net one c h.cell h.ids)
      (enable_of net h.cell ∙ ap (λ (x : Wanted). unwrap_or x.enable (Const true)) h.same ∙ sym (enable_of other first.cell))
      (controls.enables c h.cell within h.wanted) first.many
  not_unfit controls rooms (fit.TooManyProducts c tried) is unfit =
      let over = unfit.over in
      let h = cell_of c over.cell over.wanted in
      let room = rooms c h.cell h.wanted in
      let at : (cell_at t h.cell.cell).room ≡ (cell_at t c).room = ap (λ (k : ℕ). (cell_at t k).room) h.ids.cell in
      over.heavier room.inverted (sym (may_same c over.cell h room.inverted) ∙ room.allowed_form) room.needed room.allowed
      (sym (needed_as c over.cell h room.inverted) ∙ room.needed_is) (sym (allowed_as c over.cell h room.inverted) ∙ room.allowed_is)
      (subst (λ (k : ℕ). length room.needed ≤ k) at room.needed_few) (subst (λ (k : ℕ). length room.allowed ≤ k) at room.allowed_few)
  not_unfit controls rooms fit.OutOfMemory is unfit = is
