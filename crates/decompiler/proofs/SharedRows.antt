-- All registers share one reset and one preset, each one product or 0.
use Rattle.std.proofs.Common.{◌≡◌, ◌⊎◌, ℕ, suc, ◌<◌, nat_lt, Bool, true, false, List, [], ◌∷◌, length, map, Option, Some, None, refl, sym, ap, subst, ◌∙◌, arith, inl, inr, Contains, unwrap_or}
use Rattle.decompiler.proofs.Common.{option_map, cases_Bool, same_Some, IsDevice, stores, Table, CellWanted, Control, Netlist, ExprId, Leaf, arena, formula_at, Formula, Const, formula_value, Wanted, first_with, own_of, own_or_shared, plain_control, plain_netlist, plain_wanted, shared_function, IsSoundNetlist, bit_list, cell_wanted, found_id, sound_id_at, wanted_is, zero_is, zero_sound, Preset, Reset, IsSharedProduct, PinLiteral, IsFusesNetlist, shared_formula, ReadNoNode}
use Rattle.netlist_laws.specs.Fitting.{AreShared}
use Rattle.fitter.specs.declared.shared.SharedControl.{SharedControl}
use Rattle.fitter.specs.Sharing.{IsSharedBit, own_control, own_formula}
use Rattle.fitter.proofs.Alike.{first_wanted, own_id}
use Rattle.fitter.proofs.FirstNames.{none_first, own_is}
use Rattle.fitter.specs.Products.{IsProduct}
use Rattle.decompiler.proofs.CellRooms.{IsOneOrNone, asked, bit_product, control_few, plain_is, some_is_none, within}

-- ---- the first cell that has such an equation

-- there isn't one, or it is this one
pub record IsFirst (fs : List Formula) (which : SharedControl) (ws : List CellWanted) : Type 0 where
  pub cell : CellWanted
  pub control : Control
  pub is : first_with (own_formula which) (map (plain_wanted fs) ws) ≡ Some (plain_wanted fs cell)
  pub own : own_control which cell ≡ Some control
  pub among : Contains ws cell

abbrev HasFirst : List Formula → SharedControl → List CellWanted → Type 0
HasFirst fs which ws = (first_with (own_formula which) (map (plain_wanted fs) ws) ≡ None) ⊎ IsFirst fs which ws

later : {X : Type 0} (y : X) (xs : List X) (x : X) → Contains xs x → Contains (y ∷ xs) x
later y xs x among = (suc among.0, omega (arith, among.1), among.2)

pub first_of : (fs : List Formula) (which : SharedControl) (ws : List CellWanted) → HasFirst fs which ws
first_of fs which [] = inl refl
first_of fs which (w ∷ ws) = by_own (own_control which w) refl (first_of fs which ws)
  where
    rest : Option Wanted
    rest = first_with (own_formula which) (map (plain_wanted fs) ws)

    by_own : (o : Option Control) → own_control which w ≡ o → HasFirst fs which ws → HasFirst fs which (w ∷ ws)
    by_own None e (inl none) = inl (rw (own_is fs which w, e) none)
    by_own None e (inr first) = inr (record { cell = first.cell; control = first.control; is = rw (own_is fs which w, e) first.is; own = first.own; among = later w ws first.cell first.among })
    by_own (Some control) e (inl none) =
        inr (record { cell = w; control = control; is = rw (own_is fs which w, e, none) refl; own = e; among = (0, omega arith, refl) })
    by_own (Some control) e (inr first) = elim (cases_Bool (nat_lt first.cell.name w.name)) [
      | inl less ↦ inr (record { cell = first.cell; control = first.control; is = rw (own_is fs which w, e, first.is, less) refl; own = first.own; among = later w ws first.cell first.among })
      | inr more ↦ inr (record { cell = w; control = control; is = rw (own_is fs which w, e, first.is, more) refl; own = e; among = (0, omega arith, refl) })
    ]

-- ---- the row that all registers share

module _ (t : Table) (fuses : List Bool) (leaf_of : PinLiteral → Leaf) (net : Netlist) (laws : IsDevice t) (none : ReadNoNode leaf_of)
    (sound : IsSoundNetlist t net) (is : IsFusesNetlist t fuses leaf_of (plain_netlist net)) (which : SharedControl) where
  abbrev fs : List Formula
  fs = arena net.exprs

  abbrev own : Wanted → Option Formula
  own = own_formula which

  abbrev row_of : SharedControl → Option ℕ
  row_of Reset = t.reset
  row_of Preset = t.preset

  abbrev shared : Formula
  shared = shared_formula t fuses leaf_of (row_of which)

  each_shares : (which : SharedControl) (c : ℕ) → c < length t.cells → stores t fuses c ≡ true
      → own_or_shared (own_formula which) (plain_netlist net) c ≡ shared_formula t fuses leaf_of (row_of which)
  each_shares Reset = is.reset
  each_shares Preset = is.preset

  registered : (which : SharedControl) (c : ℕ) (w : CellWanted) (f : Formula) → cell_wanted net c ≡ Some w → own_formula which (plain_wanted fs w) ≡ Some f → w.registered ≡ true
  registered Reset c w f at e = ((sound_id_at t net sound c w at).at.law.reset f e).register
  registered Preset c w f at e = ((sound_id_at t net sound c w at).at.law.preset f e).register

  -- a cell's own equation is that row's
  own_shared : (c : ℕ) (w : CellWanted) (f : Formula) → cell_wanted net c ≡ Some w → own (plain_wanted fs w) ≡ Some f → f ≡ shared
  own_shared c w f at e =
      let cell = within t fuses leaf_of net laws none sound is c w at in
      let stored : stores t fuses c ≡ true = sym (asked t fuses leaf_of net laws none sound is c w at).registered ∙ registered which c w f at e in
      sym (ap (λ (o : Option Formula). unwrap_or o (shared_function own (plain_netlist net))) (ap (own_of own) (plain_is t fuses leaf_of net laws none sound is c w at) ∙ e))
      ∙ each_shares which c cell stored

  own_formula_is : (w : CellWanted) (control : Control) → own_control which w ≡ Some control → own (plain_wanted fs w) ≡ Some (formula_at fs control.bit)
  own_formula_is w control e = own_is fs which w ∙ ap (plain_control fs) e

  few_shared : IsOneOrNone leaf_of shared
  few_shared = by_row (row_of which)
    where
      by_row : (row : Option ℕ) → IsOneOrNone leaf_of (shared_formula t fuses leaf_of row)
      by_row None = record { products = []; few = omega arith; is = refl }
      by_row (Some row) = control_few t fuses leaf_of row

  -- all own equations are the shared function, if each is this formula
  are_shared : ((c : ℕ) (w : CellWanted) (f : Formula) → cell_wanted net c ≡ Some w → own (plain_wanted fs w) ≡ Some f → f ≡ shared_function own (plain_netlist net))
      → AreShared t (plain_netlist net) own
  are_shared each c w f at e point valued = by_cell (cell_wanted net c) refl
    where
      by_cell : (o : Option CellWanted) → cell_wanted net c ≡ o → formula_value point f ≡ formula_value point (shared_function own (plain_netlist net))
      by_cell None there = absurd (some_is_none (sym at ∙ wanted_is net c ∙ ap (option_map (plain_wanted fs)) there))
      by_cell (Some v) there =
          let same : plain_wanted fs v ≡ w = same_Some (plain_wanted fs v) w (sym (wanted_is net c ∙ ap (option_map (plain_wanted fs)) there) ∙ at) in
          ap (formula_value point) (each c v f there (ap own same ∙ e))

  abbrev zero_bit : ExprId
  zero_bit = record { 0 = 0 }

  -- no cell has such an equation: the function is 0
  none_shared : first_with own (plain_netlist net).cells ≡ None → IsSharedProduct t net which
  none_shared nobody = record { bit = zero_bit; shared = bit_shared; product = product }
    where
      product : IsProduct (length t.pairs) net zero_bit
      product = bit_product (length t.pairs) net leaf_of none zero_bit (record { products = []; few = omega arith; is = zero_is net })

      no_own : (c : ℕ) (w : CellWanted) → cell_wanted net c ≡ Some w → own_control which w ≡ None
      no_own c w at = (found_id (λ (v : CellWanted). own_control which v ≡ None) net.cells c w (λ k d inside. none_first fs which net.cells nobody k d inside) at).has

      bit_shared : IsSharedBit t net which zero_bit
      bit_shared =
          record {
            id = zero_sound t net;
            formula = zero_is net ∙ sym (ap (λ (o : Option Wanted). unwrap_or (own_of own o) (Const false)) nobody);
            listed = λ nothing. some_is_none (sym product.list_is ∙ nothing);
            shared = are_shared (λ c w f at e. absurd (some_is_none (sym e ∙ own_is fs which w ∙ ap (plain_control fs) (no_own c w at))));
          }

  -- the first cell that has one: the function is that row's
  first_shared : IsFirst fs which net.cells → IsSharedProduct t net which
  first_shared first = record { bit = first.control.bit; shared = bit_shared; product = product }
    where
      at : cell_wanted net first.cell.cell ≡ Some first.cell
      at = first_wanted t net sound first.cell first.among

      own_first : own (plain_wanted fs first.cell) ≡ Some (formula_at fs first.control.bit)
      own_first = own_formula_is first.cell first.control first.own

      bit_is : formula_at fs first.control.bit ≡ shared
      bit_is = own_shared first.cell.cell first.cell (formula_at fs first.control.bit) at own_first

      function_is : shared_function own (plain_netlist net) ≡ formula_at fs first.control.bit
      function_is = ap (λ (o : Option Wanted). unwrap_or (own_of own o) (Const false)) first.is ∙ ap (λ (o : Option Formula). unwrap_or o (Const false)) own_first

      product : IsProduct (length t.pairs) net first.control.bit
      product = bit_product (length t.pairs) net leaf_of none first.control.bit (subst (IsOneOrNone leaf_of) (sym bit_is) few_shared)

      bit_shared : IsSharedBit t net which first.control.bit
      bit_shared =
          record {
            id = own_id t net sound which first.cell.cell first.cell first.control at first.own;
            formula = sym function_is;
            listed = λ nothing. some_is_none (sym product.list_is ∙ nothing);
            shared = are_shared (λ c w f there e. own_shared c w f there e ∙ sym (function_is ∙ bit_is));
          }

  pub is_shared : IsSharedProduct t net which
  is_shared = elim (first_of fs which net.cells) [ inl nobody ↦ none_shared nobody | inr first ↦ first_shared first ]

  -- a cell's own equation is no wider
  pub own_narrow : (c : ℕ) (w : CellWanted) (control : Control) → cell_wanted net c ≡ Some w → own_control which w ≡ Some control → bit_list net control.bit true ≡ None → ⊥
  own_narrow c w control at e nothing =
      let bit_is : formula_at fs control.bit ≡ shared = own_shared c w (formula_at fs control.bit) at (own_formula_is w control e) in
      let product = bit_product (length t.pairs) net leaf_of none control.bit (subst (IsOneOrNone leaf_of) (sym bit_is) few_shared) in
      some_is_none (sym product.list_is ∙ nothing)
