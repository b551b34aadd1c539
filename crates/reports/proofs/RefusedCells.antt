-- The cells and controls that a refusal of the fit names are there.
use Rattle.std.proofs.Common.{rules, ◌≡◌, ℕ, Bool, true, false, ◌==◌, nat_lt, length, List, [], ◌∷◌, ◌++◌, map, Option, None, Some, IsSome, is_some, Err, refl, sym, ap, subst, ◌∙◌, if◌then◌else◌, inl, inr, find, unwrap_or}
use Rattle.reports.proofs.Common.{option_map, option_to_list, same_Some, Table, CellWanted, Control, Netlist, arena, formula_at, earlier, first_refusal, is_before, Wanted, earlier_name, first_with, own_of, plain_control, plain_netlist, plain_wanted, wanted_at, SharedControl, bit_or, cell_wanted, enable_bit, AreNotShared, own_control, own_formula, one_is, wanted_is, control_order, first_own, own_controls}
use Rattle.std.proofs.lemmas.Bool.{cases_Bool, true≢false}
use Rattle.pld_base.specs.declared.point.Point.{Point}
use Rattle.bit_expr.specs.Formulas.{Const, Formula}
use Rattle.covers.specs.Cubes.{full_cube}
use Rattle.covers.specs.declared.cube.Cube.{Cube}
use Rattle.sop_lowering.specs.Written.{written}
use Rattle.fitter.specs.declared.shared.SharedControl.TheVariants.{Preset, Reset}
use Rattle.fitter.specs.Products.{DifferIn, IsFirstSum, IsNoProduct, IsOneProduct, IsSharedSum}
use Rattle.fitter.proofs.Alike.{came_from}
use Rattle.fitter.proofs.FirstNames.{own_is}

some_is : {X : Type 0} (o : Option X) (x : X) → o ≡ Some x → IsSome o
some_is o x is = rw is refl

-- what is mapped to something is something
mapped_some : {X Y : Type 0} (f : X → Y) (o : Option X) (y : Y) → option_map f o ≡ Some y → IsSome o
mapped_some f o y is = let there = came_from f o y is in some_is o there.from there.is

-- ---- two cells that differ

apart : (t : Table) (net : Netlist) (which : SharedControl) (a b : ℕ) (point : Point) → DifferIn t net which a b point
    → AreNotShared t (plain_netlist net) (own_formula which) a b point
apart t net Reset a b point differ = differ
apart t net Preset a b point differ = differ.1

-- the cell of least name that has such an equation is found by its number
same_cell : (w x : Wanted) → w ≡ x → (w.cell == x.cell) ≡ false → ⊥
same_cell w x same miss = true≢false (sym (is_itself x.cell) ∙ subst (λ (y : Wanted). (y.cell == x.cell) ≡ false) same miss)
  where
    is_itself : (n : ℕ) → (n == n) ≡ true
    is_itself n = search rules

not_this : (w x : Wanted) (o : Option Wanted) → (w ≡ x → ⊥) → earlier_name w o ≡ x → o ≡ Some x
not_this w x None other is = absurd (other is)
not_this w x (Some v) other is =
    elim (cases_Bool (nat_lt v.name w.name)) [
      | inl less ↦ ap Some (rw less at is)
      | inr more ↦ absurd (other (rw more at is))
    ]

first_found : (own : Wanted → Option Formula) (ws : List Wanted) (x : Wanted) → first_with own ws ≡ Some x → IsSome (find (λ (w : Wanted). w.cell == x.cell) ws)
first_found own [] x is = absurd cc
first_found own (w ∷ ws) x is =
    elim (cases_Bool (w.cell == x.cell)) [
      | inl hit ↦ rw hit refl
      | inr miss ↦ rw miss (first_found own ws x (behind miss))
    ]
  where
    behind : (w.cell == x.cell) ≡ false → first_with own ws ≡ Some x
    behind miss =
        elim (cases_Bool (is_some (own w))) [
          | inl has ↦ not_this w x (first_with own ws) (λ same. same_cell w x same miss) (same_Some (earlier_name w (first_with own ws)) x (rw has at is))
          | inr none ↦ rw none at is
        ]

module _ (t : Table) (net : Netlist) (which : SharedControl) (a b : ℕ) (point : Point) (differ : DifferIn t net which a b point) where
  abbrev is : AreNotShared t (plain_netlist net) (own_formula which) a b point
  is = apart t net which a b point differ

  pub first_there : IsSome (cell_wanted net a)
  first_there = by (cell_wanted net a)
      (subst (λ (o : Option Wanted). IsSome o) (wanted_is net a)
      (subst (λ c. IsSome (wanted_at (plain_netlist net) c)) is.first_cell (first_found (own_formula which) (plain_netlist net).cells is.first is.first_is)))
    where
      by : (o : Option CellWanted) → IsSome (option_map (plain_wanted (arena net.exprs)) o) → IsSome o
      by None some = some
      by (Some w) some = refl

  pub second_there : IsSome (cell_wanted net b)
  second_there = mapped_some (plain_wanted (arena net.exprs)) (cell_wanted net b) is.second (sym (wanted_is net b) ∙ is.second_is)

  -- its own equation
  pub second_own : (w : CellWanted) → cell_wanted net b ≡ Some w → IsSome (own_control which w)
  second_own w there =
      let second = came_from (plain_wanted (arena net.exprs)) (cell_wanted net b) is.second (sym (wanted_is net b) ∙ is.second_is) in
      let same : second.from ≡ w = same_Some second.from w (sym second.is ∙ there) in
      mapped_some (λ (c : Control). formula_at (arena net.exprs) c.bit) (own_control which w) is.function
      (sym (own_is (arena net.exprs) which w)
      ∙ (ap (λ (v : CellWanted). own_formula which (plain_wanted (arena net.exprs) v)) (sym same)
      ∙ (ap (own_formula which) second.gives ∙ is.function_is)))

-- ---- controls that are no product: one that isn't there would be

none_earlier : (c : Control) (o : Option Control) → earlier control_order (Some c) o ≡ None → ⊥
none_earlier c None is = absurd cc
none_earlier c (Some d) is =
    elim (cases_Bool (is_before control_order d c)) [
      | inl before ↦ some_none d (rw before at is)
      | inr behind ↦ some_none c (rw behind at is)
    ]
  where
    some_none : (x : Control) → Some x ≡ None → ⊥
    some_none x e = absurd cc

none_own : (fs : List Formula) (which : SharedControl) (cells : List CellWanted) → first_refusal control_order (own_controls which cells) ≡ None
    → first_with (own_formula which) (map (plain_wanted fs) cells) ≡ None
none_own fs which [] is = refl
none_own fs which (w ∷ ws) is = by (own_control which w) refl (λ none. none_own fs which ws none)
  where
    by : (o : Option Control) → own_control which w ≡ o
        → (first_refusal control_order (own_controls which ws) ≡ None → first_with (own_formula which) (map (plain_wanted fs) ws) ≡ None)
        → first_with (own_formula which) (map (plain_wanted fs) (w ∷ ws)) ≡ None
    by None own rest =
        rw (own_is fs which w, own) (rest (subst (λ o. first_refusal control_order (option_to_list o ++ own_controls which ws) ≡ None) own is))
    by (Some c) own rest =
        absurd (none_earlier c (first_refusal control_order (own_controls which ws))
        (subst (λ o. first_refusal control_order (option_to_list o ++ own_controls which ws) ≡ None) own is))

pub control_there : (t : Table) (net : Netlist) (which : SharedControl) → IsSharedSum t net which → IsSome (first_own which net)
control_there t net which sum = by (first_own which net) refl
  where
    by : (o : Option Control) → first_own which net ≡ o → IsSome o
    by (Some c) is = refl
    by None is = absurd (sum.many.many (subst (IsOneProduct (length t.pairs)) list_is (None, λ p e. refl)))
      where
        zero : formula_at (arena net.exprs) sum.bit ≡ Const false
        zero = sum.shared.formula ∙ ap (λ o. unwrap_or (own_of (own_formula which) o) (Const false)) (none_own (arena net.exprs) which net.cells is)

        list_is : [] ≡ sum.many.list
        list_is = same_Some [] sum.many.list (ap (λ f. written net f true) (sym zero) ∙ sum.many.list_is)

pub enable_there : (t : Table) (net : Netlist) (c : ℕ) → IsFirstSum t net c → (w : CellWanted) → cell_wanted net c ≡ Some w → IsSome w.enable
enable_there t net c sum w there = by w.enable refl
  where
    many : IsNoProduct (length t.pairs) net (enable_bit w)
    many = subst (λ (v : CellWanted). IsNoProduct (length t.pairs) net (enable_bit v)) (same_Some sum.cell w (sym sum.wanted ∙ there)) sum.many

    by : (o : Option Control) → w.enable ≡ o → IsSome o
    by (Some e) is = refl
    by None is = absurd (many.many (subst (IsOneProduct (length t.pairs)) list_is (Some full_cube, λ p e. refl)))
      where
        one : formula_at (arena net.exprs) (enable_bit w) ≡ Const true
        one = ap (λ o. formula_at (arena net.exprs) (bit_or (record { 0 = 1 }) o)) is ∙ one_is net

        list_is : full_cube ∷ [] ≡ many.list
        list_is = same_Some (full_cube ∷ []) many.list (ap (λ f. written net f true) (sym one) ∙ many.list_is)
