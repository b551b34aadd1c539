-- Two netlists over arenas that represent one netlist over formulas have no room for a cell's direct form alike.
use Rattle.std.proofs.Common.{◌≡◌, ℕ, Bool, false, Option, Some, sym, ◌∙◌, subst, length}
use Rattle.compile_phases.proofs.Common.{IsDevice, Table, Netlist, PlainNetlist, plain_netlist, IsSoundNetlist, Products}
use Rattle.std.specs.Global.{Vec}
use Rattle.bit_expr.specs.declared.netlist.CellWanted.{CellWanted}
use Rattle.covers.specs.declared.cube.Cube.{Cube}
use Rattle.fit_plans.specs.Covering.{IsTried}
use Rattle.fit_plans.specs.Forms.{rows_are_positive}
use Rattle.fit_plans.specs.Tries.{allowed_of, needed_of}
use Rattle.fitter.specs.Plans.{IsTurnMask, cell_wanted}
use Rattle.fitter.specs.Rows.{IsDirectOver}
use Rattle.compile_phases.proofs.SameCells.{HasCell, allowed_as, cell_of, may_same, needed_as}

pub same_wanted : (a b : CellWanted) → Some a ≡ Some b → a ≡ b
same_wanted a b e = cc

-- what was tried with two lists was tried with lists that are the same
tried_same : (vars mask : ℕ) (n m a b : Products) (cover : Option (Vec Cube)) → n ≡ m → a ≡ b → IsTried vars mask n a cover → IsTried vars mask m b cover
tried_same vars mask n m a b cover needed allowed tried =
    subst (λ (x : Products). IsTried vars mask x b cover) needed (subst (λ (x : Products). IsTried vars mask n x cover) allowed tried)

module _ (t : Table) (laws : IsDevice t) (net other : Netlist) (one : IsSoundNetlist t net) (two : IsSoundNetlist t other)
    (plain : plain_netlist net ≡ plain_netlist other) (c : ℕ) (w : CellWanted) where
  over_same : (h : HasCell t laws net other one two plain c w) → IsDirectOver t net c h.cell → IsDirectOver t other c w
  over_same h over =
      let may = may_same t laws net other one two plain c w h false in
      record {
        mask = over.mask;
        mask_is = subst (λ (x : PlainNetlist). IsTurnMask t x over.mask) plain over.mask_is;
        cover = over.cover;
        tried = (
          λ is. tried_same (length t.pairs) over.mask
              (needed_of net h.cell.function (rows_are_positive t.flip h.cell false)) (needed_of other w.function (rows_are_positive t.flip w false))
              (allowed_of net h.cell.function (rows_are_positive t.flip h.cell false)) (allowed_of other w.function (rows_are_positive t.flip w false)) over.cover
              (needed_as t laws net other one two plain c w h false) (allowed_as t laws net other one two plain c w h false) (over.tried.0 (may ∙ is)),
          λ is. over.tried.1 (may ∙ is),
        );
        over = over.over;
      }

  -- so it is with the cell of the one
  pub direct_over : (cell : CellWanted) → cell_wanted net c ≡ Some cell → cell_wanted other c ≡ Some w → IsDirectOver t net c cell → IsDirectOver t other c w
  direct_over cell own wanted over =
      let h = cell_of t laws net other one two plain c w wanted in
      over_same h (subst (λ (x : CellWanted). IsDirectOver t net c x) (same_wanted cell h.cell (sym own ∙ h.wanted)) over)
