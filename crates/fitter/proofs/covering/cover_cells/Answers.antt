use Rattle.std.proofs.Common.{◌+◌, List, inl, inr, refl, subst, sym, ◌∙◌, arith, Option}
use Rattle.fitter.proofs.Common.{cases_Bool, CellCovers, CoversBelow, EachCoveredBelow}
use Rattle.fitter.proofs.CoversInTurn.{IsRefused, below_more, below_none, covered_more, covered_none, first_number, none_refused, refused_more}
use Rattle.fitter.proofs.covering.cover_cells.Goals as goal

pub loop-cell-init : goal.loop-cell-init
loop-cell-init g c = record {
  below = rw c.new-list.ensures.items (below_none g.D.Device.table c.args.fit.now.over.turned c.args.fit.now.over.net.now);
  refused = rw c.new-list.ensures.items (none_refused g.D.Device.table);
  all = λ goes. (refl, rw c.new-list.ensures.items (covered_none g.D.Device.table c.args.fit.now.over.turned c.args.fit.now.over.net.now));
}

pub loop-cell-preserved : goal.loop-cell-preserved
loop-cell-preserved g c =
    let t = g.D.Device.table in
    let before = c.loop-cell.invariant in
    let cell = c.loop-cell.cell in
    let list = c.loop-cell.list.items in
    record {
      below = subst (λ (xs : List (Option CellCovers)). CoversBelow t c.args.fit.now.over.turned c.args.fit.now.over.net.now (cell + 1) xs) (sym c.in_ok-push-in-Ok.ensures.items)
          (below_more t c.args.fit.now.over.turned c.args.fit.now.over.net.now cell list c.in-Ok.covers before.below c.in-Ok.ensures.checked (λ fit. elim (cases_Bool c.loop-cell.refused) [
            | inl yes-is ↦ absurd (before.refused yes-is fit)
            | inr no-is ↦ c.in-Ok.ensures.covered no-is
          ]));
      refused = subst (λ (xs : List (Option CellCovers)). IsRefused t xs (cell + 1) c.is_refused-refused.result) (sym c.in_ok-push-in-Ok.ensures.items)
          (refused_more t list c.in-Ok.covers cell c.loop-cell.refused c.is_refused-refused.result before.below.count before.refused c.is_refused-refused.ensures.over);
      all = λ goes. (
        c.is_refused-refused.ensures.goes_on (before.all goes).0 goes,
        subst (EachCoveredBelow t c.args.fit.now.over.turned c.args.fit.now.over.net.now (cell + 1)) (sym c.in_ok-push-in-Ok.ensures.items)
            (covered_more t c.args.fit.now.over.turned c.args.fit.now.over.net.now cell list c.in-Ok.covers before.below.count (before.all goes).1 (c.in-Ok.ensures.covered (before.all goes).0)),
      );
    }

pub is_refused-refused-requires : goal.is_refused-refused-requires
is_refused-refused-requires g c = omega (arith, c.loop-cell-test.true, c.cells-cell-end.ensures)

pub first_wide-requires-clause-wide : goal.first_wide-requires-clause-wide
first_wide-requires-clause-wide g c =
    first_number g.D.Device.table c.args.fit.now.over.turned c.args.fit.now.over.net.now c.loop-cell.cell c.loop-cell.list.items c.loop-cell.invariant.below (rw c.in-Err-TooWide.field-0-is at c.in-Err-TooWide.ensures.checked)

pub returns-clause-covered : goal.returns-clause-covered
returns-clause-covered g c =
    subst (λ n. CoversBelow g.D.Device.table c.args.fit.now.over.turned c.args.fit.now.over.net.now n c.loop-cell.list.items)
    (omega (arith, c.loop-cell-test.false, c.cells-cell-end.ensures, c.loop-cell.auto.cell-end)) c.loop-cell.invariant.below

pub returns-clause-all : goal.returns-clause-all
returns-clause-all g c =
    λ goes.
    subst (λ n. EachCoveredBelow g.D.Device.table c.args.fit.now.over.turned c.args.fit.now.over.net.now n c.loop-cell.list.items)
    (omega (arith, c.loop-cell-test.false, c.cells-cell-end.ensures, c.loop-cell.auto.cell-end)) (c.loop-cell.invariant.all goes).1
