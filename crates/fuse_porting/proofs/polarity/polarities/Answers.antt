use Rattle.std.proofs.Common.{◌≡◌, ◌+◌, ◌∙◌, length, true, ap, sym, arith, [], ◌∷◌}
use Rattle.std.proofs.lemmas.List.{length-append}
use Rattle.pld_base.specs.Bits.{is_on}
use Rattle.pld_device.specs.declared.cell.Cell.{Cell}
use Rattle.fuse_porting.specs.SameArray.{polarity_fits}
use Rattle.fuse_porting.proofs.ControlFuses.{more_levels}
use Rattle.fuse_porting.proofs.Fitting.{none_fits, some_fits}
use Rattle.fuse_porting.proofs.polarity.polarities.Goals as goal

pub loop-cell-init : goal.loop-cell-init
loop-cell-init g c = record { size = ap length c.new-found.ensures.items; fit = λ k out low. absurd (omega (arith, low)) }

pub returns-in_default-clause-refused : goal.returns-in_default-clause-refused
returns-in_default-clause-refused g c = (
  c.loop-cell.cell,
  record {
    within = omega (arith, c.loop-cell-test.true, c.loop-cell.auto.cell-end, c.cells-cell-end.ensures);
    on_pin = ap (λ (cell : Cell). cell.pin) c.cell_of.ensures.found;
    none = none_fits (polarity_fits g.F.Device.table g.T.Device.table c.args.array.now c.loop-cell.cell) (sym c.fitting.ensures ∙ c.in_default.is);
  },
  λ d low. (is_on c.loop-cell.found.items d, c.loop-cell.invariant.fit d (omega arith) low),
)

pub loop-cell-preserved : goal.loop-cell-preserved
loop-cell-preserved g c = record {
  size = ap length c.in_ok-push.ensures.items ∙ length-append c.loop-cell.found.items (c.in-Some.other ∷ []) ∙ ap (λ n. n + 1) c.loop-cell.invariant.size;
  fit = more_levels (λ k other. polarity_fits g.F.Device.table g.T.Device.table c.args.array.now k other ≡ true) 0 c.loop-cell.cell c.loop-cell.found.items
      c.push.new.self.items c.in-Some.other c.in_ok-push.ensures.items c.loop-cell.invariant.size c.loop-cell.invariant.fit
      (λ out. some_fits (polarity_fits g.F.Device.table g.T.Device.table c.args.array.now c.loop-cell.cell) c.in-Some.other (sym c.fitting.ensures ∙ c.in-Some.is));
}

pub returns-clause-size : goal.returns-clause-size
returns-clause-size g c =
    c.loop-cell.invariant.size ∙ omega (arith, c.loop-cell.auto.cell-end, c.loop-cell-test.false, c.cells-cell-end.ensures)

pub returns-clause-fit : goal.returns-clause-fit
returns-clause-fit g c =
    λ k low. c.loop-cell.invariant.fit k (omega arith) (omega (arith, low, c.loop-cell.auto.cell-end, c.loop-cell-test.false, c.cells-cell-end.ensures))
