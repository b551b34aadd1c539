-- None of the cells so far is the one.
use Rattle.std.proofs.Common.{◌≡◌, ◌==◌, drop, find}
use Rattle.fitter.proofs.Common.{CellWanted}
use Rattle.fitter.proofs.shared.cell_wanted.Given as goal

abbrev pub invariant-loop-wanted : goal.invariant-loop-wanted
invariant-loop-wanted l = record {
  rest : find (λ (w : CellWanted). w.cell == l.cell) (drop l.wanted-index l.net.cells) ≡ find (λ (w : CellWanted). w.cell == l.cell) l.net.cells;
}
