-- The cells so far have their covers, or one of them is refused, which isn't so if the walk is to go on.
use Rattle.std.proofs.Common.{◌≡◌, false}
use Rattle.fitter.proofs.Common.{CoversBelow, EachCoveredBelow}
use Rattle.fitter.proofs.CoversInTurn.{IsRefused}
use Rattle.fitter.proofs.covering.cover_cells.Given as goal

abbrev pub invariant-loop-cell : goal.invariant-loop-cell
invariant-loop-cell g l = record {
  below : CoversBelow g.D.Device.table l.fit.over.turned l.fit.over.net.now l.cell l.list.items;
  refused : IsRefused g.D.Device.table l.list.items l.cell l.refused;
  all : l.stops ≡ false → (l.refused ≡ false) × EachCoveredBelow g.D.Device.table l.fit.over.turned l.fit.over.net.now l.cell l.list.items;
}
