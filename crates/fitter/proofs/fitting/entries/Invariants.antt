-- The cells so far have their entries.
use Rattle.fitter.proofs.Common.{EntriesBelow}
use Rattle.fitter.proofs.fitting.entries.Given as goal

abbrev pub invariant-loop-cell : goal.invariant-loop-cell
invariant-loop-cell g l = record {
  below : EntriesBelow g.D.Device.table l.fit.over.net.now l.rows.plans.items l.rows.forms.items l.cell l.list.items;
}
