use Rattle.std.proofs.Common.{subst, arith}
use Rattle.fitter.proofs.Common.{EntriesBelow}
use Rattle.fitter.proofs.Entries.{no_entries}
use Rattle.fitter.proofs.fitting.entries.Goals as goal

pub loop-cell-init : goal.loop-cell-init
loop-cell-init g c = record { below = rw c.new-list.ensures.items (no_entries g.D.Device.table c.args.fit.now.over.net.now c.args.rows.now.plans.items c.args.rows.now.forms.items) }

pub returns : goal.returns
returns g c =
    subst (λ n. EntriesBelow g.D.Device.table c.args.fit.now.over.net.now c.args.rows.now.plans.items c.args.rows.now.forms.items n c.loop-cell.list.items)
    (omega (arith, c.loop-cell-test.false, c.cells-cell-end.ensures, c.loop-cell.auto.cell-end)) c.loop-cell.invariant.below

pub add_entry-requires-clause-plans : goal.add_entry-requires-clause-plans
add_entry-requires-clause-plans g c = omega (arith, c.loop-cell-test.true, c.cells-cell-end.ensures, c.requires.plans)

pub add_entry-requires-clause-forms : goal.add_entry-requires-clause-forms
add_entry-requires-clause-forms g c = omega (arith, c.loop-cell-test.true, c.cells-cell-end.ensures, c.requires.forms)
