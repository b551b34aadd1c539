-- The fault is reported with its line.
use Rattle.compile_phases.proofs.Common.{entries_of}
use Rattle.compile_phases.proofs.Refusals.{told_fit}
use Rattle.compile_phases.proofs.refusing.unfit.Goals as goal

pub returns-in-Ok : goal.returns-in-Ok
returns-in-Ok g c =
    told_fit g.D.Device.table (entries_of c.args.names.now) c.args.net.now c.args.fault c.in-Ok.line c.fit_refused.result c.requires.unfit c.in-Ok.ensures.line
    c.fit_refused.ensures
