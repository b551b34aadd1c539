use Rattle.wrong_fuses.proofs.Tried.{the_list, tried_runs}
use Rattle.wrong_fuses.proofs.running.list_at.Goals as goal

pub returns-clause-run : goal.returns-clause-run
returns-clause-run g c =
    the_list g.D.Device.table c.args.file.now c.in_ok-trial.trial c.args.fuses.now c.args.level c.in_ok-trial.ensures.fuses c.in_ok-trial.ensures.vectors c.in_ok-trial.ensures.level
    c.in_ok-report.report.list c.in_ok-report.ensures.simulated.run c.in_ok-report.ensures.only

pub returns-clause-can : goal.returns-clause-can
returns-clause-can g c =
    tried_runs g.D.Device.table c.args.file.now c.in_ok-trial.trial c.args.fuses.now c.args.level c.in_ok-trial.ensures.fuses c.in_ok-trial.ensures.vectors c.in_ok-trial.ensures.level
    c.in_ok-report.ensures.simulated.can
