use Rattle.pld_machine.proofs.Refined.{rest_refines, step_refines, run_refines}
use Rattle.pld_machine.proofs.SameRuns.{same_rest, same_run}
use Rattle.pld_machine.proofs.laws.refined_run.Goals as goal

pub returns-clause-rests : goal.returns-clause-rests
returns-clause-rests c d s refines = rest_refines d s refines

pub returns-clause-steps : goal.returns-clause-steps
returns-clause-steps c d s refines = step_refines d s refines

pub returns-clause-runs : goal.returns-clause-runs
returns-clause-runs c d s refines = run_refines d s refines

pub returns-clause-one_rest : goal.returns-clause-one_rest
returns-clause-one_rest c d s down up = same_rest d s down up

pub returns-clause-one_run : goal.returns-clause-one_run
returns-clause-one_run c d s down up = same_run d s down up
