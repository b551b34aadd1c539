use Rattle.fuse_porting.proofs.CarriedLogics.{carried_over}
use Rattle.fuse_porting.proofs.Differences.{finds_same, finds_same_first}
use Rattle.fuse_porting.proofs.Mismatches.{same_mismatches}
use Rattle.pld_machine.proofs.Refined.{run_refines}
use Rattle.fuse_porting.proofs.SameReads.{cells_alike, no_loop_too}
use Rattle.fuse_porting.proofs.laws.ported_logics.Goals as goal

pub returns-clause-carried : goal.returns-clause-carried
returns-clause-carried c = carried_over

pub returns-clause-runs : goal.returns-clause-runs
returns-clause-runs c = λ a b same. run_refines b a same.back

pub returns-clause-mismatches : goal.returns-clause-mismatches
returns-clause-mismatches c = same_mismatches

pub returns-clause-differences : goal.returns-clause-differences
returns-clause-differences c = λ a b other cells same. (finds_same a b other cells same, finds_same_first b a other same)

pub returns-clause-reads : goal.returns-clause-reads
returns-clause-reads c f t a b fd td same over = cells_alike f t a b fd td same over

pub returns-clause-no_loop : goal.returns-clause-no_loop
returns-clause-no_loop c f t a b fd td same over = no_loop_too f t a b fd td same over
