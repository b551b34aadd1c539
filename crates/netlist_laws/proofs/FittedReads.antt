-- The reads of fitted fuses, by the ranks of the netlist's signals.
use Rattle.netlist_laws.proofs.Common.{Table, Ranked, ranked, PlainNetlist, netlist_waits, signal_count, IsSound}
use Rattle.netlist_laws.proofs.CellRanks.{fitted_no_loop}
use Rattle.netlist_laws.proofs.FittedPaths.{fitted_no_path}
use Rattle.netlist_laws.specs.FileLaws.{FittedHasNoLoop, FittedHasNoResetPath}

ranks : (t : Table) (net : PlainNetlist) → IsSound t net → Ranked (signal_count t net) (netlist_waits t net)
ranks t net sound = ranked (signal_count t net) (netlist_waits t net) sound.no_loop

pub has_no_loop : FittedHasNoLoop
has_no_loop t net fuses laws sound fitted = fitted_no_loop t laws net sound fuses fitted (ranks t net sound)

pub has_no_reset_path : FittedHasNoResetPath
has_no_reset_path t net fuses laws sound fitted = fitted_no_path t laws net sound fuses fitted (ranks t net sound)
