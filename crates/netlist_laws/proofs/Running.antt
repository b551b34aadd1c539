-- A device with the fuses of a sound netlist does what the netlist says.
use Rattle.std.proofs.Common.{List, Bool}
use Rattle.netlist_laws.proofs.Common.{IsDevice, device_logic, Table, Ranked, ranked, PlainNetlist, netlist_logic, netlist_values, signal_count, netlist_waits, IsSound, FittedDoesTheSame, IsFitted}
use Rattle.pld_machine.specs.Steps.{IsDetermined}
use Rattle.pld_machine.proofs.Compared.{does_the_same}
use Rattle.device_logic.proofs.OneRun.{device_determined}
use Rattle.netlist_laws.proofs.CellRanks.{fitted_no_loop}
use Rattle.netlist_laws.proofs.FittedPaths.{fitted_no_path}
use Rattle.netlist_laws.proofs.Refining.{fitted_refines}

-- it has one point at rest and one run
fitted_determined : (t : Table) (net : PlainNetlist) (fuses : List Bool) → IsDevice t → IsSound t net → IsFitted t net fuses → IsDetermined (device_logic t fuses)
fitted_determined t net fuses laws sound fitted =
    device_determined t fuses laws (fitted_no_loop t laws net sound fuses fitted ranks) (fitted_no_path t laws net sound fuses fitted ranks)
  where
    ranks : Ranked (signal_count t net) (netlist_waits t net)
    ranks = ranked (signal_count t net) (netlist_waits t net) sound.no_loop

pub fitted_does_the_same : FittedDoesTheSame
fitted_does_the_same t net fuses laws sound fitted =
    let once = fitted_determined t net fuses laws sound fitted in
    does_the_same (device_logic t fuses) (netlist_logic t net) (netlist_values net) (fitted_refines t net fuses laws sound fitted) once.rests once.runs
