-- What holds of the fuses of a netlist by their reads and in a fuse file (this project's rule).
use Rattle.std.specs.Prelude.{Bool, List, length}
use Rattle.netlist_laws.specs.Prelude.{IsDevice, Table, HasNoLoop, PlainNetlist, IsSound}
use Rattle.jedec_file.specs.ControlLines.{IsIntactPastLines}
use Rattle.device_logic.specs.CellReads.{cell_reads}
use Rattle.device_logic.specs.ResetPaths.{HasNoResetPath}
use Rattle.netlist_laws.specs.Fitting.{IsFitted}

-- no chain of cells, each of which reads the next while the device settles, returns
abbrev pub FittedHasNoLoop : Type 0
FittedHasNoLoop =
    (t : Table) (net : PlainNetlist) (fuses : List Bool) → IsDevice t → IsSound t net → IsFitted t net fuses → HasNoLoop (length t.cells) (cell_reads t fuses)

-- no such chain leads from the reset row to a register
abbrev pub FittedHasNoResetPath : Type 0
FittedHasNoResetPath =
    (t : Table) (net : PlainNetlist) (fuses : List Bool) → IsDevice t → IsSound t net → IsFitted t net fuses → HasNoResetPath t fuses

-- the fuses past those that a line of the canonical file may name are 0
abbrev pub FittedIsIntact : Type 0
FittedIsIntact = (t : Table) (net : PlainNetlist) (fuses : List Bool) → IsFitted t net fuses → IsIntactPastLines t fuses
