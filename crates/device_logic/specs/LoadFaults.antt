-- Why fuses are not loaded (this project's rule).
use Rattle.std.specs.Prelude.{◌≡◌, ℕ, Bool, List, length, map, eqb, ⊤}
use Rattle.device_logic.specs.Prelude.{IsDistinct, IsLeastLoop, HasNoLoop, Table, cell_at}
use Rattle.device_logic.specs.declared.fault.SimFault.{SimFault}
use Rattle.device_logic.specs.declared.fault.SimFault.TheVariants.{UnsupportedCondition, DeviceLoop, DeviceResetReadsRegister, OutOfMemory}
use Rattle.device_logic.specs.CellReads.{cell_reads}
use Rattle.device_logic.specs.ResetPaths.{IsResetPath}

-- the pins of these cells
abbrev pub pins_of : Table → List ℕ → List ℕ
pins_of t cells = map (λ c. (cell_at t c).pin) cells

-- the pins are those of cells each of which waits for the next one, and the last for the first, which is the
-- first of the device's cells that lies on such a loop
abbrev pub IsPinLoop : Table → List Bool → List ℕ → Type 0
IsPinLoop t fuses pins =
    (chain : List ℕ) × IsLeastLoop (length t.cells) (cell_reads t fuses) chain × (pins ≡ pins_of t chain)

-- the pins are those of a chain of cells, each once, from the reset row to a register
abbrev pub IsPinPath : Table → List Bool → List ℕ → Type 0
IsPinPath t fuses pins =
    (path : List ℕ) × IsResetPath t fuses path × IsDistinct eqb path × (pins ≡ pins_of t path)

-- the fault is such a loop; or such a chain, if there is no loop; or says that memory ran out
abbrev pub IsLoadFault : Table → List Bool → SimFault → Type 0
IsLoadFault t fuses (UnsupportedCondition vector pin) = ⊥
IsLoadFault t fuses (DeviceLoop pins) = IsPinLoop t fuses pins.items
IsLoadFault t fuses (DeviceResetReadsRegister pins) =
    HasNoLoop (length t.cells) (cell_reads t fuses) × IsPinPath t fuses pins.items
IsLoadFault t fuses OutOfMemory = ⊤
