-- What the source of a device's fuses is (this project's rule).
use Rattle.std.specs.Prelude.{◌≡◌, Bool, List, Some, length}
use Rattle.decompiler.specs.Prelude.{HasNoLoop, IsDevice, Table, cell_reads, HasNoResetPath, SparesPowerDown, ModuleTree, IsPlacedModule, IsSourceTree, FitsAsWritten, IsAcceptedFor, source_of}
use Rattle.abel_meaning.specs.Models.{device_named}
use Rattle.decompiled.specs.Runs.{SaysWhatItDoes}

-- it names the device and has nothing to place; unless a row reads a pin that may power the chip down, nothing is refused of it
-- and it fits as it is written, so it is compiled; and it says what the device with the fuses does
pub record IsRightSource (t : Table) (fuses : List Bool) (m : ModuleTree) : Type 0 where
  pub named : device_named m ≡ Some t.name
  pub placed : IsPlacedModule t m m
  pub accepted : SparesPowerDown t fuses → IsAcceptedFor t m
  pub fits : SparesPowerDown t fuses → FitsAsWritten t m
  pub says : SaysWhatItDoes t m fuses

-- so is a module that is the source of fuses, if these have no loop and no reset path
abbrev pub SourcesAreRight : Type 0
SourcesAreRight =
    (t : Table) (fuses : List Bool) (m : ModuleTree) → IsDevice t → length fuses ≡ t.fuses → IsSourceTree (source_of t fuses) m
    → HasNoLoop (length t.cells) (cell_reads t fuses) → HasNoResetPath t fuses → IsRightSource t fuses m
