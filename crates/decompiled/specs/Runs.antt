-- What a decompiled source is to the fuses (this project's rule).
use Rattle.std.specs.Prelude.{◌≡◌, Bool, List, length}
use Rattle.decompiled.specs.Prelude.{HasNoDontCare, IsDevice, Table, ModuleTree}
use Rattle.pld_order.specs.Graphs.{HasNoLoop}
use Rattle.device_logic.specs.CellReads.{cell_reads}
use Rattle.device_logic.specs.ResetPaths.{HasNoResetPath}
use Rattle.abel_meaning.specs.SourceLogic.{source_logic}
use Rattle.netlist_laws.specs.FittedCorrect.{DoesWhatItSays}
use Rattle.decompiled.specs.SourceTrees.{IsSourceTree}
use Rattle.decompiled.specs.Sources.{source_of}

-- each set of values of the module is one value at every point, so it has one run; and that is what the device with the
-- fuses does
pub record SaysWhatItDoes (t : Table) (m : ModuleTree) (fuses : List Bool) : Type 0 where
  pub one_value : HasNoDontCare (source_logic t m)
  pub does : DoesWhatItSays t m fuses

-- so it is of the module that the source of fuses is read as, if they have no loop and no reset path
abbrev pub SourcesSayWhatFusesDo : Type 0
SourcesSayWhatFusesDo =
    (t : Table) (fuses : List Bool) (m : ModuleTree) → IsDevice t → length fuses ≡ t.fuses → IsSourceTree (source_of t fuses) m
    → HasNoLoop (length t.cells) (cell_reads t fuses) → HasNoResetPath t fuses → SaysWhatItDoes t m fuses
