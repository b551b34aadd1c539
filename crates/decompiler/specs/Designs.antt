-- What is refused of the design of a decompiled source: nothing (this project's rule).
use Rattle.std.specs.Prelude.{◌≡◌, Bool, List, length}
use Rattle.decompiler.specs.Prelude.{HasNoLoop, IsDevice, Table, arena, cell_reads, HasNoResetPath, SparesPowerDown, ModuleTree, design_of, IsTakeable, Contributions, AreContributed, IsSourceTree, source_of}
use Rattle.design.specs.Answers.{HasNoRefusal}

-- nothing is refused of the design of a module that is the fuses' source, if these have no loop and no reset path, and no row
-- reads a pin that may power the chip down
abbrev pub DesignsAreUnrefused : Type 0
DesignsAreUnrefused =
    (t : Table) (fuses : List Bool) (m : ModuleTree) → IsDevice t → length fuses ≡ t.fuses → IsSourceTree (source_of t fuses) m
    → HasNoLoop (length t.cells) (cell_reads t fuses) → HasNoResetPath t fuses → SparesPowerDown t fuses
    → (found : Contributions) → AreContributed (design_of t m) found → HasNoRefusal (design_of t m) (arena found.exprs) found.list

-- and the device can take its netlist
abbrev pub DesignsAreTakeable : Type 0
DesignsAreTakeable =
    (t : Table) (fuses : List Bool) (m : ModuleTree) → IsDevice t → length fuses ≡ t.fuses → IsSourceTree (source_of t fuses) m
    → HasNoLoop (length t.cells) (cell_reads t fuses) → HasNoResetPath t fuses → SparesPowerDown t fuses
    → (found : Contributions) → AreContributed (design_of t m) found → IsTakeable (design_of t m)
