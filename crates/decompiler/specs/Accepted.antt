-- That a decompiled source is accepted, and fits as it is written (this project's rule).
use Rattle.std.specs.Prelude.{◌≡◌, Bool, List, length}
use Rattle.decompiler.specs.Prelude.{HasNoLoop, IsDevice, Table, cell_reads, HasNoResetPath, SparesPowerDown, ModuleTree, IsSourceTree, source_of, FitsAsWritten, IsAcceptedFor}

-- nothing at all is refused of a module that is the fuses' source, if these have no loop and no reset path, and no row reads a
-- pin that may power the chip down
abbrev pub SourcesAreAccepted : Type 0
SourcesAreAccepted =
    (t : Table) (fuses : List Bool) (m : ModuleTree) → IsDevice t → length fuses ≡ t.fuses → IsSourceTree (source_of t fuses) m
    → HasNoLoop (length t.cells) (cell_reads t fuses) → HasNoResetPath t fuses → SparesPowerDown t fuses → IsAcceptedFor t m

-- and it fits as it is written
abbrev pub SourcesFitAsWritten : Type 0
SourcesFitAsWritten =
    (t : Table) (fuses : List Bool) (m : ModuleTree) → IsDevice t → length fuses ≡ t.fuses → IsSourceTree (source_of t fuses) m
    → HasNoLoop (length t.cells) (cell_reads t fuses) → HasNoResetPath t fuses → SparesPowerDown t fuses → FitsAsWritten t m
