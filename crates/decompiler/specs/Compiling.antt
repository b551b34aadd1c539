-- That the text of a device's fuses is compiled (this project's rule).
use Rattle.std.specs.Prelude.{◌≡◌, ℕ, ◌<◌, ◌≤◌, Bool, false, true, List, length, Some, Result, Ok, Err}
use Rattle.decompiler.specs.Prelude.{DeviceName, Model, HasNoLoop, Table, cell_reads, HasNoResetPath, SparesPowerDown, ModuleTree, SpellsModule, model_named, table_at, FitsAsWritten, IsAcceptedFor, IsReadFor, IsPlacedModule, decompiled_text}
use Rattle.pld_base.specs.Bits.{is_on}
use Rattle.pld_base.specs.Models.{has_modes, plain_model, registered_model, simple_model}
use Rattle.pld_device.specs.Given.{never_drives}
use Rattle.compile_phases.specs.declared.fault.CompileFault.{CompileFault}
use Rattle.compile_phases.specs.declared.fault.CompileFault.TheVariants.{OutOfMemory}
use Rattle.abel_compile.specs.declared.compiled.Compiled.{Compiled}
use Rattle.abel_compile.specs.Answers.{IsNeverRefused}

-- the fuses of a device that is loaded: no chain of reads returns or leads from the reset to a register
pub record AreLoadable (t : Table) (fuses : List Bool) : Type 0 where
  pub size : length fuses ≡ t.fuses
  pub no_loop : HasNoLoop (length t.cells) (cell_reads t fuses)
  pub no_path : HasNoResetPath t fuses

-- the text of any fuses is within the limit of a text that is compiled
abbrev pub DecompiledTextsAreShort : Type 0
DecompiledTextsAreShort = (device : Model) (fuses : List Bool) → length (decompiled_text (table_at device) fuses) ≤ 1048576

-- the text of fuses asks for the device in the mode that it is in
abbrev pub AsksForItself : Model → (fuses : List Bool) → Type 0
AsksForItself device fuses = (m : ModuleTree) → SpellsModule (decompiled_text (table_at device) fuses) m → model_named m ≡ Some device

-- so does each text of a device without modes
abbrev pub PlainTextsAskForThemselves : Type 0
PlainTextsAskForThemselves = (device : DeviceName) (fuses : List Bool) → has_modes device ≡ false → AsksForItself (plain_model device) fuses

-- so does each text of a chip with modes: in simple mode, whichever cells drive; in registered mode, if a cell is a register; and in
-- complex mode, if a cell may drive its pin
pub record ChipTextsAskForThemselves : Type 0 where
  pub simple : (device : DeviceName) (driven fuses : List Bool) → has_modes device ≡ true → length driven ≡ 8
      → AsksForItself (simple_model device driven) fuses
  pub registered : (device : DeviceName) (registers fuses : List Bool) (cell : ℕ) → has_modes device ≡ true → length registers ≡ 8
      → is_on registers cell ≡ true → AsksForItself (registered_model device registers) fuses
  pub complex : (device : DeviceName) (fuses : List Bool) (cell : ℕ) → has_modes device ≡ true → cell < 8
      → never_drives (table_at (plain_model device)) fuses cell ≡ false → AsksForItself (plain_model device) fuses

-- the text of fuses that are loaded has nothing to place, nothing is refused of it, for the device that it names, and it fits
-- as it is written; unless it asks for another mode, or a row reads pin 4 of an ATF22V10C, which no source may read
abbrev pub DecompiledTextsAreAccepted : Type 0
DecompiledTextsAreAccepted =
    (device : Model) (fuses : List Bool) → AreLoadable (table_at device) fuses → SparesPowerDown (table_at device) fuses
    → AsksForItself device fuses
    → IsReadFor (decompiled_text (table_at device) fuses) (λ t m. IsPlacedModule t m m × IsAcceptedFor t m × FitsAsWritten t m)

-- an answer, or that memory ran out
abbrev pub IsAnswered : Result Compiled CompileFault → Type 0
IsAnswered (Ok c) = Unit {0}
IsAnswered (Err OutOfMemory) = Unit {0}
IsAnswered (Err _) = ⊥

-- compiling the text, which never refuses what is accepted and fits as it is written, answers Ok or that memory ran out
abbrev pub DecompiledTextsCompile : Type 0
DecompiledTextsCompile =
    (device : Model) (fuses : List Bool) (r : Result Compiled CompileFault) → AreLoadable (table_at device) fuses
    → SparesPowerDown (table_at device) fuses → AsksForItself device fuses → IsNeverRefused (decompiled_text (table_at device) fuses) r
    → IsAnswered r
