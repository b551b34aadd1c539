-- The main theorem at the top call: what is under OUT is right for the source under IN.
use Rattle.std.specs.Prelude.{◌≡◌, ℕ, List, Some}
use Rattle.abel_cli.specs.Prelude.{Map, bytes_at, table_at, IsCompile}
use Rattle.pld_base.specs.declared.model.Model.{Model}
use Rattle.module_reader.specs.Texts.{SpellsModule}
use Rattle.abel_compile.specs.Statement.{IsRightFile}

-- with `compile`, OUT holds a file that is right for the text under IN before the call, in the device that the text names, in the
-- mode that it asks for
abbrev pub IsRight : List (List ℕ) → Map → Map → Type 0
IsRight words old new = (input output : List ℕ) → IsCompile words input output
    → (device : Model) × (file : List ℕ) × (new output ≡ Some file)
    × IsRightFile SpellsModule table_at (bytes_at old input) device file
