-- What else the top call says of `compile`: all that holds of a compiled source, and of OUT under every status.
use Rattle.std.specs.Prelude.{◌≡◌, ℕ, ◌⊎◌, List, ◌++◌, Some}
use Rattle.abel_cli.specs.Prelude.{Map, bytes_at, SameFiles, IsCompile}
use Rattle.abel_compile.specs.declared.compiled.Compiled.{Compiled}
use Rattle.abel_compile.specs.Correct.{IsCompiled}

-- with `compile`, OUT holds the file of the source that the bytes under IN spelled before the call, compiled, and the
-- report took the summary of that file's fuses
abbrev pub HasCompiled : List (List ℕ) → Map → Map → (told : Type 0) → (reported reports : List ℕ) → Type 0
HasCompiled words old new told reported reports = (input output : List ℕ) → IsCompile words input output
    → (c : Compiled) × IsCompiled (bytes_at old input) c × (new output ≡ Some c.file.items)
    × (told → reports ≡ reported ++ c.summary.items)

-- OUT is as before, or a write failed in this call, or OUT holds such a file
abbrev pub IsRightOrOld : List (List ℕ) → Map → Map → (write_rose : Type 0) → Type 0
IsRightOrOld words old new write_rose = SameFiles old new ⊎ (write_rose ⊎ ((input output : List ℕ) × IsCompile words input output
    × (c : Compiled) × IsCompiled (bytes_at old input) c × (new output ≡ Some c.file.items)))
