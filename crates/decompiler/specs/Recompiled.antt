-- What a file is to fuses whose decompiled text is compiled to it (this project's rule).
use Rattle.std.specs.Prelude.{◌≡◌, ℕ, Bool, List}
use Rattle.decompiler.specs.Prelude.{Model, device_logic, SpellsModule, table_at, decompiled_text}
use Rattle.fuse_compare.specs.Alike.{RunsAlike}
use Rattle.abel_compile.specs.Statement.{IsRightFile}
use Rattle.decompiler.specs.Compiling.{AreLoadable, AsksForItself}

-- the file is for this device in this mode; and each run of the device with the fuses of the file is one with the fuses that
-- were decompiled, and the other way round, with the same cells enabled at each point
pub record RunAsBefore (device named : Model) (fuses again : List Bool) : Type 0 where
  pub same_device : named ≡ device
  pub to : RunsAlike (device_logic (table_at device) again) (device_logic (table_at device) fuses)
  pub from : RunsAlike (device_logic (table_at device) fuses) (device_logic (table_at device) again)

-- so it is of every file that is right for a decompiled text that asks for the device's own mode, as each one is that `compile`
-- answers
abbrev pub RecompiledFusesRunAlike : Type 0
RecompiledFusesRunAlike =
    (device named : Model) (fuses : List Bool) (file : List ℕ) → AreLoadable (table_at device) fuses → AsksForItself device fuses
    → (right : IsRightFile SpellsModule table_at (decompiled_text (table_at device) fuses) named file)
    → RunAsBefore device named fuses right.fuses
