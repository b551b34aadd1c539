-- What `check` answers of OUT after `compile`: the figures of the report (this project's rule).
use Rattle.std.specs.Prelude.{◌≡◌, ℕ, Bool, List, ◌++◌}
use Rattle.abel_cli.specs.Prelude.{Map, bytes_at, table_at, Ending, Check, IsCompile}
use Rattle.pld_base.specs.declared.device_name.DeviceName.{DeviceName}
use Rattle.pld_base.specs.declared.model.Model.{Model}
use Rattle.jedec_reader.specs.DeviceFiles.{IsFileOf}
use Rattle.reports.specs.Summary.{summary_of}
use Rattle.abel_compile.specs.Statement.{fuses_and_vectors}
use Rattle.abel_commands.specs.Checking.{checked_line}
use Rattle.abel_commands.specs.Ending.{ends}
use Rattle.abel_commands.specs.Words.{on_file}
use Rattle.abel_cli.specs.Run.{EndsOn}

-- over these files `check` of the name has one ending: status 0 and this line
abbrev pub IsCheckedAs : Map → DeviceName → (name line : List ℕ) → Type 0
IsCheckedAs files device name line = (e : Ending) → EndsOn (Unit {0}) files (on_file (Check device) name) e → e ≡ ends 0 line

-- the bytes under the name are a fuse file of some fuses and vectors; `check` gives the numbers of these; and the report
-- took the summary of the same fuses, so that both say the same device, as many opened fuses and the same sum
pub record IsCheckedOut (files : Map) (name : List ℕ) (told : Type 0) (reported reports : List ℕ) : Type 0 where
  pub device : Model
  pub fuses : List Bool
  pub vectors : List (List ℕ)
  pub is_file : IsFileOf (table_at device) (bytes_at files name) (fuses_and_vectors (table_at device) fuses vectors)
  pub checked : IsCheckedAs files device.name name (checked_line (table_at device) (fuses_and_vectors (table_at device) fuses vectors))
  pub cells : ℕ
  pub summary : told → reports ≡ reported ++ summary_of (table_at device) cells fuses

-- so it is of OUT with `compile`
abbrev pub HasChecked : List (List ℕ) → Map → (told : Type 0) → (reported reports : List ℕ) → Type 0
HasChecked words new told reported reports = (input output : List ℕ) → IsCompile words input output → IsCheckedOut new output told reported reports
