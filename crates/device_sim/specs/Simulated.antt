-- What simulating a fuse file gives, and why one isn't simulated (this project's rule).
use Rattle.std.specs.Prelude.{◌≡◌, ℕ, suc, Bool, List, [], ◌∷◌, length, Option, None, Some, position, option_map, codes, ⊤}
use Rattle.device_sim.specs.Prelude.{is_among, device_logic}
use Rattle.std.specs.Option.{option_or}
use Rattle.jedec_file.specs.FuseFile.{FuseFile}
use Rattle.pld_device.specs.Table.{Table}
use Rattle.pld_order.specs.Graphs.{HasNoLoop}
use Rattle.device_logic.specs.CellReads.{cell_reads}
use Rattle.device_logic.specs.LoadFaults.{IsPinLoop, IsPinPath}
use Rattle.device_logic.specs.ResetPaths.{HasNoResetPath}
use Rattle.device_logic.specs.declared.fault.SimFault.{SimFault}
use Rattle.device_logic.specs.declared.fault.SimFault.TheVariants.{UnsupportedCondition, DeviceLoop, DeviceResetReadsRegister, OutOfMemory}
use Rattle.device_sim.specs.declared.report.Mismatch.{Mismatch}
use Rattle.device_sim.specs.declared.report.Report.{Report}
use Rattle.device_sim.specs.VectorRun.{IsVectorRun}

-- super voltages, buried preload, preload and fast edges
abbrev pub is_unsupported : ℕ → Bool
is_unsupported = is_among (codes "23456789BPUD")

-- the first such character: its vector and its pin, both from 1
abbrev pub first_unsupported : (vector : ℕ) → List (List ℕ) → Option (ℕ × ℕ)
first_unsupported vector [] = None
first_unsupported vector (chars ∷ vectors) =
    option_or
    (option_map (λ place. (vector, suc place)) (position is_unsupported chars))
    (first_unsupported (suc vector) vectors)

-- no vector has such a character, no cell reads itself through others, and the reset depends on no register
pub record CanBeSimulated (t : Table) (file : FuseFile) : Type 0 where
  pub supported : first_unsupported 1 file.vectors ≡ None
  pub no_loop : HasNoLoop (length t.cells) (cell_reads t file.fuses)
  pub no_path : HasNoResetPath t file.fuses

-- the report of the vectors' run on the device with the file's fuses
pub record IsSimulated (t : Table) (file : FuseFile) (report : Report) : Type 0 where
  pub can : CanBeSimulated t file
  pub vectors : report.vectors ≡ length file.vectors
  pub run : IsVectorRun (device_logic t file.fuses) file.default_level file.vectors report.list

-- every list of mismatches of that run is this one
abbrev pub IsTheOnlyList : Table → FuseFile → List Mismatch → Type 0
IsTheOnlyList t file list =
    (other : List Mismatch)
    → IsVectorRun (device_logic t file.fuses) file.default_level file.vectors other → other ≡ list

-- the fault is the first character that isn't simulated; or there isn't one, and some cells are a loop; or there
-- is no loop either, and the reset depends on a register; or memory ran out
abbrev pub IsSimFault : Table → FuseFile → SimFault → Type 0
IsSimFault t file (UnsupportedCondition vector pin) = first_unsupported 1 file.vectors ≡ Some (vector, pin)
IsSimFault t file (DeviceLoop pins) = (first_unsupported 1 file.vectors ≡ None) × IsPinLoop t file.fuses pins.items
IsSimFault t file (DeviceResetReadsRegister pins) =
    (first_unsupported 1 file.vectors ≡ None) × HasNoLoop (length t.cells) (cell_reads t file.fuses)
    × IsPinPath t file.fuses pins.items
IsSimFault t file OutOfMemory = ⊤
