-- What simulating a fuse file shows: if its vectors' run disagrees with them, or why there is no run (this
-- project's rule).
use Rattle.std.specs.Prelude.{◌≡◌, ◌≢◌, ℕ, ◌⊎◌, IsSome, List, [], ◌∷◌, ◌++◌, length, flat_map, codes, Ok}
use Rattle.abel_commands.specs.Prelude.{decimal, device_text, FuseFile, file_of, device_logic, Table, HasLoop, SimFault, cell_reads, IsResetPath, Mismatch, CanBeSimulated, IsSimFault, IsTheOnlyList, first_unsupported}
use Rattle.device_logic.specs.declared.fault.SimFault.TheVariants as refusal
use Rattle.device_sim.specs.VectorRun.{IsVectorRun}
use Rattle.abel_commands.specs.FuseFiles.{IsFileOf}

-- ---- texts

-- the line on a mismatch: the vector, counted from 1, the pin, the character that tests it, and what is found there
abbrev pub mismatch_line : Mismatch → List ℕ
mismatch_line it =
    codes "vector " ++ decimal it.vector
    ++ codes " pin " ++ decimal it.pin
    ++ codes " expects " ++ it.expects ∷ codes " finds " ++ it.finds ∷ codes "\n"

-- the line on the whole run: how many vectors and mismatches it has
abbrev pub run_line : Table → (vectors mismatches : ℕ) → List ℕ
run_line t vectors mismatches =
    codes "simulated " ++ device_text t.name
    ++ codes " vectors " ++ decimal vectors
    ++ codes " mismatches " ++ decimal mismatches
    ++ codes "\n"

-- a line for each mismatch, in order, and then the one on the whole run
abbrev pub run_lines : Table → (vectors : ℕ) → List Mismatch → List ℕ
run_lines t vectors list = flat_map mismatch_line list ++ run_line t vectors (length list)

-- each pin after a blank
abbrev pub pins_text : List ℕ → List ℕ
pins_text pins = flat_map (λ pin. 32 ∷ decimal pin) pins

-- the name of a refusal, and what was found
abbrev pub sim_fault_text : SimFault → List ℕ
sim_fault_text (refusal.UnsupportedCondition vector pin) =
    codes "UnsupportedCondition vector " ++ decimal vector ++ codes " pin " ++ decimal pin
sim_fault_text (refusal.DeviceLoop pins) = codes "DeviceLoop" ++ pins_text pins.items
sim_fault_text (refusal.DeviceResetReadsRegister pins) = codes "DeviceResetReadsRegister" ++ pins_text pins.items
sim_fault_text refusal.OutOfMemory = codes "memory"

-- the line on a refusal
abbrev pub sim_fault_line : SimFault → List ℕ
sim_fault_line fault = codes "error " ++ sim_fault_text fault ++ codes "\n"

-- ---- runs

-- the bytes are a fuse file of the device that can be simulated
pub record CanRun (t : Table) (bytes : List ℕ) : Type 0 where
  pub file : FuseFile
  pub of : IsFileOf t bytes file
  pub can : CanBeSimulated t file

-- the run of the file's vectors on the device with its fuses has these mismatches
abbrev pub RunHas : Table → FuseFile → List Mismatch → Type 0
RunHas t file list = IsVectorRun (device_logic t file.fuses) file.default_level file.vectors list

-- such a file, whose run has no mismatch
abbrev pub HasNoMismatch : Table → (bytes : List ℕ) → Type 0
HasNoMismatch t bytes = (it : CanRun t bytes) × RunHas t it.file []

-- such a file, whose run has some mismatch
abbrev pub HasMismatch : Table → (bytes : List ℕ) → Type 0
HasMismatch t bytes = (it : CanRun t bytes) × (list : List Mismatch) × (list ≢ []) × RunHas t it.file list

-- such a file, the mismatches of its run, which has no others, and the lines on it
pub record IsReportedRun (t : Table) (bytes : List ℕ) (list : List Mismatch) (report : List ℕ) : Type 0 where
  pub of : CanRun t bytes
  pub run : RunHas t of.file list
  pub only : IsTheOnlyList t of.file list
  pub told : report ≡ run_lines t (length of.file.vectors) list

-- the run has no mismatch, so its report is the line on the whole
abbrev pub Agrees : Table → (bytes report : List ℕ) → Type 0
Agrees t bytes report = IsReportedRun t bytes [] report

-- the run has some mismatch; its report is a line for each and the line on the whole
abbrev pub Disagrees : Table → (bytes report : List ℕ) → Type 0
Disagrees t bytes report = (list : List Mismatch) × (list ≢ []) × IsReportedRun t bytes list report

-- ---- refusals

-- some vector has a character that isn't simulated, or some cells are a loop, or the reset reads a register
abbrev pub IsNotRun : Table → FuseFile → Type 0
IsNotRun t file = IsSome (first_unsupported 1 file.vectors)
    ⊎ (HasLoop (length t.cells) (cell_reads t file.fuses) ⊎ ((path : List ℕ) × IsResetPath t file.fuses path))

-- the bytes spell a fuse file of the device, in whatever mode, for which that holds
abbrev pub HasNoRun : Table → (bytes : List ℕ) → Type 0
HasNoRun t bytes = (file : FuseFile) × (file_of t bytes ≡ Ok file) × IsNotRun t file

-- the bytes are a fuse file of the device that isn't simulated, and this is the line on why; lack of memory is no
-- reason
pub record IsRefusedRun (t : Table) (bytes report : List ℕ) : Type 0 where
  pub file : FuseFile
  pub of : IsFileOf t bytes file
  pub fault : SimFault
  pub found : IsSimFault t file fault
  pub refuses : fault ≢ refusal.OutOfMemory
  pub told : report ≡ sim_fault_line fault
