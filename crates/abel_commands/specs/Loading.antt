-- When a fuse file of a device is loaded, and what is reported of one that is not, for each command that looks into the
-- device (this project's rule).
use Rattle.std.specs.Prelude.{◌≡◌, ◌≢◌, ℕ, ◌⊎◌, Bool, List, length, Ok}
use Rattle.abel_commands.specs.Prelude.{FuseFile, file_of, Table, HasLoop, HasNoLoop, SimFault, cell_reads, HasNoResetPath, IsResetPath}
use Rattle.device_logic.specs.declared.fault.SimFault.TheVariants as refusal
use Rattle.device_logic.specs.LoadFaults.{IsLoadFault}
use Rattle.abel_commands.specs.FuseFiles.{IsBadFile, IsFileOf}
use Rattle.abel_commands.specs.Simulating.{sim_fault_line}

-- the bytes are a fuse file of the device, in which no cell reads itself through others and the reset depends on no register
pub record CanLoad (t : Table) (bytes : List ℕ) : Type 0 where
  pub file : FuseFile
  pub of : IsFileOf t bytes file
  pub no_loop : HasNoLoop (length t.cells) (cell_reads t file.fuses)
  pub no_path : HasNoResetPath t file.fuses

-- some cells are a loop, or the reset reads a register
abbrev pub HasLoopOrPath : Table → (fuses : List Bool) → Type 0
HasLoopOrPath t fuses = HasLoop (length t.cells) (cell_reads t fuses) ⊎ ((path : List ℕ) × IsResetPath t fuses path)

-- the bytes spell a fuse file of the device, in whatever mode, for which that holds
abbrev pub IsNotLoaded : Table → (bytes : List ℕ) → Type 0
IsNotLoaded t bytes = (file : FuseFile) × (file_of t bytes ≡ Ok file) × HasLoopOrPath t file.fuses

-- the bytes are no fuse file of the device, or one that isn't loaded
abbrev pub IsBadToLoad : Table → (bytes : List ℕ) → Type 0
IsBadToLoad t bytes = IsBadFile t bytes ⊎ IsNotLoaded t bytes

-- the bytes are a fuse file of the device that isn't loaded, and this is the line on why; lack of memory is no reason
pub record IsRefusedLoad (t : Table) (bytes report : List ℕ) : Type 0 where
  pub file : FuseFile
  pub of : IsFileOf t bytes file
  pub fault : SimFault
  pub found : IsLoadFault t file.fuses fault
  pub refuses : fault ≢ refusal.OutOfMemory
  pub told : report ≡ sim_fault_line fault
