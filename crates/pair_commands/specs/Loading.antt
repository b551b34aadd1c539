-- When a fuse file of a device is loaded, and when not (this project's rule).
use Rattle.std.specs.Prelude.{◌≡◌, ◌≢◌, ℕ, List}
use Rattle.pair_commands.specs.Prelude.{device_logic, FuseFile, IsFileOf, Logic, Table}
use Rattle.device_logic.specs.LoadFaults.{IsLoadFault}
use Rattle.device_logic.specs.declared.fault.SimFault.{SimFault}
use Rattle.device_logic.specs.declared.fault.SimFault.TheVariants as refusal
use Rattle.fuse_compare.specs.Compared.{CanBeLoaded}
use Rattle.fuse_reports.specs.SimFaultText.{sim_fault_line}

-- the bytes are a fuse file of the device, in which no cell reads itself through others and the reset depends on no register
pub record CanLoad (t : Table) (bytes : List ℕ) : Type 0 where
  pub file : FuseFile
  pub of : IsFileOf t bytes file
  pub can : CanBeLoaded t file.fuses

-- the device with the fuses of a file
abbrev pub logic_with : (t : Table) (bytes : List ℕ) → CanLoad t bytes → Logic
logic_with t bytes it = device_logic t it.file.fuses

-- the bytes are a fuse file of the device that isn't loaded, and this is the line on why; lack of memory is no reason
pub record IsRefusedLoad (t : Table) (bytes report : List ℕ) : Type 0 where
  pub file : FuseFile
  pub of : IsFileOf t bytes file
  pub fault : SimFault
  pub found : IsLoadFault t file.fuses fault
  pub refuses : fault ≢ refusal.OutOfMemory
  pub told : report ≡ sim_fault_line fault
