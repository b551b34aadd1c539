-- A fuse file of a device is loaded, or refused, and never both.
use Rattle.std.proofs.Common.{◌≡◌, ◌≢◌, ℕ, List, Ok, refl, subst, inl, inr}
use Rattle.abel_commands.proofs.Common.{FuseFile, file_of, Table, SimFault, UnsupportedCondition, DeviceLoop, DeviceResetReadsRegister, OutOfMemory, CanLoad, HasLoopOrPath, IsBadToLoad, IsNotLoaded, IsRefusedLoad}
use Rattle.device_logic.specs.LoadFaults.{IsLoadFault}
use Rattle.abel_commands.proofs.GoodFiles.{good_not_bad, same_file}

module _ (t : Table) (bytes : List ℕ) where
  -- what is loaded has neither a loop nor a path
  has_neither : (it : CanLoad t bytes) → HasLoopOrPath t it.file.fuses → ⊥
  has_neither it (inl (chain, loop)) = it.no_loop chain loop
  has_neither it (inr (path, leads)) = it.no_path path leads

  pub can_not_bad : CanLoad t bytes → IsBadToLoad t bytes → ⊥
  can_not_bad it (inl bad) = good_not_bad t bytes (it.file, it.of) bad
  can_not_bad it (inr (file, read, has)) =
      has_neither it (subst (λ (f : FuseFile). HasLoopOrPath t f.fuses) (same_file t bytes file it.file read it.of.read) has)

  not_loaded_by : (fault : SimFault) (file : FuseFile) → file_of t bytes ≡ Ok file → IsLoadFault t file.fuses fault → fault ≢ OutOfMemory → IsNotLoaded t bytes
  not_loaded_by (UnsupportedCondition vector pin) file read found refuses = absurd found
  not_loaded_by (DeviceLoop pins) file read loop refuses = (file, read, inl (loop.0, loop.1.is_loop))
  not_loaded_by (DeviceResetReadsRegister pins) file read (none, path) refuses = (file, read, inr (path.0, path.1))
  not_loaded_by OutOfMemory file read found refuses = absurd (refuses refl)

  pub refused_is_bad : (report : List ℕ) → IsRefusedLoad t bytes report → IsBadToLoad t bytes
  refused_is_bad report r = inr (not_loaded_by r.fault r.file r.of.read r.found r.refuses)
