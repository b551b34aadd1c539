-- Why fuses of two devices aren't compared, and which states are reported (this project's rule: as for two fuse lists of one
-- device).
use Rattle.std.specs.Prelude.{◌≡◌, ◌⊎◌, ℕ, ◌<◌, Bool, true, List, length}
use Rattle.fuse_porting.specs.Prelude.{bits, is_on, stores, Table}
use Rattle.device_logic.specs.LoadFaults.{IsLoadFault}
use Rattle.device_logic.specs.declared.fault.SimFault.{SimFault}
use Rattle.fuse_compare.specs.Compared.{CanBeLoaded}
use Rattle.fuse_compare.specs.declared.difference.Difference.{Difference}
use Rattle.pld_device.specs.Laws.{IsSignalPin}

-- each of the two fuse lists can be loaded into its device
pub record CanBeComparedAcross (f t : Table) (a b : List Bool) : Type 0 where
  pub first : CanBeLoaded f a
  pub second : CanBeLoaded t b

-- the first can't be loaded, and this is why; or it can, and this is why the second can't
abbrev pub IsAcrossFault : (f t : Table) → (a b : List Bool) → SimFault → Type 0
IsAcrossFault f t a b fault = IsLoadFault f a fault ⊎ (CanBeLoaded f a × IsLoadFault t b fault)

-- the levels are 0 at ground, at the supply and if no pin is, and the Qs at each cell that stores in neither
pub record IsPlainAcross (f t : Table) (a b : List Bool) (d : Difference) : Type 0 where
  pub outside : (k : ℕ) → is_on (bits 32 d.outside) k ≡ true → IsSignalPin f k
  pub stored : (c : ℕ) → is_on (bits 32 d.stored) c ≡ true
      → (c < length f.cells) × ((stores f a c ≡ true) ⊎ (stores t b c ≡ true))
