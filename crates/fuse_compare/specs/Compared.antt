-- What comparing two fuse lists of one device gives, and why they aren't compared (this project's rule).
use Rattle.std.specs.Prelude.{◌≡◌, ◌⊎◌, ℕ, ◌<◌, Bool, true, List, length}
use Rattle.fuse_compare.specs.Prelude.{bits, is_on, stores, Table, IsLoadFault}
use Rattle.pld_device.specs.Laws.{IsSignalPin}
use Rattle.pld_order.specs.Graphs.{HasNoLoop}
use Rattle.device_logic.specs.CellReads.{cell_reads}
use Rattle.device_logic.specs.ResetPaths.{HasNoResetPath}
use Rattle.device_logic.specs.declared.fault.SimFault.{SimFault}
use Rattle.fuse_compare.specs.declared.difference.Difference.{Difference}

-- with these fuses no cell reads itself through others, and the reset depends on no register
pub record CanBeLoaded (t : Table) (fuses : List Bool) : Type 0 where
  pub no_loop : HasNoLoop (length t.cells) (cell_reads t fuses)
  pub no_path : HasNoResetPath t fuses

-- both fuse lists can be loaded
pub record CanBeCompared (t : Table) (a b : List Bool) : Type 0 where
  pub first : CanBeLoaded t a
  pub second : CanBeLoaded t b

-- the first can't be loaded, and this is why; or it can, and this is why the second can't
abbrev pub IsCompareFault : Table → (a b : List Bool) → SimFault → Type 0
IsCompareFault t a b fault = IsLoadFault t a fault ⊎ (CanBeLoaded t a × IsLoadFault t b fault)

-- the levels are 0 at ground, at the supply and if no pin is, and the Qs at each cell that stores in neither
pub record IsPlainState (t : Table) (a b : List Bool) (d : Difference) : Type 0 where
  pub outside : (k : ℕ) → is_on (bits 32 d.outside) k ≡ true → IsSignalPin t k
  pub stored : (c : ℕ) → is_on (bits 32 d.stored) c ≡ true
      → (c < length t.cells) × ((stores t a c ≡ true) ⊎ (stores t b c ≡ true))
