-- Private: what a loaded device keeps (this project's rule).
use Rattle.std.specs.Prelude.{ℕ, Bool, List}
use Rattle.device_logic.specs.Prelude.{Table}
use Rattle.device_logic.specs.RowMasks.{AreMasks}
use Rattle.device_logic.specs.declared.row_mask.RowMask.{RowMask}
use Rattle.device_logic.specs.CellReads.{IsCellOrder}

-- the masks are those of the device's rows, and each of its cells waits for earlier ones alone
pub record IsMaskedInOrder (t : Table) (fuses : List Bool) (masks : List RowMask) (order : List ℕ) : Type 0 where
  pub masked : AreMasks t fuses masks
  pub ordered : IsCellOrder t fuses order
