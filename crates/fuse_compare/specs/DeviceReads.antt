-- Private: which pins and Qs a device with its fuses reads (this project's rule).
use Rattle.std.specs.Prelude.{◌≡◌, ℕ, ◌<◌, Bool, true, false, List, length, Some, slice_get}
use Rattle.fuse_compare.specs.Prelude.{Carry, row_reads, stores, Table, cell_at}
use Rattle.pld_device.specs.declared.carry.Carry.TheVariants as carry
use Rattle.pld_device.specs.declared.enable.Enable.TheVariants.{PinLow}
use Rattle.fuse_compare.specs.Told.{Known}

-- what a pair carries is known
abbrev pub Knows : Table → List Bool → Known → Carry → Type 0
Knows t fuses known (carry.Pin pin) = known.pins pin ≡ true
Knows t fuses known (carry.Cell c) =
    (stores t fuses c ≡ true → known.q c ≡ true) × (stores t fuses c ≡ false → known.pins (cell_at t c).pin ≡ true)

-- all that rows read and all pins that enable are known; of a register only the Q may be
pub record KnowsReads (t : Table) (fuses : List Bool) (known : Known) : Type 0 where
  pub rows : (row pair : ℕ) (x : Carry) → row < t.rows → row_reads t fuses row pair ≡ true
      → slice_get t.pairs pair ≡ Some x → Knows t fuses known x
  pub enables : (c pin : ℕ) → c < length t.cells → (cell_at t c).enable ≡ PinLow pin → known.pins pin ≡ true
  pub no_register : (c : ℕ) → c < length t.cells → stores t fuses c ≡ true → known.pins (cell_at t c).pin ≡ false
  pub registers : (c : ℕ) → known.q c ≡ true → (c < length t.cells) × (stores t fuses c ≡ true)
