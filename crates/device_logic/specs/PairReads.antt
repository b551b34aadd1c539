-- How a row reads a cell, pair by pair. A private helper: no public clause cites it.
use Rattle.std.specs.Prelude.{ℕ, Bool, ◌&&◌, List, get_or}
use Rattle.pld_device.specs.declared.carry.Carry.TheVariants as carry
use Rattle.device_logic.specs.Prelude.{row_reads, Table, carries_cell}

-- the row reads the pair, which carries what the cell feeds back
abbrev pub pair_reads : Table → List Bool → (row d pair : ℕ) → Bool
pair_reads t fuses row d pair =
    row_reads t fuses row pair && carries_cell d (get_or t.pairs pair (carry.Pin 0))
