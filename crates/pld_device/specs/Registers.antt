-- Which cells store, by their kind or their control fuse (the devices' datasheets, macrocell diagrams).
use Rattle.std.specs.Prelude.{ℕ, Bool, true, false, Option, None, Some, List}
use Rattle.pld_base.specs.Bits.{is_on, same_level}
use Rattle.pld_device.specs.declared.fuse_bit.FuseBit.{FuseBit}
use Rattle.pld_device.specs.declared.kinds.Kinds.{Kinds}
use Rattle.pld_device.specs.declared.kinds.Kinds.TheVariants.{Combinational, Registered, Either}
use Rattle.pld_device.specs.Table.{Table, cell_at, inverted_at, registered_at}

-- a control fuse that is there has the level that it means
abbrev pub says : List Bool → Option FuseBit → Bool
says fuses None = false
says fuses (Some bit) = same_level bit.level (is_on fuses bit.fuse)

-- a cell of these kinds stores; `chosen` is what its control fuse says
abbrev pub stores_by : Kinds → Bool → Bool
stores_by Combinational chosen = false
stores_by Registered chosen = true
stores_by Either chosen = chosen

-- the cell is a register
abbrev pub stores : Table → List Bool → ℕ → Bool
stores t fuses c = stores_by (cell_at t c).kinds (says fuses (registered_at t c))

-- the cell's control fuse says inverted
abbrev pub is_inverted : Table → List Bool → ℕ → Bool
is_inverted t fuses c = says fuses (inverted_at t c)
