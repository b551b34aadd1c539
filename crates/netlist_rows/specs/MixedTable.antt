-- A small device of no maker that mixes what devices have: a complement before the register, rows with switches beside rows
-- without, and fixed fuses of both levels (this project's example).
use Rattle.std.specs.Prelude.{ℕ, Bool, true, false, Some, List, [], ◌∷◌}
use Rattle.std.proofs.Common.{refl}
use Rattle.netlist_rows.specs.Prelude.{Table}
use Rattle.pld_base.specs.declared.device_name.DeviceName.TheVariants.{GAL22V10}
use Rattle.pld_device.specs.declared.carry.Carry.{Carry}
use Rattle.pld_device.specs.declared.carry.Carry.TheVariants as carry
use Rattle.pld_device.specs.declared.cell.Cell.{Cell}
use Rattle.pld_device.specs.declared.enable.Enable.TheVariants.{Row, PinLow}
use Rattle.pld_device.specs.declared.flip.Flip.TheVariants.{BeforeRegister}
use Rattle.pld_device.specs.declared.fuse_bit.FuseBit.{FuseBit}
use Rattle.pld_device.specs.declared.kinds.Kinds.TheVariants.{Combinational, Registered, Either}
use Rattle.pld_device.specs.Laws.{IsDevice}
use Rattle.pld_device.specs.LawTests.{device_by_computation}

-- a cell of either kind, a register that pin 5 enables, and a combinational cell
abbrev pub mixed_cells : List Cell
mixed_cells =
    record { pin = 11; enable = Row 1; first = 2; room = 2; kinds = Either }
    ∷ record { pin = 10; enable = PinLow 5; first = 4; room = 3; kinds = Registered }
    ∷ record { pin = 9; enable = Row 7; first = 8; room = 2; kinds = Combinational }
    ∷ []

-- pins and cells in turn, the clock last
abbrev pub mixed_pairs : List Carry
mixed_pairs =
    carry.Pin 2 ∷ carry.Cell 1 ∷ carry.Pin 3 ∷ carry.Cell 0 ∷ carry.Pin 4 ∷ carry.Cell 2 ∷ carry.Pin 1 ∷ []

-- the fuse and its level
abbrev pub bit : ℕ → Bool → FuseBit
bit fuse level = record { fuse = fuse; level = level }

-- row 0 resets and row 10 presets. Fuses 154 to 164 are control fuses; rows 0 to 4 have switches, and the last two are
-- fixed
abbrev pub mixed : Table
mixed = record {
  name = GAL22V10;
  pins = 12;
  ground_pin = 6;
  fuses = 168;
  short = 163;
  columns = 14;
  rows = 11;
  clock = 1;
  reset = Some 0;
  preset = Some 10;
  flip = BeforeRegister;
  power_down = 0;
  cells = mixed_cells;
  pairs = mixed_pairs;
  inverted = Some (bit 156 true) ∷ Some (bit 154 false) ∷ Some (bit 155 true) ∷ [];
  registered = Some (bit 157 false) ∷ [];
  row_switches = 158 ∷ 159 ∷ 160 ∷ 161 ∷ 162 ∷ [];
  fixed = bit 163 true ∷ bit 164 false ∷ [];
}

-- its laws, by computation
pub mixed_sound : IsDevice mixed
mixed_sound = device_by_computation mixed refl
