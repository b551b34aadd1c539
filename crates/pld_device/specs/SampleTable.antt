-- A small device of no maker, with all that a table may say (this project's example).
use Rattle.std.specs.Prelude.{ℕ, false, true, Some, List, [], ◌∷◌}
use Rattle.std.proofs.Common.{Bool, refl}
use Rattle.pld_base.specs.declared.device_name.DeviceName.TheVariants.{GAL22V10}
use Rattle.pld_device.specs.declared.carry.Carry.TheVariants as carry
use Rattle.pld_device.specs.declared.cell.Cell.{Cell}
use Rattle.pld_device.specs.declared.enable.Enable.TheVariants.{Row, PinLow}
use Rattle.pld_device.specs.declared.flip.Flip.TheVariants.{AfterRegister}
use Rattle.pld_device.specs.declared.fuse_bit.FuseBit.{FuseBit}
use Rattle.pld_device.specs.declared.kinds.Kinds.TheVariants.{Registered, Either}
use Rattle.pld_device.specs.Table.{Table}
use Rattle.pld_device.specs.Laws.{IsDevice}
use Rattle.pld_device.specs.LawTests.{device_by_computation}

-- a cell of either kind with two data rows, and a register that pin 4 enables
abbrev pub sample_cells : List Cell
sample_cells =
    record { pin = 9; enable = Row 1; first = 2; room = 2; kinds = Either }
    ∷ record { pin = 8; enable = PinLow 4; first = 4; room = 1; kinds = Registered }
    ∷ []

-- the fuse and its level
abbrev pub bit : ℕ → Bool → FuseBit
bit fuse level = record { fuse = fuse; level = level }

-- row 0 resets and row 5 presets; fuses 48 to 57 are control fuses, of which a short file leaves out the last
abbrev pub sample : Table
sample = record {
  name = GAL22V10;
  pins = 10;
  ground_pin = 5;
  fuses = 60;
  short = 57;
  columns = 8;
  rows = 6;
  clock = 1;
  reset = Some 0;
  preset = Some 5;
  flip = AfterRegister;
  power_down = 0;
  cells = sample_cells;
  pairs = carry.Pin 1 ∷ carry.Cell 0 ∷ carry.Pin 2 ∷ carry.Cell 1 ∷ [];
  inverted = Some (bit 48 false) ∷ Some (bit 49 false) ∷ [];
  registered = Some (bit 50 true) ∷ [];
  row_switches = 51 ∷ 52 ∷ 53 ∷ 54 ∷ 55 ∷ 56 ∷ [];
  fixed = bit 57 true ∷ [];
}

-- its laws, by computation
pub sample_sound : IsDevice sample
sample_sound = device_by_computation sample refl

-- the same with pin 2 on two pairs
abbrev pub twice_carried : Table
twice_carried = record sample { pairs = carry.Pin 2 ∷ carry.Cell 0 ∷ carry.Pin 2 ∷ carry.Cell 1 ∷ [] }
