-- A small combinational device of no maker, on which loading is tried (this project's example).
use Rattle.std.specs.Prelude.{ℕ, ◌+◌, None, [], ◌∷◌}
use Rattle.std.proofs.Common.{refl}
use Rattle.device_logic.specs.Prelude.{Row, Table, IsDevice}
use Rattle.pld_base.specs.declared.device_name.DeviceName.TheVariants.{P16L8}
use Rattle.pld_device.specs.declared.carry.Carry.TheVariants as carry
use Rattle.pld_device.specs.declared.cell.Cell.{Cell}
use Rattle.pld_device.specs.declared.flip.Flip.TheVariants.{Always}
use Rattle.pld_device.specs.declared.kinds.Kinds.TheVariants.{Combinational}
use Rattle.pld_device.specs.LawTests.{device_by_computation}

-- a cell on this pin, with an enable row and then two data rows
abbrev pub trio_cell : (pin row : ℕ) → Cell
trio_cell pin row = record { pin = pin; enable = Row row; first = row + 1; room = 2; kinds = Combinational }

-- three cells on pins 9, 8 and 7, and two input pins
abbrev pub trio : Table
trio = record {
  name = P16L8;
  pins = 10;
  ground_pin = 5;
  fuses = 90;
  short = 90;
  columns = 10;
  rows = 9;
  clock = 0;
  reset = None;
  preset = None;
  flip = Always;
  power_down = 0;
  cells = trio_cell 9 0 ∷ trio_cell 8 3 ∷ trio_cell 7 6 ∷ [];
  pairs = carry.Pin 1 ∷ carry.Pin 2 ∷ carry.Cell 0 ∷ carry.Cell 1 ∷ carry.Cell 2 ∷ [];
  inverted = [];
  registered = [];
  row_switches = [];
  fixed = [];
}

-- its laws, by computation
pub trio_sound : IsDevice trio
trio_sound = device_by_computation trio refl
