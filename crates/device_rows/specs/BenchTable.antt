-- A small device of no maker, on which vectors are run (this project's example).
use Rattle.std.specs.Prelude.{ℕ, ◌+◌, false, None, Some, [], ◌∷◌}
use Rattle.std.proofs.Common.{refl}
use Rattle.pld_base.specs.declared.device_name.DeviceName.TheVariants.{GAL22V10}
use Rattle.pld_device.specs.declared.carry.Carry.TheVariants as carry
use Rattle.pld_device.specs.declared.cell.Cell.{Cell}
use Rattle.pld_device.specs.declared.enable.Enable.TheVariants.{Row}
use Rattle.pld_device.specs.declared.flip.Flip.TheVariants.{AfterRegister}
use Rattle.pld_device.specs.declared.kinds.Kinds.{Kinds}
use Rattle.pld_device.specs.declared.kinds.Kinds.TheVariants.{Combinational, Registered}
use Rattle.pld_device.specs.Table.{Table}
use Rattle.pld_device.specs.Laws.{IsDevice}
use Rattle.pld_device.specs.LawTests.{device_by_computation}
use Rattle.pld_device.specs.SampleTable.{bit}

-- a cell on this pin, with an enable row and then one data row
abbrev pub bench_cell : (pin row : ℕ) → Kinds → Cell
bench_cell pin row kinds = record { pin = pin; enable = Row row; first = row + 1; room = 1; kinds = kinds }

-- a register on pin 5 and two gates on pins 6 and 7, over pins 2, 3 and 6; fuses 36 to 38 are the cells' polarities
abbrev pub bench : Table
bench = record {
  name = GAL22V10;
  pins = 10;
  ground_pin = 9;
  fuses = 39;
  short = 39;
  columns = 6;
  rows = 6;
  clock = 1;
  reset = None;
  preset = None;
  flip = AfterRegister;
  power_down = 0;
  cells = bench_cell 5 0 Registered ∷ bench_cell 6 2 Combinational ∷ bench_cell 7 4 Combinational ∷ [];
  pairs = carry.Pin 2 ∷ carry.Pin 3 ∷ carry.Cell 1 ∷ [];
  inverted = Some (bit 36 false) ∷ Some (bit 37 false) ∷ Some (bit 38 false) ∷ [];
  registered = [];
  row_switches = [];
  fixed = [];
}

-- its laws, by computation
pub bench_sound : IsDevice bench
bench_sound = device_by_computation bench refl
