-- The GAL16V8 and the GAL20V8 by the names that code has for them.
use Rattle.std.specs.Prelude.{ℕ, ◌+◌, None}
use Rattle.pld_device.specs.declared.chip.Chip.{Chip}
use Rattle.devices.specs.Prelude.{BeforeRegister, IsDevice}
use Rattle.devices.specs.V8Laws.{gal16v8_sound, gal20v8_sound}
use Rattle.devices.specs.V8Tables.{Mode, V8, control_of, v8_16, v8_20, v8_in}
use Rattle.devices.specs.declared.v8.V8Chip.{V8Chip}
use Rattle.devices.specs.declared.v8.V8Chip.TheVariants.{Gal16V8, Gal20V8}

-- the facts of a chip
abbrev pub v8_of : V8Chip → V8
v8_of Gal16V8 = v8_16
v8_of Gal20V8 = v8_20

-- its numbers, with this clock
abbrev pub numbers_of : V8 → (clock : ℕ) → Chip
numbers_of v clock = record {
  name = v.name;
  pins = v.pins;
  ground_pin = v.ground_pin;
  fuses = control_of v + 146;
  short = control_of v + 146;
  columns = v.columns;
  rows = 64;
  cells = 8;
  clock = clock;
  reset = None;
  preset = None;
  flip = BeforeRegister;
  power_down = 0;
}

-- its tables keep the laws
pub chip_sound : (chip : V8Chip) (mode : Mode) → IsDevice (v8_in (v8_of chip) mode)
chip_sound Gal16V8 mode = gal16v8_sound mode
chip_sound Gal20V8 mode = gal20v8_sound mode
