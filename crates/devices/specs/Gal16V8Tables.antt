-- The tables of the GAL16V8 in complex mode, and in registered mode with the registers of the PAL16R devices (GAL16V8 datasheet,
-- logic diagrams and pinout; which of its control fuses means what is this project's table).
use Rattle.std.specs.Prelude.{ℕ, suc, ◌+◌, Bool, true, false, not, Option, None, Some, List, [], ◌∷◌, ◌++◌, map}
use Rattle.devices.specs.Prelude.{range_with_len, DeviceName, GAL16V8C, GAL16V8R4, GAL16V8R6, GAL16V8R8, Carry, Cell, BeforeRegister, FuseBit, Table}
use Rattle.pld_device.specs.Registers.{stores_by}
use Rattle.devices.specs.Pal16L8Table.{pal16l8_cells, pal16l8_pairs}
use Rattle.devices.specs.Pal16RTables.{pal16r4_cells, pal16r6_cells, pal16r8_cells, registered_pairs}

-- the fuse, and the level that has the meaning
abbrev pub bit : ℕ → Bool → FuseBit
bit fuse level = record { fuse = fuse; level = level }

-- where AC1 of the first cell, PTD of the first row, SYN and AC0 stand, by the first control fuse
abbrev pub first_ac1 : (control : ℕ) → ℕ
first_ac1 control = control + 72

abbrev pub first_ptd : (control : ℕ) → ℕ
first_ptd control = control + 80

abbrev pub syn_fuse : (control : ℕ) → ℕ
syn_fuse control = control + 144

abbrev pub ac0_fuse : (control : ℕ) → ℕ
ac0_fuse control = control + 145

-- XOR of each cell, from the top pin on: inverted while it is 0. The first is the first control fuse
abbrev pub xors : (control : ℕ) → List (Option FuseBit)
xors control = map (λ fuse. Some (bit fuse false)) (range_with_len control 8)

-- AC1 of each cell, from this fuse on, is the complement of the cell's truth value
abbrev pub ac1 : (fuse : ℕ) → List Bool → List FuseBit
ac1 fuse [] = []
ac1 fuse (on ∷ set) = bit fuse (not on) ∷ ac1 (suc fuse) set

-- AC1 of each cell, from the top pin on, then SYN and AC0, which distinguish the modes
abbrev pub mode_fuses : (control : ℕ) → (syn ac0 : Bool) → List Bool → List FuseBit
mode_fuses control syn ac0 set = ac1 (first_ac1 control) set ++ bit (syn_fuse control) syn ∷ bit (ac0_fuse control) ac0 ∷ []

-- PTD of each row: the row is there while it is 1
abbrev pub switches : (control : ℕ) → List ℕ
switches control = range_with_len (first_ptd control) 64

-- which cells are registers
abbrev pub registers : List Cell → List Bool
registers cells = map (λ (cell : Cell). stores_by cell.kinds false) cells

-- the whole table of a mode: its name, its clock (0 if there isn't one), SYN, its cells and what its columns carry. Fuses
-- 2056 to 2119 are the signature
abbrev pub gal16v8 : DeviceName → (clock : ℕ) → (syn : Bool) → List Cell → List Carry → Table
gal16v8 name clock syn cells pairs = record {
  name = name;
  pins = 20;
  ground_pin = 10;
  fuses = 2194;
  short = 2194;
  columns = 32;
  rows = 64;
  clock = clock;
  reset = None;
  preset = None;
  flip = BeforeRegister;
  power_down = 0;
  cells = cells;
  pairs = pairs;
  inverted = xors 2048;
  registered = [];
  row_switches = switches 2048;
  fixed = mode_fuses 2048 syn true (registers cells);
}

-- complex mode: the cells and columns of a PAL16L8
abbrev pub gal16v8c : Table
gal16v8c = gal16v8 GAL16V8C 0 true pal16l8_cells pal16l8_pairs

-- registered mode: the cells and columns of a PAL16R4, of a PAL16R6 and of a PAL16R8; pin 1 is the clock
abbrev pub gal16v8r4 : Table
gal16v8r4 = gal16v8 GAL16V8R4 1 false pal16r4_cells registered_pairs

abbrev pub gal16v8r6 : Table
gal16v8r6 = gal16v8 GAL16V8R6 1 false pal16r6_cells registered_pairs

abbrev pub gal16v8r8 : Table
gal16v8r8 = gal16v8 GAL16V8R8 1 false pal16r8_cells registered_pairs
