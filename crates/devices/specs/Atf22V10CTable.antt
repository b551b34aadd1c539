-- The table of the ATF22V10C (ATF22V10C datasheet, logic diagram and pinout; that fuse 5892 is 0 in every design is this
-- project's rule).
use Rattle.std.specs.Prelude.{ℕ, false, [], ◌∷◌}
use Rattle.devices.specs.Prelude.{ATF22V10C, Table}
use Rattle.devices.specs.Gal16V8Tables.{bit}
use Rattle.devices.specs.Gal22V10Table.{gal22v10}

-- the GAL22V10 with one fuse more: at 1 it makes of pin 4 an input that powers the chip down. A file may leave it out
abbrev pub atf22v10c : Table
atf22v10c = record gal22v10 {
  name = ATF22V10C;
  fuses = 5893;
  short = 5892;
  power_down = 4;
  fixed = bit 5892 false ∷ [];
}
