-- Fuses of one device carried over to another with the same array (the devices' datasheets, logic diagrams; that a row
-- that is switched off becomes one of zeros is this project's rule).
use Rattle.std.specs.Prelude.{◌≡◌, ℕ, ◌<◌, Bool, true, false, not, ◌&&◌, ◌||◌, if◌then◌else◌, List, [], length, replicate}
use Rattle.fuse_porting.specs.Prelude.{same_level, HasFixedLevels, never_drives, data_complements, pin_complements, is_inverted, stores, is_switched_on, row_fuses, Table, Flip}

-- the same pins, rows and columns, the same cells and pairs, the same clock, reset and preset; no cell's kind is chosen by a
-- fuse
pub record HasSameArray (f t : Table) : Type 0 where
  pub pins : f.pins ≡ t.pins
  pub ground : f.ground_pin ≡ t.ground_pin
  pub columns : f.columns ≡ t.columns
  pub rows : f.rows ≡ t.rows
  pub cells : f.cells ≡ t.cells
  pub pairs : f.pairs ≡ t.pairs
  pub clock : f.clock ≡ t.clock
  pub reset : f.reset ≡ t.reset
  pub preset : f.preset ≡ t.preset
  pub kinds : f.registered ≡ []
  pub other_kinds : t.registered ≡ []

-- the fuses of a row: as they are, or zeros if it is switched off
abbrev pub carried_row : Table → List Bool → ℕ → List Bool
carried_row f a row = if is_switched_on f a row then row_fuses f a row else replicate f.columns false

-- with the one polarity in the one device and the other in the other, the pin has the complement in both or in neither, and so
-- has a register's data
abbrev pub complements_alike : (f t : Flip) → (is_register inverted other : Bool) → Bool
complements_alike f t is_register inverted other =
    same_level (pin_complements f is_register inverted) (pin_complements t is_register other)
    && (not is_register || same_level (data_complements f inverted) (data_complements t other))

-- with this polarity the other device's cell does what the cell does; any polarity will do if the cell stores nothing and never
-- drives
abbrev pub polarity_fits : (f t : Table) → List Bool → (c : ℕ) → (other : Bool) → Bool
polarity_fits f t a c other =
    (not (stores f a c) && never_drives f a c)
    || complements_alike f.flip t.flip (stores f a c) (is_inverted f a c) other

-- every row is carried over and switched on, every cell has a polarity that fits, and fixed fuses have their levels
pub record IsCarriedOver (f t : Table) (a b : List Bool) : Type 0 where
  pub size : length b ≡ t.fuses
  pub on : (row : ℕ) → row < t.rows → is_switched_on t b row ≡ true
  pub rows : (row : ℕ) → row < t.rows → row_fuses t b row ≡ carried_row f a row
  pub polarity : (c : ℕ) → c < length f.cells → polarity_fits f t a c (is_inverted t b c) ≡ true
  pub fixed : HasFixedLevels t b
