-- The pins of a device's pairs and cells (this project's rule).
use Rattle.std.specs.Prelude.{◌≡◌, ◌≢◌, ℕ, Bool, false, not, ◌&&◌, ◌==◌, ◌<◌, ◌≤◌, Option, Some, is_some, List, length, map, position, slice_get}
use Rattle.pld_device.specs.declared.carry.Carry.{Carry}
use Rattle.pld_device.specs.declared.carry.Carry.TheVariants as carry
use Rattle.pld_device.specs.declared.cell.Cell.{Cell}
use Rattle.pld_device.specs.Table.{Table, cell_at}

-- the pin that is carried, or the pin of the cell that is
abbrev pub pin_carried : Table → Carry → ℕ
pin_carried t (carry.Pin p) = p
pin_carried t (carry.Cell c) = (cell_at t c).pin

-- the pins of the pairs, from pair 0
abbrev pub pair_pins : Table → List ℕ
pair_pins t = map (pin_carried t) t.pairs

-- the pins of the cells, from cell 0
abbrev pub cell_pins : Table → List ℕ
cell_pins t = map (λ (cell : Cell). cell.pin) t.cells

-- the cell on a pin
abbrev pub cell_on : Table → (pin : ℕ) → Option ℕ
cell_on t pin = position (λ (c : Cell). c.pin == pin) t.cells

-- the pair carries the cell
abbrev pub carries_cell : ℕ → Carry → Bool
carries_cell c (carry.Pin p) = false
carries_cell c (carry.Cell d) = d == c

-- the pair carries the pin, or the cell on the pin
abbrev pub IsPairOf : Table → (pin pair : ℕ) → Type 0
IsPairOf t pin pair = slice_get (pair_pins t) pair ≡ Some pin

-- the cell is on the pin
abbrev pub IsCellOf : Table → (pin c : ℕ) → Type 0
IsCellOf t pin c = slice_get (cell_pins t) c ≡ Some pin

-- a source may read the pin: a pair carries it or the cell on it, and it can't power the chip down
abbrev pub is_read_pin : Table → (pin : ℕ) → Bool
is_read_pin t pin = is_some (position (λ p. p == pin) (pair_pins t)) && not (pin == t.power_down)

-- no two pairs represent one pin
abbrev pub PairsApart : Table → Type 0
PairsApart t = (pin p q : ℕ) → IsPairOf t pin p → IsPairOf t pin q → p ≡ q

-- at most 32 cells, each with a pin of its own from 1 to 31 that is not the clock; the clock is at most 31
pub record HasOwnPins (t : Table) : Type 0 where
  pub cells : length t.cells ≤ 32
  pub first : (c : ℕ) → c < length t.cells → 1 ≤ (cell_at t c).pin
  pub last : (c : ℕ) → c < length t.cells → (cell_at t c).pin < 32
  pub no_clock : (c : ℕ) → c < length t.cells → (cell_at t c).pin ≢ t.clock
  pub apart : (c d : ℕ) → c < length t.cells → d < length t.cells → (cell_at t c).pin ≡ (cell_at t d).pin → c ≡ d
  pub clock : t.clock < 32
