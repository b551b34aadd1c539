-- What a cell shows at a point, for examples (this project's rule).
use Rattle.std.specs.Prelude.{◌≡◌, ℕ, ◌==◌, Bool, List, [], map}
use Rattle.std.specs.List.{list_any, range_with_len}
use Rattle.pld_base.specs.Points.{Levels}
use Rattle.pld_device.specs.Macrocells.{is_enabled, or_value, pin_level, next_q}
use Rattle.pld_device.specs.Registers.{stores}
use Rattle.pld_device.specs.Rows.{feedback}
use Rattle.pld_device.specs.Table.{Table}

-- of 32 levels those that are 1
abbrev pub high_at : List ℕ → List Bool
high_at places = map (λ k. list_any (λ place. place == k) places) (range_with_len 0 32)

-- the point at which these pins are high, and the Q of these cells is 1
abbrev pub point_with : (pins cells : List ℕ) → Levels
point_with pins cells = record { pins = high_at pins; q = high_at cells; nodes = [] }

-- whether a cell is a register, drives its pin, and has a true data row; the level that it drives, the value that it
-- feeds back, and the next Q
pub record Shown : Type 0 where
  pub stores : Bool
  pub enabled : Bool
  pub any_row : Bool
  pub pin : Bool
  pub feedback : Bool
  pub next : Bool

-- these six, in this order
abbrev pub shown : (stores enabled any_row pin feedback next : Bool) → Shown
shown stores enabled any_row pin feedback next =
    record { stores = stores; enabled = enabled; any_row = any_row; pin = pin; feedback = feedback; next = next }

-- what the cell of a device shows
abbrev pub shown_cell : Table → List Bool → Levels → ℕ → Shown
shown_cell t fuses at c = record {
  stores = stores t fuses c;
  enabled = is_enabled t fuses at c;
  any_row = or_value t fuses at c;
  pin = pin_level t fuses at c;
  feedback = feedback t fuses at c;
  next = next_q t fuses at c;
}

-- a row of a table of examples: a point, a cell, and what it shows there
abbrev pub ShownRow : Type 0
ShownRow = Levels × ℕ × Shown

-- what the device shows in the row's place
abbrev pub found_in : Table → List Bool → ShownRow → Shown
found_in t fuses (at, c, expected) = shown_cell t fuses at c

-- what the row says
abbrev pub said_in : ShownRow → Shown
said_in (at, c, expected) = expected

-- each row is so
abbrev pub ShowsEach : Table → List Bool → List ShownRow → Type 0
ShowsEach t fuses rows = map (found_in t fuses) rows ≡ map said_in rows
