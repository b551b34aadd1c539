-- The levels of cells that no row sets (the devices' datasheets, macrocell diagrams).
use Rattle.std.specs.Prelude.{ℕ, Bool, true, false, not, ◌&&◌, if◌then◌else◌, Option, None, Some, List}
use Rattle.std.specs.List.{list_any}
use Rattle.pld_base.specs.Bits.{same_level}
use Rattle.pld_device.specs.Macrocells.{complement_if, data_complements, data_rows, pin_complements}
use Rattle.pld_device.specs.Reads.{is_never_true}
use Rattle.pld_device.specs.Registers.{is_inverted, stores}
use Rattle.pld_device.specs.Table.{Table}
use Rattle.pld_device.specs.declared.flip.Flip.{Flip}
use Rattle.page_model.specs.declared.idle.IdleLevels.{IdleLevels}

-- the row may be true, as far as its own fuses say
abbrev pub is_live_row : Table → List Bool → (row : ℕ) → Bool
is_live_row t fuses row = not (is_never_true t fuses row)

abbrev pub is_live_if_any : Table → List Bool → Option ℕ → Bool
is_live_if_any t fuses None = false
is_live_if_any t fuses (Some row) = is_live_row t fuses row

-- some data row of the cell may be true
abbrev pub has_live_row : Table → List Bool → (cell : ℕ) → Bool
has_live_row t fuses c = list_any (is_live_row t fuses) (data_rows t c)

-- no row sets the cell's output: no data row of it may be true, and nothing presets it
abbrev pub is_idle : Table → List Bool → (cell : ℕ) → Bool
is_idle t fuses c = not (has_live_row t fuses c) && not (stores t fuses c && is_live_if_any t fuses t.preset)

-- its register takes 1 at each clock
abbrev pub takes_one : Flip → (is_register inverted : Bool) → Bool
takes_one flip is_register inverted = is_register && data_complements flip inverted

-- the level of such a cell, while Q is 0, and that after a clock
abbrev pub idle_of : Flip → (is_register inverted : Bool) → IdleLevels
idle_of flip is_register inverted = record {
  first = pin_complements flip is_register inverted;
  later = complement_if (pin_complements flip is_register inverted) (takes_one flip is_register inverted);
}

-- the levels of a cell that no row sets
abbrev pub idle_levels : Table → List Bool → (cell : ℕ) → Option IdleLevels
idle_levels t fuses c =
    if is_idle t fuses c then Some (idle_of t.flip (stores t fuses c) (is_inverted t fuses c)) else None

-- a cell of these levels may change
abbrev pub may_change : Option IdleLevels → Bool
may_change None = true
may_change (Some idle) = not (same_level idle.first idle.later)

-- the cell is a register that may change at its clock
abbrev pub is_clocked : Table → List Bool → (cell : ℕ) → Bool
is_clocked t fuses c = stores t fuses c && may_change (idle_levels t fuses c)
