-- What the words of a page mean on the device (this project's rule).
use Rattle.std.specs.Prelude.{◌≡◌, ◌≢◌, ℕ, ◌<◌, Bool, true, false, not, Some, List, length}
use Rattle.pld_base.specs.Bits.{is_on}
use Rattle.pld_base.specs.Points.{Levels}
use Rattle.pld_device.specs.Macrocells.{complement_if, is_enabled, next_q, pin_complements, pin_level}
use Rattle.pld_device.specs.Registers.{is_inverted, stores}
use Rattle.pld_device.specs.RowLaws.{HasPairs}
use Rattle.pld_device.specs.Rows.{row_value}
use Rattle.pld_device.specs.Table.{Table}
use Rattle.page_model.specs.Cells.{drives_of}
use Rattle.page_model.specs.Idle.{idle_levels}
use Rattle.page_model.specs.LevelReads.{is_read}
use Rattle.page_model.specs.declared.drives.Drives.{Drives}
use Rattle.page_model.specs.declared.drives.Drives.TheVariants.{Never, Always, ByRow, WhileLow}
use Rattle.page_model.specs.declared.idle.IdleLevels.{IdleLevels}

-- a cell that is enabled at a point, or isn't, drives its pin there just if this says so
abbrev pub DrivesAs : Table → List Bool → Levels → (enabled : Bool) → Drives → Type 0
DrivesAs t fuses at enabled Never = enabled ≡ false
DrivesAs t fuses at enabled Always = enabled ≡ true
DrivesAs t fuses at enabled (ByRow row) = enabled ≡ row_value t fuses at row
DrivesAs t fuses at enabled (WhileLow pin) = enabled ≡ not (is_on at.pins pin)

-- the points differ at most in the level of the pin
pub record AlikeButAt (pin : ℕ) (a b : Levels) : Type 0 where
  pub q : a.q ≡ b.q
  pub pins : (other : ℕ) → other ≢ pin → is_on a.pins other ≡ is_on b.pins other

-- the level of a register's pin by its Q
abbrev pub register_level : Table → List Bool → (cell : ℕ) → (q : Bool) → Bool
register_level t fuses c q = complement_if (pin_complements t.flip true (is_inverted t fuses c)) q

-- what a page says of the device with these fuses
pub record TellsTheDevice (t : Table) (fuses : List Bool) : Type 0 where
  -- a cell drives its pin when this is said
  pub drives : (at : Levels) (c : ℕ) → DrivesAs t fuses at (is_enabled t fuses at c) (drives_of t fuses c)
  -- no row depends on the level of a pin that isn't read
  pub reads : (pin row : ℕ) (a b : Levels) → row < t.rows → is_read t fuses pin ≡ false → AlikeButAt pin a b
      → row_value t fuses a row ≡ row_value t fuses b row
  -- a gate that no row sets has the first level, a register that none sets has it after power-up, and the later one
  -- after each clock
  pub gates : (at : Levels) (c : ℕ) (idle : IdleLevels) → stores t fuses c ≡ false → idle_levels t fuses c ≡ Some idle
      → pin_level t fuses at c ≡ idle.first
  pub power_up : (c : ℕ) (idle : IdleLevels) → stores t fuses c ≡ true → idle_levels t fuses c ≡ Some idle
      → register_level t fuses c false ≡ idle.first
  pub clocked : (at : Levels) (c : ℕ) (idle : IdleLevels) → stores t fuses c ≡ true → idle_levels t fuses c ≡ Some idle
      → register_level t fuses c (next_q t fuses at c) ≡ idle.later

-- so it does of each device
abbrev pub PagesTellTheDevice : Type 0
PagesTellTheDevice = (t : Table) (fuses : List Bool) → HasPairs t → TellsTheDevice t fuses
