-- What a point shows: each cell's pin as driven with its level, or released (this project's rule).
use Rattle.std.specs.Prelude.{◌≡◌, ◌≢◌, ℕ, ◌<◌, Bool, false, ◌&&◌, List}
use Rattle.pld_machine.specs.Prelude.{is_on, Levels, Logic}

-- a cell's pin is driven if the cell is enabled, no other pin is, and a level is shown at driven
-- pins alone
pub record Shows (m : Logic) (at : Levels) (driven level : List Bool) : Type 0 where
  pub cells : (c : ℕ) → c < m.cells → is_on driven (m.pin c) ≡ m.enabled at c
  pub others : (k : ℕ) → k < 32 → ((c : ℕ) → c < m.cells → m.pin c ≢ k) → is_on driven k ≡ false
  pub levels : (k : ℕ) → k < 32 → is_on level k ≡ (is_on driven k && is_on at.pins k)
