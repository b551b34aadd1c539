-- A logic: what a device, or a source, asks of each point.
use Rattle.std.specs.Prelude.{ℕ, Bool, ◌&&◌, nat_lt}
use Rattle.pld_base.specs.Points.{Levels}

-- cells with their pins, which of them store, the clock's pin (0: none) and the nodes; and at each point
-- the enabled cells, the allowed levels of each cell's pin, the allowed values of each node, the cells
-- that are reset or preset, and the allowed next Qs. A set of allowed values is a test.
pub record Logic : Type 0 where
  pub cells : ℕ
  pub pin : ℕ → ℕ
  pub stores : ℕ → Bool
  pub clock : ℕ
  pub is_node : ℕ → Bool
  pub enabled : Levels → ℕ → Bool
  pub allows_level : Levels → ℕ → Bool → Bool
  pub allows_node : Levels → ℕ → Bool → Bool
  pub reset : Levels → ℕ → Bool
  pub preset : Levels → ℕ → Bool
  pub allows_next : Levels → ℕ → Bool → Bool

-- a cell that stores
abbrev pub is_register : Logic → ℕ → Bool
is_register m c = nat_lt c m.cells && m.stores c
