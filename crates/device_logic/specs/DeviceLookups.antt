-- A device with its fuses as what the machine asks of a logic (this project's rule).
use Rattle.std.specs.Prelude.{ℕ, Bool, false, List, map, length}
use Rattle.device_logic.specs.Prelude.{Table, cell_at, stores, is_enabled, pin_level, next_q, row_if_any, Lookups}
use Rattle.pld_machine.specs.declared.logic.Slot.TheVariants as slot

-- fuses in a device, and the order in which its cells settle
pub record OrderedFuses : Type 0 where
  pub fuses : List Bool
  pub order : List ℕ

-- what the machine asks of the device, a slot for each cell in this order
abbrev pub device_lookups : Table → List Bool → (order : List ℕ) → Lookups
device_lookups t fuses order =
    record {
      cells = length t.cells;
      pin = λ c. (cell_at t c).pin;
      stores = stores t fuses;
      clock = t.clock;
      slots = map (λ c. slot.Cell c) order;
      enable = is_enabled t fuses;
      level = pin_level t fuses;
      node = λ at n. false;
      reset = λ at c. row_if_any t fuses at t.reset;
      preset = λ at c. row_if_any t fuses at t.preset;
      next = next_q t fuses;
    }
