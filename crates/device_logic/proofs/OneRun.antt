-- Devices whose cells have no loop, and whose reset depends on no register, have one point at rest and one run.
use Rattle.std.proofs.Common.{◌≡◌, ◌⊎◌, ℕ, Bool, List, length, Option, Some, None, refl, inl, inr}
use Rattle.device_logic.proofs.Common.{Levels, Table, IsDevice, row_if_any, device_logic, ResetsWithoutQ, IsOrdered, IsDetermined, IsOrder, HasOrder, HasLoop, HasNoLoop, cell_reads, device_lookups, HasNoResetPath}
use Rattle.pld_order.proofs.OneOfBoth.{one_or_other}
use Rattle.device_logic.proofs.FreeReads.{device_reads_free}
use Rattle.device_logic.proofs.CellsOrdered.{is_ordered, determined}
use Rattle.device_logic.proofs.ResetReads.{resets_free}

-- a device without a reset resets nothing
no_reset : (t : Table) (fuses : List Bool) (a b : Levels) (reset : Option ℕ) → reset ≡ None → row_if_any t fuses a reset ≡ row_if_any t fuses b reset
no_reset t fuses a b None e = refl
no_reset t fuses a b (Some row) e = absurd cc

pub resets_by_none : (t : Table) (fuses : List Bool) (order : List ℕ) → t.reset ≡ None → ResetsWithoutQ (device_lookups t fuses order)
resets_by_none t fuses order none outside a b a_is b_is a_settled b_settled c register = no_reset t fuses a b t.reset none

-- the order of a device's cells is one that the machine takes
pub device_ordered : (t : Table) (fuses : List Bool) (order : List ℕ) → IsDevice t → IsOrder (length t.cells) (cell_reads t fuses) order → HasNoResetPath t fuses → IsOrdered (device_lookups t fuses order)
device_ordered t fuses order laws ordered none = is_ordered t fuses order (device_reads_free t laws fuses) ordered (resets_free t laws fuses order ordered none)

-- if there is no loop there is an order
pub order_of : (t : Table) (fuses : List Bool) → HasNoLoop (length t.cells) (cell_reads t fuses) → HasOrder (length t.cells) (cell_reads t fuses)
order_of t fuses no_loop = either (one_or_other (length t.cells) (cell_reads t fuses))
  where
    either : HasOrder (length t.cells) (cell_reads t fuses) ⊎ HasLoop (length t.cells) (cell_reads t fuses) → HasOrder (length t.cells) (cell_reads t fuses)
    either (inl order) = order
    either (inr chain) = absurd (no_loop chain.0 chain.1)

pub device_determined : (t : Table) (fuses : List Bool) → IsDevice t → HasNoLoop (length t.cells) (cell_reads t fuses) → HasNoResetPath t fuses → IsDetermined (device_logic t fuses)
device_determined t fuses laws no_loop none =
    let order = order_of t fuses no_loop in
    determined t fuses order.0 (device_ordered t fuses order.0 laws order.1 none)
