-- The cells that a refusal names are cells of the device.
use Rattle.std.proofs.Common.{◌≡◌, ℕ, ◌<◌, length, slice_get, Option, Some, sym, ap, ◌∙◌, arith}
use Rattle.reports.proofs.Common.{get_or_from_slice_get, Cell, Table, cell_at, no_cell, CellWanted, Netlist, cell_wanted, sound_id_at}
use Rattle.abel_meaning.specs.SoundIds.{IsSoundNetlist}
use Rattle.fitter.proofs.Widths.{cell_low}

pub wanted_low : (t : Table) (net : Netlist) → IsSoundNetlist t net → (c : ℕ) (o : Option CellWanted) → o ≡ cell_wanted net c → (w : CellWanted) → o ≡ Some w → w.cell < length t.cells
wanted_low t net sound c o is w some =
    let at = sym is ∙ some in
    omega (arith, (sound_id_at t net sound c w at).cell, cell_low t net sound c w at)

-- the room of a cell that was looked up
pub room_at : (t : Table) (c : ℕ) (x : Cell) → slice_get t.cells c ≡ Some x → x.room ≡ (cell_at t c).room
room_at t c x found = ap (λ (y : Cell). y.room) (sym (get_or_from_slice_get t.cells c x no_cell found))
