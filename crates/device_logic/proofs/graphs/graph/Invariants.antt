use Rattle.std.proofs.Common.{◌≡◌, ℕ, ◌<◌, [], length, get_or}
use Rattle.device_logic.proofs.Common.{HasCells, reads_as}
use Rattle.device_logic.proofs.graphs.graph.Given as goal

abbrev pub invariant-loop-cell : goal.invariant-loop-cell
invariant-loop-cell g l =
    (length l.sets.items ≡ l.cell) × ((c : ℕ) → c < l.cell → HasCells g.D.Device.table (reads_as g.D.Device.table l.array l.reading c) (get_or l.sets.items c []))
