-- The cells so far are reported, and the covers of the others are left.
use Rattle.std.proofs.Common.{◌≡◌, ◌≤◌, ℕ, None, get_or, length}
use Rattle.fitter.proofs.Common.{All}
use Rattle.fitter.specs.Rooms.{IsOver, TellsBelow}
use Rattle.fitter.proofs.rooms.cells_over_room.Given as goal

abbrev pub invariant-loop-cell : goal.invariant-loop-cell
invariant-loop-cell g l = record {
  long : length l.left.items ≡ length g.D.Device.table.cells;
  left : (d : ℕ) → l.cell ≤ d → get_or l.left.items d None ≡ get_or l.initial.left.items d None;
  over : All IsOver l.list.items;
  told : TellsBelow g.D.Device.table l.turned l.net l.cell l.list.items;
}
