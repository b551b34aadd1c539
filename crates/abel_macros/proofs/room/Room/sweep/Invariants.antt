-- The texts that weren't looked at yet.
use Rattle.std.proofs.Common.{length}
use Rattle.abel_macros.proofs.room.Room.sweep.Given as goal

abbrev pub decreases-held : goal.decreases-held
decreases-held l = length l.self.held.items
