-- What the other transitions leave, and what is after them, is so of all.
use Rattle.std.proofs.Common.{◌<◌, drop, length}
use Rattle.state_diagrams.proofs.Common.{arena, Walked, view_arms, StandsBranches, WalksBranches}
use Rattle.state_diagrams.proofs.arms.walk_arms.Given as goal

abbrev pub invariant-loop-arm : goal.invariant-loop-arm
invariant-loop-arm g l =
    record {
      guard : l.guard.when.0 < length (arena l.out.exprs);
      walks : (later : Walked) → WalksBranches g.D.Device.table l.machine l.guard (view_arms (drop l.arm-index l.arms)) l.out later
          → WalksBranches g.D.Device.table l.machine l.guard (view_arms l.arms) l.fn.out later;
      stands : (later : Walked) → StandsBranches g.D.Device.table l.machine l.guard (view_arms (drop l.arm-index l.arms)) l.out later
          → StandsBranches g.D.Device.table l.machine l.guard (view_arms l.arms) l.fn.out later;
    }
