-- The registers from here on are left of the goal.
use Rattle.std.proofs.Common.{◌≡◌, ◌<◌, length}
use Rattle.state_diagrams.proofs.Common.{arena, context_for, view_guard, AreBits, standing, IsLeft}
use Rattle.state_diagrams.proofs.GoalWorks.{goal_parted, goal_word, goals_from}
use Rattle.state_diagrams.proofs.goals.give_goal.Given as goal

abbrev pub invariant-loop-index : goal.invariant-loop-index
invariant-loop-index g l =
    let d = context_for g.D.Device.table l.machine.scope.now in
    let xs = l.machine.registers.now in
    let h = view_guard (arena l.fn.out.exprs) l.fn.guard in
    record {
      before : l.out.before ≡ l.fn.out.before;
      fault : l.out.fault ≡ l.fn.out.fault;
      guard : l.fn.guard.when.0 < length (arena l.out.exprs);
      same : view_guard (arena l.out.exprs) l.fn.guard ≡ h;
      bits : AreBits (arena l.out.exprs) l.bits.items (goal_word d xs l.goal);
      left : IsLeft (goal_parted d h xs l.goal) (goals_from d h xs l.goal l.index) (standing l.fn.out) (standing l.out);
    }
