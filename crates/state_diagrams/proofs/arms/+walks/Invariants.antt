-- What the other arms leave, and what is after them, is so of the whole CASE; and the guards of the arms are there.
use Rattle.std.proofs.Common.{◌≡◌, ◌<◌, None, drop, length}
use Rattle.state_diagrams.proofs.Common.{arena, formula_at, ACase, context_for, Walked, AreBits, AreIn, arm_guards, case_choices, case_place, view_choices, StandsBranch, StandsChoices, WalksBranch, WalksChoices}
use Rattle.state_diagrams.proofs.arms.+walks.Given as goal

abbrev pub invariant-walk_case-loop-index : goal.invariant-walk_case-loop-index
invariant-walk_case-loop-index g l =
    let t = g.D.Device.table in
    let fs = arena l.out.exprs in
    record {
      walks : (later : Walked) → WalksChoices t l.machine l.guard (view_choices (drop l.index l.arms)) l.out later
          → WalksBranch t l.machine l.guard (ACase (case_place l.case) (case_choices l.case)) l.fn.out later;
      stands : (later : Walked) → StandsChoices t l.machine l.guard (view_choices (drop l.index l.arms)) l.out later
          → StandsBranch t l.machine l.guard (ACase (case_place l.case) (case_choices l.case)) l.fn.out later;
      guard : l.guard.when.0 < length fs;
      inside : AreIn (length fs) l.bits.items;
      bits : l.out.fault ≡ None → AreBits fs l.bits.items (arm_guards (context_for t l.machine.scope.now) (formula_at fs l.guard.when) l.arms);
    }
