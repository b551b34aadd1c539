-- What the other arms' conditions build, all build; and the guards so far.
use Rattle.std.proofs.Common.{List, Result, drop, take}
use Rattle.state_diagrams.proofs.Common.{Node, arena, formula_at, SectionFault, Keeps, context_for, AreBits, arm_guards, BuildsConditions, case_place, view_choices}
use Rattle.state_diagrams.proofs.choices.make_guards.Given as goal

abbrev pub invariant-loop-arm : goal.invariant-loop-arm
invariant-loop-arm g l =
    let d = context_for g.D.Device.table l.scope in
    let f = formula_at (arena l.fn.exprs) l.guard in
    record {
      keeps : Keeps (arena l.fn.exprs) (arena l.exprs);
      built : (later : List Node) (r : Result Unit SectionFault) → BuildsConditions d f (case_place l.case) (view_choices (drop l.arm-index l.arm-items)) l.exprs later r
          → BuildsConditions d f (case_place l.case) (view_choices l.arm-items) l.fn.exprs later r;
      guards : AreBits (arena l.exprs) l.guards.items (arm_guards d f (take l.arm-index l.arm-items));
    }
