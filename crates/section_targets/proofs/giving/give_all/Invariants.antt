-- Whatever giving the signals that are left leaves, giving all of them leaves.
use Rattle.std.proofs.Common.{◌≡◌, Result, drop}
use Rattle.section_targets.proofs.Common.{arena, entries_of, Context, Contributions, SectionFault, Keeps}
use Rattle.section_targets.proofs.Gives.{GivesEach}
use Rattle.section_targets.proofs.giving.give_all.Given as goal

abbrev pub invariant-loop-index : goal.invariant-loop-index
invariant-loop-index l =
    record {
      keeps : Keeps (arena l.initial.exprs) (arena l.exprs);
      rest : (d : Context) (new : Contributions) (r : Result Unit SectionFault) → d.names ≡ entries_of l.giver.scope.now
          → GivesEach d (arena l.initial.exprs) l.giver.giving (drop l.index l.aims) (drop l.index l.bits) (record { exprs = l.exprs; list = l.list.items }) new r
          → GivesEach d (arena l.initial.exprs) l.giver.giving l.aims l.bits (record { exprs = l.initial.exprs; list = l.initial.list.items }) new r;
    }
