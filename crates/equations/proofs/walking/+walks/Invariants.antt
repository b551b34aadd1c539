-- So many statements were walked, whatever the others leave is, what was there stays, and the guard lies in the arena.
use Rattle.std.proofs.Common.{List, ◌<◌, drop, length}
use Rattle.equations.proofs.Common.{arena, Keeps, context_for, view_guard, Manner, AreFirsts, Walked, view_list}
use Rattle.equations.proofs.StandingStatements.{StandsAll}
use Rattle.equations.proofs.WalkedStatements.{LeftBehind}
use Rattle.equations.proofs.walking.+walks.Given as goal

abbrev pub invariant-walk_statements-loop-stmt : goal.invariant-walk_statements-loop-stmt
invariant-walk_statements-loop-stmt g l =
    record {
      walks : (all : List Manner) → AreFirsts l.fn.out.before all
          → LeftBehind (context_for g.D.Device.table l.scope) all (view_guard (arena l.fn.out.exprs) l.guard) (view_list l.stmts) (view_list (drop l.stmt-index l.stmts)) l.fn.out l.out;
      stands : (new : Walked) → StandsAll (context_for g.D.Device.table l.scope) (view_guard (arena l.fn.out.exprs) l.guard) (view_list (drop l.stmt-index l.stmts)) l.out new
          → StandsAll (context_for g.D.Device.table l.scope) (view_guard (arena l.fn.out.exprs) l.guard) (view_list l.stmts) l.fn.out new;
      keeps : Keeps (arena l.fn.out.exprs) (arena l.out.exprs);
      inside : l.guard.when.0 < length (arena l.out.exprs);
    }
