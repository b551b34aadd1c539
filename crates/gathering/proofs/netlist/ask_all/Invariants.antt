-- With what the names ask that are left, all of them ask what they ask.
use Rattle.std.proofs.Common.{List, map, drop}
use Rattle.gathering.proofs.Common.{arena, Formula, view_declared, Stands, AsksBefore}
use Rattle.gathering.proofs.netlist.ask_all.Given as goal

abbrev pub invariant-loop-number : goal.invariant-loop-number
invariant-loop-number g l = record {
  asks : (last : List Formula) → Stands (arena l.exprs) last
      → AsksBefore g.D.Device.table (arena l.initial.exprs) last l.list (map view_declared l.declared-items) l.number (map view_declared (drop l.number l.declared-items)) l.asked;
  stands : Stands (arena l.initial.exprs) (arena l.exprs);
}
