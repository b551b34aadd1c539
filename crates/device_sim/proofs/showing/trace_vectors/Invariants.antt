-- What is shown of the vectors from here on makes what is shown of all.
use Rattle.std.proofs.Common.{List, ◌++◌, None, option_map, drop}
use Rattle.device_sim.proofs.Common.{Trace, levels_of, all_chars_at, ShownAfter}
use Rattle.device_sim.proofs.showing.trace_vectors.Given as goal

abbrev pub invariant-loop-vector : goal.invariant-loop-vector
invariant-loop-vector g l =
    let m = g.L.Logic.meaning l.logic in
    (ts : List Trace) → ShownAfter m l.default (option_map levels_of l.before) (all_chars_at l.pins (drop l.vector-index l.vectors)) ts
    → ShownAfter m l.default None (all_chars_at l.pins l.vectors) (l.shown.items ++ ts)
