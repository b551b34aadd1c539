use Rattle.std.proofs.Common.{◌≡◌, ◌+◌, ◌++◌, None, option_map, drop}
use Rattle.device_sim.proofs.Common.{levels_of, all_chars_at, mismatches_after}
use Rattle.device_sim.proofs.running.run_vectors.Given as goal

abbrev pub invariant-loop-index : goal.invariant-loop-index
invariant-loop-index g l =
    let m = g.L.Logic.meaning l.logic in
    mismatches_after m l.default 1 None (all_chars_at l.pins l.vectors)
    ≡ l.found.items ++ mismatches_after m l.default (l.index + 1) (option_map levels_of l.before) (all_chars_at l.pins (drop l.index l.vectors))
