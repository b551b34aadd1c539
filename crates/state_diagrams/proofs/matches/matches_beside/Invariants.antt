-- So many contributions have their matches.
use Rattle.std.proofs.Common.{◌≡◌, ◌++◌, drop}
use Rattle.state_diagrams.proofs.Common.{signals_of, pushed_for}
use Rattle.state_diagrams.proofs.matches.matches_beside.Given as goal

abbrev pub invariant-loop-index : goal.invariant-loop-index
invariant-loop-index l =
    l.found.items ++ pushed_for l.states l.seen.items (drop l.index l.list)
    ≡ pushed_for l.states (signals_of l.registers) (drop l.start l.list)
