-- The signals so far.
use Rattle.placer.proofs.Signals.{IsMarkedTo}
use Rattle.placer.proofs.marks.mark_of.Given as goal

abbrev pub invariant-loop-place : goal.invariant-loop-place
invariant-loop-place l = IsMarkedTo l.signals l.number l.place l.mark
