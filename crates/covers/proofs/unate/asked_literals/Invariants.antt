use Rattle.std.proofs.Common.{◌≡◌, drop}
use Rattle.covers.proofs.Common.{union, asked_of}
use Rattle.covers.proofs.unate.asked_literals.Given as goal

abbrev pub invariant-loop-cube : goal.invariant-loop-cube
invariant-loop-cube l = union l.asked (asked_of (drop l.cube-index l.cube-items)) ≡ asked_of l.cube-items
