-- The declarations so far.
use Rattle.std.proofs.Common.{◌≡◌, ◌++◌}
use Rattle.placer.proofs.declaring.append.Given as goal

abbrev pub invariant-loop-decl : goal.invariant-loop-decl
invariant-loop-decl l = l.list.items ≡ l.fn.list.items ++ l.yielded
