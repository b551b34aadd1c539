-- What the strings so far say.
use Rattle.std.proofs.Common.{◌≡◌, take}
use Rattle.decls.proofs.Common.{all_said, view_said}
use Rattle.decls.proofs.saying.all_in.Given as goal

abbrev pub invariant-loop-string : goal.invariant-loop-string
invariant-loop-string l = view_said l.said ≡ all_said (take l.string-index l.strings)
