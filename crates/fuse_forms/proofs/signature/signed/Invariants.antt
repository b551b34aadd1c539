use Rattle.std.proofs.Common.{◌≡◌, ◌++◌, drop}
use Rattle.fuse_forms.specs.Signature.{signed, signed_from}
use Rattle.fuse_forms.proofs.signature.signed.Given as goal

abbrev pub invariant-loop-fuse : goal.invariant-loop-fuse
invariant-loop-fuse l = l.out.items ++ signed_from l.fuse l.text l.first (drop l.fuse l.levels) ≡ signed l.text l.first l.levels
