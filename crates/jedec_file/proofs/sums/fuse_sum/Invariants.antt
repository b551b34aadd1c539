use Rattle.std.proofs.Common.{◌≡◌, ◌+◌, ◌%◌, ◌^◌, drop}
use Rattle.jedec_file.specs.FuseSums.{weights_from}
use Rattle.jedec_file.proofs.sums.fuse_sum.Given as goal

abbrev pub invariant-loop-place : goal.invariant-loop-place
invariant-loop-place l = (l.total + weights_from l.place (drop l.place l.levels)) % 2 ^ 16 ≡ weights_from 0 l.levels % 2 ^ 16
