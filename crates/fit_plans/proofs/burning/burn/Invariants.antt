use Rattle.std.proofs.Common.{◌≡◌, map, get_or, None, false}
use Rattle.fit_plans.proofs.Common.{range_with_len, fuse_level}
use Rattle.fit_plans.proofs.burning.burn.Given as goal

abbrev pub invariant-loop-number : goal.invariant-loop-number
invariant-loop-number g l = record {
  fuses : l.fuses.items ≡ map (fuse_level g.D.Device.table (λ row. get_or l.plan row None) (λ n. get_or l.control n false)) (range_with_len 0 l.number);
}
