use Rattle.std.proofs.Common.{◌≡◌, ℕ, ◌<◌, true, false, get_or}
use Rattle.fuse_compare.proofs.Common.{IsPoint, Levels, holds, RowMask}
use Rattle.fuse_compare.proofs.cut.some_meets.Given as goal

abbrev pub invariant-loop-mask : goal.invariant-loop-mask
invariant-loop-mask l =
    (at : Levels) → IsPoint at → holds l.decided at ≡ true → (k : ℕ) (d : RowMask) → k < l.mask-index → holds (get_or l.masks k d) at ≡ false
