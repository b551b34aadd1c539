use Rattle.std.proofs.Common.{◌≡◌, ℕ, ◌<◌, false, get_or, is_none, None}
use Rattle.jedec_reader.proofs.fuse_levels.first_unlisted.Given as goal

abbrev pub invariant-loop-fuse : goal.invariant-loop-fuse
invariant-loop-fuse l = (k : ℕ) → k < l.fuse → is_none (get_or l.table k None) ≡ false
