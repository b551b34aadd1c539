use Rattle.std.proofs.Common.{◌≡◌, false, get_or, map, nat_lt, if◌then◌else◌, unwrap_or, None}
use Rattle.jedec_reader.proofs.Common.{range_with_len}
use Rattle.jedec_reader.proofs.fuse_levels.fuse_levels.Given as goal

abbrev pub invariant-loop-fuse : goal.invariant-loop-fuse
invariant-loop-fuse l =
    l.levels.items ≡ map (λ n. if nat_lt n l.listed then unwrap_or (get_or l.table n None) l.default else false) (range_with_len 0 l.fuse)
