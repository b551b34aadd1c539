use Rattle.std.proofs.Common.{sym, ℕ, Bool, get_or, false, arith, nat_lt, if◌then◌else◌, unwrap_or, None}
use Rattle.jedec_reader.proofs.Common.{map-range_with_len_more}
use Rattle.jedec_reader.proofs.fuse_levels.fuse_levels.Goals as goal

pub loop-fuse-preserved : goal.loop-fuse-preserved
loop-fuse-preserved c =
    let f : ℕ → Bool = λ n. if nat_lt n c.args.listed then unwrap_or (get_or c.args.table.now n None) c.args.default else false in
    rw (c.in_ok-push.ensures.items, c.loop-fuse.invariant, c.fuse_level.ensures) (sym (map-range_with_len_more f 0 c.loop-fuse.fuse c.loop-fuse.fuse (omega arith)))
