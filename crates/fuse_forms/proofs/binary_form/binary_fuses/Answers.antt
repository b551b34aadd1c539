-- One level more is read.
use Rattle.std.proofs.Common.{sym, arith}
use Rattle.std.proofs.lemmas.List.FromFn.{map-range_with_len_more}
use Rattle.fuse_forms.specs.Binary.{level_in}
use Rattle.fuse_forms.proofs.binary_form.binary_fuses.Goals as goal

pub loop-fuse-preserved : goal.loop-fuse-preserved
loop-fuse-preserved c =
    rw (c.in_ok-push.ensures.items, c.loop-fuse.invariant, c.level_in.ensures) (sym (map-range_with_len_more (level_in c.args.bytes.now c.args.listed) 0 c.loop-fuse.fuse c.loop-fuse.fuse (omega arith)))
