-- A position that isn't X lies in the arena.
use Rattle.std.proofs.Common.{◌<◌, length, arith}
use Rattle.expr_bits.proofs.Shaped.{place_in}
use Rattle.value_rows.proofs.expressions.number_at.Goals as goal

pub eval-requires : goal.eval-requires
eval-requires c =
    let lt : c.loop-index.index < length c.args.places.now = omega arith in
    place_in _ c.args.places.now c.loop-index.index _ c.in-Some.id c.requires lt c.in-Some.is
