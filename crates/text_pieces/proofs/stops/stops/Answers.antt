-- The table is filled from the end of the text on.
use Rattle.std.proofs.Common.{length, arith}
use Rattle.text_pieces.proofs.Common.{FreeOf, is_stop}
use Rattle.text_pieces.proofs.Stopped.{stop_here}
use Rattle.text_pieces.proofs.Tables.{tells_none, tells_set}
use Rattle.text_pieces.proofs.stops.stops.Goals as goal

pub bytes-init : goal.bytes-init
bytes-init c =
    let none = c.in_ok-stops.ensures.items_if_clones_equal (λ y h. h) in
    record { stops = rw none (tells_none (FreeOf (is_stop c.args.stop) c.args.text.now) (length c.args.text.now)); next = stop_here (is_stop c.args.stop) c.args.text.now (length c.args.text.now) (omega arith); more = omega arith; within = omega arith }

pub bytes-preserved-then-at-len : goal.bytes-preserved-then-at-len
bytes-preserved-then-at-len c =
    let next = c.stop_from-next.ensures in
    record { stops = tells_set (FreeOf (is_stop c.args.stop) c.args.text.now) c.bytes.stops.items _ _ c.bytes.invariant.stops next.none; next = next.none; more = next.more; within = next.within }
