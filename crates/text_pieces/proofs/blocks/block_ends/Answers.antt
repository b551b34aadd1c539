-- Nothing is open at first, and each byte is passed.
use Rattle.std.proofs.Common.{◌∙◌, ap, arith, get_or, length}
use Rattle.text_pieces.proofs.Common.{passing}
use Rattle.text_pieces.proofs.BlockSteps.{none_open}
use Rattle.text_pieces.proofs.blocks.block_ends.Goals as goal

pub bytes-init : goal.bytes-init
bytes-init c = record { begun = none_open c.args.text.now c.in_ok-ends.ends (length c.args.text.now) c.in_ok-ends.ensures.ends c.in_ok-ends.ensures.begun; within = omega arith }

pub bytes-preserved : goal.bytes-preserved
bytes-preserved c =
    let mode = c.passing_in-mode.ensures ∙ ap (passing c.bytes.mode (get_or c.args.text.now c.bytes.at 0)) c.split_at.ensures.back in
    record { begun = rw mode c.in_ok-pass.ensures; within = omega arith }
