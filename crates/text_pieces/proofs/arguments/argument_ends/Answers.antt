-- Nothing is open at first, and each byte is passed.
use Rattle.std.proofs.Common.{arith, length}
use Rattle.text_pieces.proofs.ArgumentSteps.{none_open}
use Rattle.text_pieces.proofs.arguments.argument_ends.Goals as goal

pub bytes-init : goal.bytes-init
bytes-init c = record { begun = none_open c.args.text.now c.in_ok-ends.ends (length c.args.text.now) c.in_ok-ends.ensures.ends c.in_ok-ends.ensures.begun; within = omega arith }

pub bytes-preserved : goal.bytes-preserved
bytes-preserved c =
    let mode = c.quoting-mode.ensures in
    record { begun = rw mode c.in_ok-pass.ensures; within = omega arith }
