-- Fuses that are loaded are compared, unless memory runs out.
use Rattle.wrong_fuses.proofs.Tried.{compares}
use Rattle.wrong_fuses.proofs.judging.difference.Goals as goal

pub unreachable-requires : goal.unreachable-requires
unreachable-requires g c =
    c.in_default.not-OutOfMemory (compares g.D.Device.table c.args.right.now c.args.wrong.now c.in-Err.fault c.requires.right_loaded c.requires.loaded c.in-Err.ensures.refused)
