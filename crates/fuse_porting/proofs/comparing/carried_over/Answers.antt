-- A device that always complements is never refused.
use Rattle.fuse_porting.proofs.RoundTrips.{never_refused}
use Rattle.fuse_porting.proofs.comparing.carried_over.Goals as goal

pub unreachable-requires : goal.unreachable-requires
unreachable-requires g c =
    let only = never_refused g.F.Device.table g.T.Device.table c.args.fuses.now c.requires.always c.in-Err-NoCounterpart.field-0 c.in-Err-NoCounterpart.ensures.refused in cc
