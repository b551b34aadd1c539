use Rattle.std.proofs.Common.{subst}
use Rattle.fuse_compare.specs.Alike.{FindsDifference}
use Rattle.wrong_fuses.proofs.Common.{device_logic}
use Rattle.wrong_fuses.proofs.Tried.{not_alike}
use Rattle.wrong_fuses.proofs.judging.unfound.Goals as goal

pub returns-in-Some : goal.returns-in-Some
returns-in-Some g c =
    let right = device_logic g.D.Device.table c.args.file.now.fuses in
    let chip = device_logic g.D.Device.table c.args.wrong.now in
    (c.requires.loaded, (c.requires.passes, not_alike right chip c.in-Some._difference (subst (FindsDifference right chip) c.in-Some.is c.in_ok-difference.ensures)))
