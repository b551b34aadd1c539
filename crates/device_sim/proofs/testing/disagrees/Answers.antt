use Rattle.device_sim.proofs.Common.{bits, is_on, is_on-and}
use Rattle.device_sim.proofs.TestedPins.{high_is, low_is}
use Rattle.device_sim.proofs.testing.disagrees.Goals as goal

pub returns-in-72 : goal.returns-in-72
returns-in-72 c =
    let shown = c.args.shown in
    rw (c.in-72.is, c.level_at.ensures, is_on-and 32 shown.driven shown.level c.args.pin c.requires)
    (high_is (is_on (bits 32 shown.driven) c.args.pin) (is_on (bits 32 shown.level) c.args.pin))

pub returns-in-76 : goal.returns-in-76
returns-in-76 c =
    let shown = c.args.shown in
    rw (c.in-76.is, c.level_at-in-76.ensures, c.without.ensures c.args.pin c.requires)
    (low_is (is_on (bits 32 shown.driven) c.args.pin) (is_on (bits 32 shown.level) c.args.pin))
