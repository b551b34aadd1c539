-- One name more.
use Rattle.std.proofs.Common.{◌∙◌}
use Rattle.placer.proofs.Needed.{one_signal}
use Rattle.placer.proofs.needing.to_place.Goals as goal

pub loop-number-preserved : goal.loop-number-preserved
loop-number-preserved g c =
    let l = c.loop-number in
    c.in_ok-add_signal.ensures ∙ one_signal g.D.Device.table c.args.names.now l.number c.index-names-number.result c.loop-number-test.true c.index-names-number.is l.signals.items l.invariant
