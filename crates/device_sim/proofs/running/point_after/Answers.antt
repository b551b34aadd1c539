use Rattle.device_sim.proofs.Common.{bits, levels_of, length-bits, steps_once, point_after}
use Rattle.device_sim.proofs.PowerUp.{comes_to_rest}
use Rattle.device_sim.proofs.running.point_after.Goals as goal

pub returns-in-None : goal.returns-in-None
unfolding point_after
returns-in-None g c =
    rw c.in-None.is (comes_to_rest (g.L.Logic.meaning c.args.logic.now) c.requires c.args.outside c.rest.result c.rest.ensures)

pub returns-in-Some : goal.returns-in-Some
unfolding point_after
returns-in-Some g c =
    let m = g.L.Logic.meaning c.args.logic.now in
    rw c.in-Some.is
    ((steps_once m c.requires (levels_of c.in-Some.at) (bits 32 c.args.outside) (length-bits 32 c.in-Some.at.q) (length-bits 32 c.args.outside)).only (levels_of c.step.result) c.step.ensures.steps)
