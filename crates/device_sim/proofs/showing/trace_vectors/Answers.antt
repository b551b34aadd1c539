-- Each vector adds what it shows.
use Rattle.std.proofs.Common.{option_map}
use Rattle.device_sim.proofs.Common.{levels_of}
use Rattle.device_sim.proofs.Shown.{more_shown, all_shown}
use Rattle.device_sim.proofs.showing.trace_vectors.Goals as goal

pub loop-vector-preserved : goal.loop-vector-preserved
loop-vector-preserved g c =
    more_shown (g.L.Logic.meaning c.args.logic.now) c.args.pins c.args.default c.args.vectors.now c.loop-vector.vector-index _ (option_map levels_of c.loop-vector.before) (levels_of c.point_of-at.result)
    c.loop-vector.shown.items c.push.new.self.items c.trace.result c.loop-vector-test.true
    (rw c.chars_of.ensures at c.point_of-at.ensures)
    c.trace.ensures c.in_ok-push.ensures.items c.loop-vector.invariant

pub returns : goal.returns
returns g c =
    all_shown (g.L.Logic.meaning c.args.logic.now) c.args.pins c.args.default c.args.vectors.now c.loop-vector.vector-index (option_map levels_of c.loop-vector.before) c.loop-vector.shown.items c.loop-vector-test.false c.loop-vector.invariant
