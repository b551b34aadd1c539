use Rattle.std.proofs.Common.{option_map, arith}
use Rattle.device_sim.proofs.Common.{levels_of}
use Rattle.device_sim.proofs.Vectors.{more_vectors, after_all}
use Rattle.device_sim.proofs.running.run_vectors.Goals as goal

pub loop-index-preserved : goal.loop-index-preserved
loop-index-preserved g c =
    let m = g.L.Logic.meaning c.args.logic.now in
    more_vectors m c.args.pins c.args.default c.args.vectors.now c.loop-index.index _ (option_map levels_of c.loop-index.before) (levels_of c.point_of-at.result)
    c.loop-index.found.items c.test_pins.new.list.items _ (omega arith)
    (rw c.chars_of-chars.ensures at c.point_of-at.ensures)
    (rw c.chars_of-chars.ensures at c.in_ok-test_pins.ensures)
    c.loop-index.invariant

pub returns : goal.returns
returns g c =
    after_all (g.L.Logic.meaning c.args.logic.now) c.args.pins c.args.default c.args.vectors.now c.loop-index.index (option_map levels_of c.loop-index.before) c.loop-index.found.items _ c.loop-index-test.false c.loop-index.invariant
