use Rattle.std.proofs.Common.{◌≡◌, ◌+◌, ◌<◌, ◌++◌, length, get_or, ◌∙◌, arith}
use Rattle.device_sim.proofs.Common.{bits, is_on, levels_of, logic_of, found, found_at, mismatch_at, vector_mismatches}
use Rattle.device_sim.proofs.FoundAt.{found_is, more_pins}
use Rattle.device_sim.proofs.testing.test_pins.Goals as goal

pub loop-index-preserved : goal.loop-index-preserved
loop-index-preserved g c =
    let m = g.L.Logic.meaning c.args.logic.now in
    let within : c.loop-index.index < length c.args.chars.now = omega arith in
    let finds : found (is_on (bits 32 c.trace-shown.result.driven) (c.loop-index.index + 1)) (is_on (bits 32 c.trace-shown.result.level) (c.loop-index.index + 1)) ≡ found_at (logic_of m) (levels_of c.args.at.now) (c.loop-index.index + 1) =
    found_is m (levels_of c.args.at.now) (bits 32 c.trace-shown.result.driven) (bits 32 c.trace-shown.result.level) c.requires.pins c.trace-shown.ensures (c.loop-index.index + 1) (omega arith) in
    let more : c.test_pin.new.list.items ≡ c.loop-index.list.items ++ mismatch_at (logic_of m) (levels_of c.args.at.now) c.args.vector (c.loop-index.index + 1) (get_or c.args.chars.now c.loop-index.index 0) =
    rw finds at c.in_ok-test_pin.ensures in
    more_pins (logic_of m) (levels_of c.args.at.now) c.args.vector c.args.chars.now c.loop-index.index c.loop-index.list.items c.test_pin.new.list.items
    (c.args.list.now.items ++ vector_mismatches (logic_of m) (levels_of c.args.at.now) c.args.vector 1 c.args.chars.now) within more c.loop-index.invariant
