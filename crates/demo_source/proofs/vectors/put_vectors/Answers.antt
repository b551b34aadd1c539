use Rattle.std.proofs.Common.{◌≡◌, option_map, length, arith}
use Rattle.demo_source.proofs.Common.{levels_of, logic_of, level_drawn, machine}
use Rattle.demo_source.proofs.Lines.{length-many, one_more, all_lines}
use Rattle.demo_source.proofs.vectors.put_vectors.Goals as goal

pub pulsed-at-requires : goal.pulsed-at-requires
pulsed-at-requires c =
    let ten : length c.in_ok-inputs.inputs.items ≡ 10 = rw c.in_ok-inputs.ensures.inputs (length-many level_drawn 1 10 c.loop.draws.state) in
    omega (arith, ten)

pub loop-preserved : goal.loop-preserved
loop-preserved c =
    rw (c.in_ok-put_vector.ensures, c.deref-in-loop.ensures.value, c.in_ok-inputs.ensures.moved)
    (one_more (logic_of (machine c.args.of.now.equations.now)) 1000 c.args.draws.now.state c.args.out.now.items c.loop.out.items
    (option_map levels_of c.loop.before) c.loop.draws.state c.loop.counter c.in_ok-inputs.inputs.items (levels_of c.pulsed-at.result)
    c.loop.invariant (omega (arith, c.loop-test.true)) c.in_ok-inputs.ensures.inputs (rw c.deref.ensures.value at c.pulsed-at.ensures))

pub returns : goal.returns
returns c =
    all_lines (logic_of (machine c.args.of.now.equations.now)) 1000 c.args.draws.now.state c.args.out.now.items c.loop.out.items
    (option_map levels_of c.loop.before) c.loop.draws.state c.loop.counter c.loop.invariant (omega (arith, c.loop-test.false, c.loop.auto.counter-end))
