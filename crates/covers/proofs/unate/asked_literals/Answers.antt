use Rattle.covers.proofs.Common.{full_cube}
use Rattle.covers.proofs.UnateLaws.{asked_all, asked_more, asked_none}
use Rattle.covers.proofs.unate.asked_literals.Goals as goal

pub loop-cube-init : goal.loop-cube-init
loop-cube-init c = asked_none c.full-asked.result c.slice-cube-items.result.now c.full-asked.ensures.is

pub loop-cube-preserved : goal.loop-cube-preserved
loop-cube-preserved c = asked_more c.loop-cube.asked c.slice-cube-items.result.now c.loop-cube.cube-index full_cube c.loop-cube-test.true c.loop-cube.invariant

pub returns : goal.returns
returns c = rw (← c.slice-cube-items.ensures) (asked_all c.loop-cube.asked c.slice-cube-items.result.now c.loop-cube.cube-index c.loop-cube-test.false c.loop-cube.invariant)
