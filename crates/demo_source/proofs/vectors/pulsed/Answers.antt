use Rattle.demo_source.proofs.Common.{levels_of}
use Rattle.demo_source.proofs.vectors.pulsed.Goals as goal

pub returns : goal.returns
returns c = record {
  first = levels_of c.point_after-first.result;
  turned = levels_of c.point_after-turned.result;
  comes = rw (← c.outside_of-low.ensures) c.point_after-first.ensures;
  turns = rw (← c.outside_of.ensures) c.point_after-turned.ensures;
  turns_back = rw (← c.outside_of-low.ensures) c.point_after.ensures;
}
