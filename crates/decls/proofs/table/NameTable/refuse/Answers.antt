-- The running first refusal is the first of the list.
use Rattle.std.proofs.Common.{◌∙◌}
use Rattle.decls.proofs.Entered.{refused_first}
use Rattle.decls.proofs.table.NameTable.refuse.Goals as goal

pub returns : goal.returns
returns c = λ t s sh. record {
  pins = sh.pins;
  ground = sh.ground;
  rows = sh.rows;
  device = sh.device;
  nodes = sh.nodes;
  taken = sh.taken;
  waiting = sh.waiting;
  first = refused_first s.faults c.args.fault c.take-before.result c.first_of.result (c.take-before.ensures.value ∙ sh.first) c.first_of.ensures;
}
