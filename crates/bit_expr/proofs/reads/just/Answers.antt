use Rattle.std.proofs.Common.{ap, ◌∙◌}
use Rattle.bit_expr.proofs.Common.{is_on}
use Rattle.bit_expr.proofs.LeafBits.{one_bit}
use Rattle.bit_expr.proofs.reads.just.Goals as goal

pub returns-in-Pin : goal.returns-in-Pin
returns-in-Pin c = rw c.in-Pin.is (record {
  pins = λ p below. ap (λ levels. is_on levels p) c.with_level.ensures ∙ one_bit 32 c.in-Pin.pin p (rw c.in-Pin.is at c.requires) below;
  q = c.nothing-none.ensures.q;
  nodes = c.nothing-none.ensures.nodes;
})

pub returns-in-Q : goal.returns-in-Q
returns-in-Q c = rw c.in-Q.is (record {
  pins = c.nothing-none.ensures.pins;
  q = λ d below. ap (λ levels. is_on levels d) c.with_level-in-Q.ensures ∙ one_bit 32 c.in-Q.cell d (rw c.in-Q.is at c.requires) below;
  nodes = c.nothing-none.ensures.nodes;
})

pub returns-in-Node : goal.returns-in-Node
returns-in-Node c = rw c.in-Node.is (record {
  pins = c.nothing-none.ensures.pins;
  q = c.nothing-none.ensures.q;
  nodes = λ n below. ap (λ values. is_on values n) c.with_value.ensures ∙ one_bit 128 c.in-Node.node n (rw c.in-Node.is at c.requires) below;
})
