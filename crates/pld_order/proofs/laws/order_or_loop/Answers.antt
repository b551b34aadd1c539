use Rattle.pld_order.proofs.OneOfBoth.{not_both, one_or_other}
use Rattle.pld_order.proofs.laws.order_or_loop.Goals as goal

pub returns-clause-either : goal.returns-clause-either
returns-clause-either c count reads = one_or_other count reads

pub returns-clause-order : goal.returns-clause-order
returns-clause-order c count reads ordered chain is = not_both count reads ordered.0 chain ordered.1 is

pub returns-clause-chain : goal.returns-clause-chain
returns-clause-chain c count reads looped order ordered = not_both count reads order looped.0 ordered looped.1
