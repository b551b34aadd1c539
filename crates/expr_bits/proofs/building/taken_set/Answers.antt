-- A set is taken as it is.
use Rattle.expr_bits.proofs.Common.{top}
use Rattle.expr_bits.proofs.Turns.{set_empty, set_kept}
use Rattle.expr_bits.proofs.building.taken_set.Goals as goal

pub returns-in-Set-clause-top : goal.returns-in-Set-clause-top
returns-in-Set-clause-top c fs ps a = set_kept fs c.taken-value.result (top ps) c.in-Set.is (c.taken-value.ensures.top fs ps a)

pub returns-in_default-clause-top : goal.returns-in_default-clause-top
returns-in_default-clause-top c fs ps a =
    set_empty fs c.taken-value.result c.empty_set.result (top ps) c.in_default.not-Set (c.taken-value.ensures.top fs ps a) (c.empty_set.ensures.bits fs)
