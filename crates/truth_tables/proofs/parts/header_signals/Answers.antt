use Rattle.truth_tables.proofs.Common.{IfOk-weaker, view, term_of}
use Rattle.truth_tables.proofs.parts.header_signals.Goals as goal

pub part_signals-requires : goal.part_signals-requires
part_signals-requires c = λ d is. record { term = term_of d.known (view c.args.header.now); is = c.part_of.ensures.part d is }

pub returns : goal.returns
returns c = IfOk-weaker c.part_signals.result _ _ (λ ss k d is. k d (term_of d.known (view c.args.header.now)) is (c.part_of.ensures.part d is)) c.part_signals.ensures
