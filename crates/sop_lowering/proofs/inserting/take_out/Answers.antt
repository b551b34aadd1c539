use Rattle.std.proofs.Common.{rules, not}
use Rattle.sop_lowering.proofs.Common.{lies_in}
use Rattle.std.proofs.lemmas.Fn.{filter_same}
use Rattle.sop_lowering.proofs.inserting.take_out.Goals as goal

pub returns : goal.returns
returns c = filter_same _ (λ d. not (lies_in d c.args.cube)) _ (λ x b q k. search rules) _ _ c.retain.ensures.filtered
