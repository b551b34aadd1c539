use Rattle.std.proofs.Common.{◌≡◌, ap, ◌∙◌}
use Rattle.placer.proofs.Common.{IfOk-weaker, item_at}
use Rattle.placer.proofs.naming.item_of.Goals as goal

pub returns : goal.returns
returns c = IfOk-weaker c.item_at.result _ _ (λ i is. is ∙ ap (λ n. item_at c.args.name.now.place n c.args.name.now.negated) c.as_slice.ensures.value) c.item_at.ensures
