use Rattle.std.proofs.Common.{◌++◌, ◌∙◌, ap, ap₂, take}
use Rattle.section_targets.proofs.SignalLists.{side_joined}
use Rattle.section_targets.proofs.sides.Side.with.Goals as goal

pub returns : goal.returns
returns c count x y h k =
    side_joined count c.args.self c.args.other.now _ x y h k c.earlier.ensures
    (c.from_vec.ensures ∙ c.truncate.ensures.items ∙ ap (take 33) (c.in_ok-extend_from_slice.ensures.items ∙ ap₂ (λ us vs. us ++ vs) c.into_vec-aims.ensures c.as_slice.ensures))
