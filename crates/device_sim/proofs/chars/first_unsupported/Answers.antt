use Rattle.std.proofs.Common.{◌+◌, sym, ◌∙◌, ap}
use Rattle.device_sim.proofs.Common.{position, is_unsupported}
use Rattle.device_sim.proofs.FirstUnsupported.{found_first, found_later}
use Rattle.device_sim.proofs.chars.first_unsupported.Goals as goal

pub returns-in-Some : goal.returns-in-Some
returns-in-Some c =
    sym (c.loop-index.invariant
    ∙ found_first c.args.pins c.args.vectors.now c.loop-index.index _ c.loop-index-test.true (c.loop-index.index + 1) c.in-Some.place
    (ap (position is_unsupported) (sym c.chars_of.ensures) ∙ (sym c.first_place.ensures ∙ c.in-Some.is)))

pub loop-index-preserved : goal.loop-index-preserved
loop-index-preserved c =
    c.loop-index.invariant
    ∙ found_later c.args.pins c.args.vectors.now c.loop-index.index _ c.loop-index-test.true (c.loop-index.index + 1)
    (ap (position is_unsupported) (sym c.chars_of.ensures) ∙ (sym c.first_place.ensures ∙ c.in_default.is))
