-- The enables of the parts are those of the sections.
use Rattle.std.proofs.Common.{ap, ◌∙◌}
use Rattle.placer.proofs.Common.{flat_map, list_any, view_module, parts_of}
use Rattle.placer.specs.PartReads.{enables_it}
use Rattle.placer.proofs.SomeEnable.{all_viewed, some_enable}
use Rattle.placer.proofs.parts.has_enables.Goals as goal

pub returns : goal.returns
returns c =
    c.any_enable.ensures
    ∙ (all_viewed c.sections.result.now
    ∙ (ap (λ ys. list_any enables_it (flat_map parts_of ys)) c.sections.ensures ∙ some_enable (view_module c.args.source.now).sections))
