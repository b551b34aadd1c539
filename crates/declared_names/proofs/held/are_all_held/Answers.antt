-- What the parts of the sections hold is what the sections do.
use Rattle.std.proofs.Common.{ap, ◌∙◌}
use Rattle.declared_names.proofs.Common.{list_any, view_module, section_shares}
use Rattle.declared_names.proofs.HeldMarks.{parts_share, sections_share}
use Rattle.declared_names.proofs.held.are_all_held.Goals as goal

pub returns : goal.returns
returns c =
    c.any_shared.ensures ∙ (parts_share c.sections.result.now ∙ (ap (list_any section_shares) c.sections.ensures ∙ sections_share (view_module c.args.source.now).sections))
