-- A name is seen as its entry.
use Rattle.std.proofs.Common.{sym, ◌∙◌}
use Rattle.abel_tree.specs.Entries.{is_stored, view_declared}
use Rattle.model_choice.proofs.Mapped.{any_mapped}
use Rattle.model_choice.proofs.choosing.has_register.Goals as goal

pub returns : goal.returns
returns c = c.any_register.ensures ∙ sym (any_mapped is_stored view_declared c.args.names.now)
