-- A name is seen as its entry.
use Rattle.std.proofs.Common.{◌&&◌, sym, ◌∙◌}
use Rattle.abel_meaning.specs.Controls.{is_on_pin}
use Rattle.abel_tree.specs.Entries.{Entry, view_declared}
use Rattle.model_choice.specs.Wanted.{is_wanted}
use Rattle.model_choice.proofs.Mapped.{any_mapped}
use Rattle.model_choice.proofs.cells.has_wanted.Goals as goal

pub returns : goal.returns
returns c = c.any_wanted.ensures ∙ sym (any_mapped (λ (x : Entry). is_wanted c.args.wanted x && is_on_pin c.args.pin x.kind) view_declared c.args.names.now)
