-- A name is seen as its entry.
use Rattle.std.proofs.Common.{sym, ◌∙◌}
use Rattle.abel_meaning.specs.Controls.{is_on_pin}
use Rattle.abel_tree.specs.Entries.{Entry, view_declared}
use Rattle.model_choice.proofs.Mapped.{position_mapped}
use Rattle.model_choice.proofs.reads.signal_on.Goals as goal

pub returns : goal.returns
returns c = c.name_on.ensures ∙ sym (position_mapped (λ (x : Entry). is_on_pin c.args.pin x.kind) view_declared c.args.names.now)
