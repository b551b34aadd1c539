-- The first free cells are chosen.
use Rattle.std.proofs.Common.{map, take, ap, ap₂, ◌∙◌}
use Rattle.abel_meaning.specs.Models.{set_of}
use Rattle.abel_tree.specs.Entries.{is_stored, view_declared}
use Rattle.model_choice.proofs.choosing.registered_cells.Goals as goal

pub returns : goal.returns
returns c =
    c.set_of.ensures
    ∙ ap (set_of c.args.top is_stored (map view_declared c.args.names.now))
    (c.as_slice.ensures.value ∙ (c.truncate.ensures.items ∙ ap₂ take c.count_registers.ensures c.in_ok-chosen.ensures))
