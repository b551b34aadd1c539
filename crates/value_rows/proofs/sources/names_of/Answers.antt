-- Names in which each pin has a number are sound.
use Rattle.std.proofs.Common.{sym, ◌∙◌}
use Rattle.truth_tables.proofs.NamesInOrder.{sound_in_order}
use Rattle.value_rows.proofs.PlacedNames.{sound_placed}
use Rattle.value_rows.proofs.sources.names_of.Goals as goal

pub returns-then-are_numbered-clause-order : goal.returns-then-are_numbered-clause-order
returns-then-are_numbered-clause-order g c =
    sound_in_order g.D.Device.table.name g.D.Device.table.pins c.in-Ok-declare.names
    (c.numbered_names.ensures.sound g.D.Device.table.name g.D.Device.table.pins c.in-Ok-declare.names c.in-Ok-declare.ensures.sound (sym c.are_numbered.ensures ∙ c.if-are_numbered.true))

pub returns-then-are_numbered-clause-placed : goal.returns-then-are_numbered-clause-placed
returns-then-are_numbered-clause-placed g c =
    sound_placed g.D.Device.table.name g.D.Device.table.pins c.in-Ok-declare.names g.D.Device.sound.sizes.pins_high
    (c.numbered_names.ensures.sound g.D.Device.table.name g.D.Device.table.pins c.in-Ok-declare.names c.in-Ok-declare.ensures.sound (sym c.are_numbered.ensures ∙ c.if-are_numbered.true))
