-- What a scope asks for: names in order that have leaves.
use Rattle.netlist_rows.proofs.Common.{sound_in_order}
use Rattle.netlist_rows.proofs.PlacedNames.{sound_placed}
use Rattle.netlist_rows.proofs.drawing.sections_of.Goals as goal

pub scope_of-requires-clause-placed : goal.scope_of-requires-clause-placed
scope_of-requires-clause-placed g c =
    sound_placed g.D.Device.table.name g.D.Device.table.pins c.args.names.now g.D.Device.sound.sizes.pins_high c.requires.sound

pub scope_of-requires-clause-order : goal.scope_of-requires-clause-order
scope_of-requires-clause-order g c =
    sound_in_order g.D.Device.table.name g.D.Device.table.pins c.args.names.now c.requires.sound
