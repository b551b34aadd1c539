-- Names that are sound are placed and in order.
use Rattle.truth_tables.proofs.NamesInOrder.{sound_in_order}
use Rattle.compile_phases.proofs.PlacedNames.{sound_placed}
use Rattle.compile_phases.proofs.phases.scope_of.Goals as goal

pub new-requires-clause-placed : goal.new-requires-clause-placed
new-requires-clause-placed g c =
    sound_placed g.D.Device.table.name g.D.Device.table.pins c.args.names.now g.D.Device.sound.sizes.pins_high c.requires.source.1.sound

pub new-requires-clause-order : goal.new-requires-clause-order
new-requires-clause-order g c =
    sound_in_order g.D.Device.table.name g.D.Device.table.pins c.args.names.now c.requires.source.1.sound
