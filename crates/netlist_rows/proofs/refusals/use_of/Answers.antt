-- What a scope asks for: names in order that have leaves.
use Rattle.std.proofs.Common.{arith}
use Rattle.netlist_rows.proofs.Common.{sample, sound_in_order}
use Rattle.netlist_rows.proofs.PlacedNames.{sound_placed}
use Rattle.netlist_rows.proofs.refusals.use_of.Goals as goal

pub scope_of-requires-clause-placed : goal.scope_of-requires-clause-placed
scope_of-requires-clause-placed c = sound_placed sample.name sample.pins c.args.names.now (omega arith) c.requires.sound

pub scope_of-requires-clause-order : goal.scope_of-requires-clause-order
scope_of-requires-clause-order c = sound_in_order sample.name sample.pins c.args.names.now c.requires.sound
