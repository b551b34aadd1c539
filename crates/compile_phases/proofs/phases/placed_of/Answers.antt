-- What is refused is refused of this module.
use Rattle.compile_phases.proofs.Common.{view_module}
use Rattle.compile_phases.proofs.phases.placed_of.Goals as goal

pub unplaced-requires : goal.unplaced-requires
unplaced-requires g c = (g.D.Device.table, view_module c.args.source, c.requires.entries, c.in-Err.ensures.refused)
