use Rattle.covers.proofs.ExpandedRows.{slice_kept}
use Rattle.covers.proofs.off.off_cubes.Goals as goal

pub find_off-requires-clause-below : goal.find_off-requires-clause-below
find_off-requires-clause-below c = rw (slice_kept c.args.pool.now.cubes c.loop.pool.cubes c.args.allowed.from c.args.allowed.to c.loop.invariant.kept c.requires.allowed.1) c.requires.below

pub returns-clause-off : goal.returns-clause-off
returns-clause-off c = rw (← slice_kept c.args.pool.now.cubes c.loop.pool.cubes c.args.allowed.from c.args.allowed.to c.loop.invariant.kept c.requires.allowed.1) c.loop.invariant.found.is
