-- The file's vectors are simulated, so only memory can be missing.
use Rattle.abel_commands.proofs.Common.{contents}
use Rattle.abel_commands.proofs.DemoFiles.{not_refused}
use Rattle.abel_commands.proofs.demo.run_of.Goals as goal

pub unreachable-requires : goal.unreachable-requires
unreachable-requires g c = not_refused g.D.Device.table (contents g.D.Device.table c.args.file.now) c.in-Err.fault c.requires.can c.in-Err.ensures.refused c.in_default.not-OutOfMemory
