-- The second file is refused, and the first is a good one.
use Rattle.std.proofs.Common.{inr}
use Rattle.abel_commands.proofs.Common.{contents, SecondFile}
use Rattle.abel_commands.proofs.compare_command.ending_for.Goals as goal

pub returns-in-Refused-2 : goal.returns-in-Refused-2
returns-in-Refused-2 g c =
    let good = rw c.in-File.is at c.in_ok-file.ensures in
    inr (inr (
      c.in-Refused-2.line.items,
      SecondFile (contents g.D.Device.table c.in-File.file, good.0) (rw c.in-Refused-2.is at c.in_ok-file-2.ensures),
      c.plain-in-Refused-2.ensures,
    ))
