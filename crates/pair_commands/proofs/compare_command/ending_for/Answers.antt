-- The first file is refused; or the second one, and the first is a good one.
use Rattle.std.proofs.Common.{inr}
use Rattle.jedec_reader.specs.Contents.{contents}
use Rattle.pair_commands.specs.CompareCommand.{FirstFile, SecondFile}
use Rattle.pair_commands.proofs.compare_command.ending_for.Goals as goal

pub returns-in-Refused : goal.returns-in-Refused
returns-in-Refused g c = inr (inr (c.in-Refused.line.items, FirstFile (rw c.in-Refused.is at c.in_ok-file.ensures), c.plain.ensures))

pub returns-in-Refused-2 : goal.returns-in-Refused-2
returns-in-Refused-2 g c =
    let good = rw c.in-File.is at c.in_ok-file.ensures in
    inr (inr (
      c.in-Refused-2.line.items,
      SecondFile (contents g.F.Device.table c.in-File.file, good.0) (rw c.in-Refused-2.is at c.in_ok-file-2.ensures),
      c.plain-in-Refused-2.ensures,
    ))

pub returns : goal.returns
returns g c =
    let first = rw c.in-File.is at c.in_ok-file.ensures in
    let second = rw c.in-File-2.is at c.in_ok-file-2.ensures in
    c.ending_of.ensures c.args.a.now c.args.b.now first.0 second.0
