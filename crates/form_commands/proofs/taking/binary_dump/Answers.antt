-- What the binary form says is a dump, if the fuses are in the device's mode; else the number that is wrong is reported.
use Rattle.form_commands.specs.DumpLines.{WrongCount, WrongLength}
use Rattle.form_commands.proofs.taking.binary_dump.Goals as goal

pub returns-in-File : goal.returns-in-File
returns-in-File g c =
    let read = rw c.in-File.is at c.in_ok-read.ensures in
    c.in_mode.ensures c.args.mends c.args.bytes.now (c.requires.binary, read.0)

pub returns-in_ok-wrong_count_line-in-WrongCount : goal.returns-in_ok-wrong_count_line-in-WrongCount
returns-in_ok-wrong_count_line-in-WrongCount g c =
    let read = rw c.in-WrongCount.is at c.in_ok-read.ensures in
    (WrongCount c.in-WrongCount.count, (c.requires.binary, read.0, read.1), c.in_ok-wrong_count_line-in-WrongCount.ensures)

pub returns-in_ok-wrong_length_line-in-WrongLength : goal.returns-in_ok-wrong_length_line-in-WrongLength
returns-in_ok-wrong_length_line-in-WrongLength g c =
    let read = rw c.in-WrongLength.is at c.in_ok-read.ensures in
    (WrongLength c.in-WrongLength.read c.in-WrongLength.wanted, (c.requires.binary, read.0, read.1, read.2, read.3), c.in_ok-wrong_length_line-in-WrongLength.ensures)
