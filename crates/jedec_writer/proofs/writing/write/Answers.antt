use Rattle.std.proofs.Common.{rules}
use Rattle.jedec_writer.proofs.FileLengths.{file_is_short}
use Rattle.jedec_writer.proofs.RoundTrip.{vectors_read_back}
use Rattle.jedec_writer.proofs.writing.write.Goals as goal

pub returns-clause-reads_back : goal.returns-clause-reads_back
returns-clause-reads_back g c =
    let t = g.D.Device.table in
    let back = vectors_read_back t g.D.Device.sound
    c.args.name.now c.requires.name c.args.fuses.now c.requires.size c.requires.lines
    c.args.vectors.now c.requires.few in
    search rules

pub returns-clause-short : goal.returns-clause-short
returns-clause-short g c = λ few.
    let t = g.D.Device.table in
    let most = file_is_short t c.args.name.now c.args.fuses.now c.args.vectors.now g.D.Device.sound c.requires.size c.requires.few few in
    search rules
