use Rattle.spliced_files.proofs.FrameText.{text_has_no_end}
use Rattle.spliced_files.proofs.SplicedFile.{file_reads}
use Rattle.spliced_files.proofs.splicing.spliced.Goals as goal

pub spliced_text-requires-clause-text : goal.spliced_text-requires-clause-text
spliced_text-requires-clause-text g c = text_has_no_end c.args.bytes.now (record { at = c.in_ok-_at._at; text = c.in_ok-_at.text.now }) c.in_ok-_at.ensures.gives

pub returns-clause-reads : goal.returns-clause-reads
returns-clause-reads g c = λ pins file is.
    file_reads g.F.Device.table g.T.Device.table pins g.T.Device.sound c.args.fuses.now c.requires.size c.requires.lines
    c.args.bytes.now c.in_ok-_at.text.now c.in_ok-out.out.items c.in_ok-_at._at file c.in_ok-_at.ensures.gives c.in_ok-out.ensures is
