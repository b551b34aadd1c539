use Rattle.jedec_reader.proofs.Common.{err_from_is_err_and, contents_of, file_of, contents, fields_in}
use Rattle.jedec_reader.proofs.FileSteps.{fields_refused, fields_read}
use Rattle.jedec_reader.proofs.Steps.{refuses_with, gives_ok, gives_err}
use Rattle.jedec_reader.proofs.reading.read.Goals as goal

pub returns-in_err-fields-clause-refused : goal.returns-in_err-fields-clause-refused
returns-in_err-fields-clause-refused g c =
    let t = g.D.Device.table in
    let p = err_from_is_err_and c.from_residual.result c.from_residual.ensures.1 in
    rw (p.1, p.2) (refuses_with c.in_err-fields.field-0.0 (fields_in t c.args.bytes.now) (file_of t c.args.bytes.now) (fields_refused t c.args.bytes.now) c.in_err-fields.ensures.fields)

pub returns-clause-file : goal.returns-clause-file
returns-clause-file g c =
    let t = g.D.Device.table in
    let read = fields_read t c.args.bytes.now c.in_ok-fields.fields.items c.in_ok-fields.ensures.fields in
    rw (read, ← c.deref.ensures.value) (gives_ok (contents t) c.contents.result (contents_of t c.deref.result.now) c.contents.ensures.file)

pub returns-clause-refused : goal.returns-clause-refused
returns-clause-refused g c =
    let t = g.D.Device.table in
    let read = fields_read t c.args.bytes.now c.in_ok-fields.fields.items c.in_ok-fields.ensures.fields in
    rw (read, ← c.deref.ensures.value) (gives_err (contents t) c.contents.result (contents_of t c.deref.result.now) c.contents.ensures.file)
