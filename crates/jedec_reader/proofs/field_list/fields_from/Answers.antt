use Rattle.std.proofs.Common.{arith}
use Rattle.jedec_reader.proofs.Common.{err_from_is_err_and, fields_from, pieces}
use Rattle.jedec_reader.proofs.FieldLoop.{goes_on, refuses_field, is_done, refuses_end}
use Rattle.jedec_reader.proofs.field_list.fields_from.Goals as goal

pub loop-length-preserved : goal.loop-length-preserved
loop-length-preserved g c =
    let table = g.D.Device.table in
    let whole = fields_from table c.args.at (pieces c.args.text.now) in
    let cut = c.in-Some.ensures in
    let read = rw c.split_at.ensures.front at c.in_ok-field.ensures in
    record {
      said = rw (c.in_ok-push.ensures.items, c.split_at-in-Some.ensures.back) (goes_on table c.loop-length.fields.items c.loop-length.place c.in-Some.length c.loop-length.rest.now whole cut.within cut.pieces c.loop-length.invariant.said c.in_ok-field.field read);
      place = omega (arith, c.split_at-in-Some.ensures.back_len, c.loop-length.invariant.place);
    }

pub returns-in_err-field : goal.returns-in_err-field
returns-in_err-field g c =
    let table = g.D.Device.table in
    let whole = fields_from table c.args.at (pieces c.args.text.now) in
    let cut = c.in-Some.ensures in
    let read = rw c.split_at.ensures.front at c.in_err-field.ensures in
    let passed = err_from_is_err_and c.from_residual.result c.from_residual.ensures.1 in
    rw (passed.1, passed.2) (refuses_field table c.loop-length.fields.items c.loop-length.place c.in-Some.length c.loop-length.rest.now whole cut.within cut.pieces c.loop-length.invariant.said c.in_err-field.field-0.0 read)

pub returns-in_err-ends_blank : goal.returns-in_err-ends_blank
returns-in_err-ends_blank g c =
    let table = g.D.Device.table in
    let whole = fields_from table c.args.at (pieces c.args.text.now) in
    let passed = err_from_is_err_and c.from_residual-in_err-ends_blank.result c.from_residual-in_err-ends_blank.ensures.1 in
    rw (passed.1, passed.2) (refuses_end table c.loop-length.fields.items c.loop-length.place c.loop-length.rest.now whole c.in_default.ensures.pieces c.loop-length.invariant.said c.in_err-ends_blank.field-0.0 c.in_err-ends_blank.ensures)

pub returns : goal.returns
returns g c =
    let table = g.D.Device.table in
    let whole = fields_from table c.args.at (pieces c.args.text.now) in
    is_done table c.loop-length.fields.items c.loop-length.place c.loop-length.rest.now whole c.in_default.ensures.pieces c.loop-length.invariant.said c.in_ok-ends_blank.ensures
