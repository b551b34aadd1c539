-- Marks, and an entry that is refused.
use Rattle.std.proofs.Common.{Ok, Err, map, ap, refl, sym, subst, ◌∙◌}
use Rattle.abel_vectors.proofs.Common.{view_vector_row, context_for, BadVector, view_mark, IsOver, entries_refused, header_term, marks_refused, IsRowRead, entry_refused}
use Rattle.abel_vectors.proofs.FoundLaws.{both_read, first_alone}
use Rattle.abel_vectors.proofs.RowLaws.{row_read}
use Rattle.abel_vectors.proofs.rows.read_row.Goals as goal

pub returns-in_ok-vector-in-Ok : goal.returns-in_ok-vector-in-Ok
returns-in_ok-vector-in-Ok g c =
    let d = context_for g.D.Device.table c.args.on.now.scope.now in
    let over : IsOver c.args.on.now.scope.now d = record { names = refl; known = refl } in
    let h = c.args.header.now in
    let r = view_vector_row c.args.row.now in
    let i = header_term d h.section.now.inputs in
    let o = header_term d h.section.now.outputs in
    let entries = both_read (entry_refused d (BadVector r.place) i r.inputs) (entry_refused d (BadVector r.place) o r.outputs) _ _ c.marks_in.result c.marks_in-2.result (Ok (c.in-Ok.driven, c.in-Ok.tested))
    (c.marks_in.ensures d (BadVector r.place) i r.inputs (c.in_ok-driven.ensures d over)) (c.marks_in-2.ensures d (BadVector r.place) o r.outputs (c.in_ok-tested.ensures d over))
    c.in-Ok.ensures.read tt in
    subst (IsRowRead d h r) (sym c.ok_or.ensures.value)
    (row_read d h r _ _ c.in_ok-vector-in-Ok.vector c.requires entries.0
    (ap (map view_mark) c.as_slice.ensures.value ∙ entries.1.0) (ap (map view_mark) c.as_slice-in-Ok.ensures.value ∙ entries.1.1)
    c.in_ok-vector-in-Ok.ensures)

pub returns-in-Err : goal.returns-in-Err
returns-in-Err g c =
    let d = context_for g.D.Device.table c.args.on.now.scope.now in
    let over : IsOver c.args.on.now.scope.now d = record { names = refl; known = refl } in
    let h = c.args.header.now in
    let r = view_vector_row c.args.row.now in
    let i = header_term d h.section.now.inputs in
    let o = header_term d h.section.now.outputs in
    first_alone (entries_refused d i o r) (marks_refused d i o r) c.in-Err.fault
    (both_read (entry_refused d (BadVector r.place) i r.inputs) (entry_refused d (BadVector r.place) o r.outputs) _ _ c.marks_in.result c.marks_in-2.result (Err c.in-Err.fault)
    (c.marks_in.ensures d (BadVector r.place) i r.inputs (c.in_ok-driven.ensures d over)) (c.marks_in-2.ensures d (BadVector r.place) o r.outputs (c.in_ok-tested.ensures d over))
    tt c.in-Err.ensures.refused)

pub read_entry-requires : goal.read_entry-requires
read_entry-requires g c = c.requires.inputs

pub read_entry-requires-2 : goal.read_entry-requires-2
read_entry-requires-2 g c = c.requires.outputs
