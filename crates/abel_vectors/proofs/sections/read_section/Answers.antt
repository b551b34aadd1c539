-- A header in which nothing is refused, and one that is refused.
use Rattle.std.proofs.Common.{◌≡◌, Bool, List, [], ◌∷◌, Ok, Err, map, ap, refl, sym, ◌∙◌, subst}
use Rattle.abel_vectors.proofs.Common.{on_ok_weaker, BadVector, SectionFault, names_pins, term_of, first_refusal, section_order, view, view_vector_row, section_vectors, context_for, IsOver, header_term, view_vectors, header_refused, rows_refused, side_refused, Finds, expression_found, unless_met}
use Rattle.abel_vectors.proofs.FoundLaws.{behind_none, both_read, first_alone}
use Rattle.section_targets.proofs.Built.{left_empty, right_empty}
use Rattle.abel_vectors.proofs.sections.read_section.Goals as goal

-- of what is met nothing is refused
met_clear : (rs : List SectionFault) (r : SectionFault) (b : Bool) → unless_met rs r b ≡ [] → rs ≡ []
met_clear [] r b e = refl
met_clear (x ∷ xs) r b e = absurd cc

pub read_rows-requires : goal.read_rows-requires
read_rows-requires g c =
    let d = context_for g.D.Device.table c.args.on.now.scope.now in
    let over : IsOver c.args.on.now.scope.now d = record { names = refl; known = refl } in
    let v = c.args.section.now in
    let sides = both_read (side_refused d v.place (view v.inputs)) (side_refused d v.place (view v.outputs)) _ _ c.in_ok-inputs.inputs c.in_ok-outputs.outputs (Ok (c.in-Ok.driven, c.in-Ok.tested))
    (c.in_ok-inputs.ensures d over) (c.in_ok-outputs.ensures d over)
    c.in-Ok.ensures.read tt in
    let ins = side_refused d v.place (view v.inputs) in
    let outs = side_refused d v.place (view v.outputs) in
    record {
      inputs = ap (first_refusal section_order) (met_clear (expression_found d.names (view v.inputs)).refusals (BadVector v.place) (names_pins d (term_of d.known (view v.inputs))) (left_empty ins outs sides.0));
      outputs = ap (first_refusal section_order) (met_clear (expression_found d.names (view v.outputs)).refusals (BadVector v.place) (names_pins d (term_of d.known (view v.outputs))) (right_empty ins outs sides.0));
      driven = c.as_slice.ensures.value ∙ sides.1.0;
      tested = c.as_slice-in-Ok.ensures.value ∙ sides.1.1;
    }

pub returns-in-Ok : goal.returns-in-Ok
returns-in-Ok g c =
    let d = context_for g.D.Device.table c.args.on.now.scope.now in
    let over : IsOver c.args.on.now.scope.now d = record { names = refl; known = refl } in
    let v = c.args.section.now in
    let sides = both_read (side_refused d v.place (view v.inputs)) (side_refused d v.place (view v.outputs)) _ _ c.in_ok-inputs.inputs c.in_ok-outputs.outputs (Ok (c.in-Ok.driven, c.in-Ok.tested))
    (c.in_ok-inputs.ensures d over) (c.in_ok-outputs.ensures d over)
    c.in-Ok.ensures.read tt in
    on_ok_weaker c.read_rows.result
    (λ finds n room.
    subst (λ rs. Finds d.device rs (section_vectors d (view_vectors v)) c.args.found.now c.read_rows.new.found)
    (sym (behind_none (header_refused d v.place (view v.inputs) (view v.outputs)) (rows_refused d n (header_term d v.inputs) (header_term d v.outputs) (map view_vector_row v.rows)) sides.0))
    (finds n room))
    c.read_rows.ensures

pub returns-in-Err : goal.returns-in-Err
returns-in-Err g c n room =
    let d = context_for g.D.Device.table c.args.on.now.scope.now in
    let over : IsOver c.args.on.now.scope.now d = record { names = refl; known = refl } in
    let v = c.args.section.now in
    c.refuse.ensures d.device _ (section_vectors d (view_vectors v))
    (first_alone (header_refused d v.place (view v.inputs) (view v.outputs)) (rows_refused d n (header_term d v.inputs) (header_term d v.outputs) (map view_vector_row v.rows)) c.in-Err.fault
    (both_read (side_refused d v.place (view v.inputs)) (side_refused d v.place (view v.outputs)) _ _ c.in_ok-inputs.inputs c.in_ok-outputs.outputs (Err c.in-Err.fault)
    (c.in_ok-inputs.ensures d over) (c.in_ok-outputs.ensures d over)
    tt c.in-Err.ensures.refused))
