-- The outputs of a header that isn't refused are checked against what was assigned before.
use Rattle.std.proofs.Common.{[], if◌then◌else◌, List, ◌++◌, map, refl, sym, ap, ap₂, ◌∙◌, subst, length, None, false}
use Rattle.truth_tables.proofs.Common.{is_some, entries_of, earlier, first_append, view, Context, context_of, expression_found, SumsUp, section_order, Aim, AreNamed, AreFirsts, aims_refused, manner_of, output_header, outputs_refused, some_aims}
use Rattle.truth_tables.proofs.HeaderLaws.{added_outputs, first, header_aims, refused_first}
use Rattle.truth_tables.proofs.OutputPositions.{header_named}
use Rattle.truth_tables.proofs.tables.read_header.Goals as goal

pub check_aims-requires : goal.check_aims-requires
check_aims-requires g c =
    let n = c.args.scope.now in
    let d : Context = context_of g.D.Device.table (entries_of n) in
    let added = c.in_ok-refused.ensures d (record { names = refl; known = refl }) in
    let aims = c.as_slice-2.ensures.value ∙ c.in_ok-aims.ensures ∙ ap (λ xs. if is_some c.in_ok-refused.refused then [] else some_aims xs) c.as_slice.ensures.value in
    subst (λ (ys : List Aim). AreNamed (length (entries_of n)) ys)
    (sym (header_aims added c.new-outputs.ensures.items _ aims)) (header_named d refl (view c.args.table.now.outputs))

pub returns-clause-header : goal.returns-clause-header
returns-clause-header g c d all is a =
    let t = c.args.table.now in
    let x = output_header d (view t.outputs) in
    let inputs = subst (λ es. SumsUp c.in_ok-inputs.inputs (expression_found es (view t.inputs))) (sym is.names) c.in_ok-inputs.ensures in
    let added = c.in_ok-refused.ensures d (record { names = is.names; known = is.known }) in
    let aims = c.as_slice-2.ensures.value ∙ c.in_ok-aims.ensures ∙ ap (λ xs. if is_some c.in_ok-refused.refused then [] else some_aims xs) c.as_slice.ensures.value in
    let mixed = c.in_ok-mixed.ensures.fault d all is a ∙ ap (λ (ys : List Aim). first (aims_refused d all None false t.clocked ys)) (header_aims added c.new-outputs.ensures.items _ aims) in
    record {
      fault = c.earlier.ensures
          ∙ ap₂ (earlier section_order) inputs.fault (c.earlier-fault.ensures ∙ ap₂ (earlier section_order) added.fault mixed ∙ refused_first d all t.clocked x)
          ∙ sym (first_append section_order (expression_found d.names (view t.inputs)).refusals (outputs_refused d all t.clocked x));
      outputs = c.from_vec.ensures ∙ added_outputs added c.new-outputs.ensures.items;
    }

pub returns-clause-before : goal.returns-clause-before
returns-clause-before g c d all is a =
    let added = c.in_ok-refused.ensures d (record { names = is.names; known = is.known }) in
    let aims = c.as_slice-2.ensures.value ∙ c.in_ok-aims.ensures ∙ ap (λ xs. if is_some c.in_ok-refused.refused then [] else some_aims xs) c.as_slice.ensures.value in
    subst (λ (ys : List Aim). AreFirsts c.check_aims.new.before (all ++ map (manner_of None false c.args.table.now.clocked) ys))
    (header_aims added c.new-outputs.ensures.items _ aims) (c.in_ok-mixed.ensures.before all a)
