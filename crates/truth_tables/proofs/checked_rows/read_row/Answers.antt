-- A row by its arrow and both entries.
use Rattle.std.proofs.Common.{◌≡◌, ◌++◌, Bool, true, false, not, None, refl, ap, ap₂, sym, ◌∙◌}
use Rattle.truth_tables.proofs.Common.{beq, then_some, is_some, earlier, first_append, view, term_of, SectionFault, BadRow, section_order, both_clear, arrow_refused, level_refused}
use Rattle.truth_tables.proofs.HeaderLaws.{first}
use Rattle.truth_tables.proofs.checked_rows.read_row.Goals as goal

arrow_first : (a b : Bool) (r : SectionFault) → then_some (not (beq b a)) r ≡ first (arrow_refused r a b)
arrow_first true false r = refl
arrow_first false true r = refl
arrow_first _ _ r = refl

pub returns : goal.returns
returns c d is =
    let t = c.args.table.now in
    let row = c.args.row.now in
    let i = term_of d.known (view t.inputs) in
    let o = term_of d.known (view t.outputs) in
    let ins = c.in_ok-inputs.ensures d is in
    let outs = c.in_ok-outputs.ensures d is in
    let us = level_refused d (BadRow row.place) i (view row.inputs) in
    let vs = level_refused d (BadRow row.place) o (view row.outputs) in
    let entries = λ (e : c.earlier.result ≡ None).
    both_clear c.in_ok-inputs.inputs.fault c.in_ok-outputs.outputs.fault
    (ap is_some (sym c.earlier-entries.ensures ∙ (both_clear c.then_some-arrow.result c.earlier-entries.result (ap is_some (sym c.earlier.ensures ∙ e))).1)) in
    record {
      place = refl;
      fault = c.earlier.ensures
          ∙ ap₂ (earlier section_order) (c.then_some-arrow.ensures ∙ arrow_first t.clocked row.clocked (BadRow row.place))
          (c.earlier-entries.ensures ∙ ap₂ (earlier section_order) ins.fault outs.fault ∙ sym (first_append section_order us vs))
          ∙ sym (first_append section_order (arrow_refused (BadRow row.place) t.clocked row.clocked) (us ++ vs));
      inputs_given = λ e. ins.given (entries e).0;
      outputs_given = λ e. outs.given (entries e).1;
    }
