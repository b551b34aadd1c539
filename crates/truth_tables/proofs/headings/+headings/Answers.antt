-- What each variant is refused as, and one member or name more.
use Rattle.std.proofs.Common.{◌≡◌, ◌+◌, ◌-◌, None, Some, length, refl, ap, ap₂, sym, ◌∙◌, subst, map, arith}
use Rattle.truth_tables.proofs.Common.{length-append, IfOk-weaker, sample, AName, ASet, members_of, view, view_member, NotAnOutput, first_place, context_for, find, range_names, name_items, found_in, view_name, view_set, view_span, view_binary, header_name, header_range, header_set, output_header, output_member, output_members, IsAdded}
use Rattle.section_targets.specs.TargetSignals.{first_name}
use Rattle.truth_tables.proofs.HeaderLaws.{added_all, added_on, added_refused, added_whole}
use Rattle.truth_tables.proofs.ReadLaws.{rest_more}
use Rattle.truth_tables.proofs.RowsWalked.{is_over}
use Rattle.truth_tables.proofs.headings.+headings.Goals as goal

pub push_outputs-returns-in-Some : goal.push_outputs-returns-in-Some
push_outputs-returns-in-Some t c d is =
    let w = c.in-Name.word in
    added_refused d _ (AName w (Some c.in-Some.field-0)) _ _ c.args.outputs.now.items
    (ap view c.in-Name.is ∙ view_name w c.in-Name.extension ∙ ap (AName w) c.in-Some.is) refl
    (ap (NotAnOutput w.place) (found_in _ is.names c.number_of-number.ensures ∙ ap (find d.names) c.bytes.ensures))

pub push_outputs-returns-in-None : goal.push_outputs-returns-in-None
push_outputs-returns-in-None t c =
    IfOk-weaker c.push_name.result _ _
    (λ f k d is.
    let w = c.in-Name.word in
    let old = c.args.outputs.now.items in
    let now = c.push_name.new.outputs.items in
    subst (λ e. IsAdded (output_header d e) f old now) (sym (ap view c.in-Name.is ∙ view_name w c.in-Name.extension ∙ ap (AName w) c.in-None.is))
    (subst (λ text. IsAdded (header_name d w.place text) f old now) c.bytes-in-None.ensures (k d is)))
    c.push_name.ensures

pub push_outputs-returns-in-Some-extension : goal.push_outputs-returns-in-Some-extension
push_outputs-returns-in-Some-extension t c d is =
    let ms = members_of (map view_member c.in-Set.members) in
    added_refused d _ (ASet c.in-Set.place ms (Some c.in-Some-extension.field-0)) _ _ c.args.outputs.now.items
    (ap view c.in-Set.is ∙ view_set c.in-Set.place c.in-Set.members c.in-Set.extension ∙ ap (ASet c.in-Set.place ms) c.in-Some-extension.is) refl refl

pub push_outputs-returns-in-None-extension : goal.push_outputs-returns-in-None-extension
push_outputs-returns-in-None-extension t c =
    IfOk-weaker c.push_set.result _ _
    (λ f k d is.
    let old = c.args.outputs.now.items in
    let now = c.push_set.new.outputs.items in
    subst (λ e. IsAdded (output_header d e) f old now)
    (sym (ap view c.in-Set.is ∙ view_set c.in-Set.place c.in-Set.members c.in-Set.extension ∙ ap (λ e. ASet c.in-Set.place (members_of (map view_member c.in-Set.members)) e) c.in-None-extension.is))
    (subst (λ ms. IsAdded (header_set c.in-Set.place (output_members d (members_of (map view_member ms)))) f old now) c.as_slice.ensures (k d is)))
    c.push_set.ensures

pub push_outputs-returns-in-Binary : goal.push_outputs-returns-in-Binary
push_outputs-returns-in-Binary t c d is =
    let v = ap view c.in-Binary.is ∙ view_binary c.in-Binary.sign c.in-Binary.place c.in-Binary.left c.in-Binary.right in
    added_refused d _ _ _ _ c.args.outputs.now.items v refl
    (c.refuse_operator.ensures ∙ ap (λ es. NotAnOutput (first_place (view c.args.expr.now)) (first_name es (view c.args.expr.now))) (sym is.names) ∙ ap (λ e. NotAnOutput (first_place e) (first_name d.names e)) v)

pub push_member-loop-text-preserved : goal.push_member-loop-text-preserved
push_member-loop-text-preserved t c d is f later rest =
    let p = c.in-Span.first.place in
    let here = rest_more name_items c.deref-text-items.result.now c.loop-text.text-index c.text-item.result c.loop-text-test.true c.text-item.is in
    let one = subst (λ w. IsAdded (header_name d p w) c.in_ok-found-in-Span.found c.loop-text.outputs.items c.push_name.new.outputs.items) c.as_slice.ensures.value (c.in_ok-found-in-Span.ensures d is) in
    added_on _ _ _ c.loop-text.fault c.in_ok-found-in-Span.found c.earlier-fault.result f c.args.outputs.now.items c.loop-text.outputs.items c.push_name.new.outputs.items later (ap (header_range d p) here) one rest c.earlier-fault.ensures (c.loop-text.invariant d is)

pub push_member-returns-after-loop-text : goal.push_member-returns-after-loop-text
push_member-returns-after-loop-text t c d is =
    let p = c.in-Span.first.place in
    let old = c.args.outputs.now.items in
    let now = c.loop-text.outputs.items in
    let all = ap (map name_items) c.deref-text-items.ensures.value ∙ (c.in_ok-texts-in-Span.ensures ∙ ap₂ range_names c.bytes.ensures c.bytes-in-Span.ensures) in
    subst (λ m. IsAdded (output_member d m) c.loop-text.fault old now) (sym (ap view_member c.in-Span.is ∙ view_span c.in-Span.first c.in-Span.last))
    (subst (λ names. IsAdded (header_range d p names) c.loop-text.fault old now) all
    (added_all (λ xs. header_range d p (map name_items xs)) c.deref-text-items.result.now c.loop-text.text-index c.loop-text.fault _ old now refl c.loop-text-test.false (c.loop-text.invariant d is None now)))

pub push_set-loop-member-preserved : goal.push_set-loop-member-preserved
push_set-loop-member-preserved t c d is f later rest =
    let here = rest_more view_member c.args.members.now c.loop-member.member-index c.member-item.result c.loop-member-test.true c.member-item.is in
    added_on _ _ _ c.loop-member.fault c.in_ok-found.found c.earlier-fault.result f c.args.outputs.now.items c.loop-member.outputs.items c.push_member.new.outputs.items later (ap (λ xs. output_members d (members_of xs)) here) (c.in_ok-found.ensures d is) rest c.earlier-fault.ensures (c.loop-member.invariant d is)

-- the positions before the set stay
pub push_set-overflow_sub-width : goal.push_set-overflow_sub-width
push_set-overflow_sub-width t c =
    let n = c.args.scope.now in
    let d = context_for sample n in
    let x = output_members d (members_of (map view_member c.args.members.now)) in
    let all = added_all (λ xs. output_members d (members_of (map view_member xs))) c.args.members.now c.loop-member.member-index c.loop-member.fault x c.args.outputs.now.items c.loop-member.outputs.items refl c.loop-member-test.false (c.loop-member.invariant d (is_over sample n) None c.loop-member.outputs.items) in
    let old : c.len-before.result ≡ length c.args.outputs.now.items = c.len-before.ensures ∙ c.args.outputs.now.ok.0 in
    let now : c.len.result ≡ length c.loop-member.outputs.items = c.len.ensures ∙ c.loop-member.outputs.ok.0 in
    let more : length c.loop-member.outputs.items ≡ length c.args.outputs.now.items + length x.outputs = ap length all.outputs ∙ length-append c.args.outputs.now.items x.outputs in
    omega (arith, old, now, more)

pub push_set-returns : goal.push_set-returns
push_set-returns t c d is =
    let old = c.args.outputs.now.items in
    let now = c.loop-member.outputs.items in
    let x = output_members d (members_of (map view_member c.args.members.now)) in
    added_whole c.args.place x c.loop-member.fault c.then_some-wide.result c.earlier.result old now _
    (added_all (λ xs. output_members d (members_of (map view_member xs))) c.args.members.now c.loop-member.member-index c.loop-member.fault x old now refl c.loop-member-test.false (c.loop-member.invariant d is None now))
    (ap₂ (λ m n. m - n) (c.len.ensures ∙ c.loop-member.outputs.ok.0) (c.len-before.ensures ∙ c.args.outputs.now.ok.0)) c.then_some-wide.ensures c.earlier.ensures
