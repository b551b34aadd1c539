-- One member or name more, and all of them.
use Rattle.std.proofs.Common.{ℕ, List, ◌+◌, map, drop, sym, ap, ap₂, ◌∙◌}
use Rattle.truth_tables.proofs.Common.{at_drop_all, earlier_none, Member, entries_of, earlier, first_refusal, range_names, members_of, view, view_member, name_found, names_found, name_items, section_order, refused_inside, all_refused_inside, member_refused_inside, names_refused, view_span}
use Rattle.truth_tables.proofs.ReadLaws.{first_next, inside_set, rest_more}
use Rattle.truth_tables.proofs.inside.+inside.Goals as goal

pub refuse_inside-loop-member-preserved : goal.refuse_inside-loop-member-preserved
refuse_inside-loop-member-preserved t c =
    let ns = names_found (entries_of c.args.scope.now) in
    let r = c.args.row in
    let ms = c.as_slice-member-items.result.now in
    let i = c.loop-member.member-index in
    first_next c.loop-member.fault c.in_ok-found-in-Set.found c.earlier-fault.result (member_refused_inside ns r (view_member c.member-item.result))
    (all_refused_inside ns r (members_of (map view_member (drop (i + 1) ms)))) c.earlier-fault.ensures c.in_ok-found-in-Set.ensures
    ∙ ap (λ xs. earlier section_order c.loop-member.fault (first_refusal section_order (all_refused_inside ns r (members_of xs)))) (sym (rest_more view_member ms i c.member-item.result c.loop-member-test.true c.member-item.is))
    ∙ c.loop-member.invariant

pub refuse_inside-returns-after-loop-member : goal.refuse_inside-returns-after-loop-member
refuse_inside-returns-after-loop-member t c =
    let ns = names_found (entries_of c.args.scope.now) in
    let r = c.args.row in
    let found = λ (ms : List Member). first_refusal section_order (all_refused_inside ns r (members_of (map view_member ms))) in
    sym (at_drop_all (λ (ms : List Member). earlier section_order c.loop-member.fault (found ms)) c.as_slice-member-items.result.now c.loop-member.member-index c.loop-member-test.false ∙ earlier_none section_order c.loop-member.fault)
    ∙ c.loop-member.invariant
    ∙ ap found c.as_slice-member-items.ensures
    ∙ sym (ap (λ e. first_refusal section_order (refused_inside ns r (view e))) c.in-Set.is ∙ ap (first_refusal section_order) (inside_set c.in-Set.place c.in-Set.members c.in-Set.extension ns r))

pub refuse_member-loop-name-preserved : goal.refuse_member-loop-name-preserved
refuse_member-loop-name-preserved t c =
    let ns = names_found (entries_of c.args.scope.now) in
    let items = c.deref-name-items.result.now in
    let i = c.loop-name.name-index in
    first_next c.loop-name.fault c.refuse_name.result c.earlier-fault.result (name_found ns (name_items c.name-item.result)).found.refusals
    (names_refused ns (map name_items (drop (i + 1) items))) c.earlier-fault.ensures (c.refuse_name.ensures ∙ ap (λ w. first_refusal section_order (name_found ns w).found.refusals) c.as_slice.ensures.value)
    ∙ ap (λ names. earlier section_order c.loop-name.fault (first_refusal section_order (names_refused ns names))) (sym (rest_more name_items items i c.name-item.result c.loop-name-test.true c.name-item.is))
    ∙ c.loop-name.invariant

pub refuse_member-returns-after-loop-name : goal.refuse_member-returns-after-loop-name
refuse_member-returns-after-loop-name t c =
    let ns = names_found (entries_of c.args.scope.now) in
    let found = λ (names : List (List ℕ)). first_refusal section_order (names_refused ns names) in
    sym (at_drop_all (λ xs. earlier section_order c.loop-name.fault (found (map name_items xs))) c.deref-name-items.result.now c.loop-name.name-index c.loop-name-test.false ∙ earlier_none section_order c.loop-name.fault)
    ∙ c.loop-name.invariant
    ∙ ap found (ap (map name_items) c.deref-name-items.ensures.value ∙ (c.in_ok-names-in-Span.ensures ∙ ap₂ range_names c.bytes.ensures c.bytes-in-Span.ensures))
    ∙ ap (λ m. first_refusal section_order (member_refused_inside ns c.args.row m)) (sym (ap view_member c.in-Span.is ∙ view_span c.in-Span.first c.in-Span.last))
