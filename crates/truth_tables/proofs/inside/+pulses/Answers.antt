-- The names of a range, one member more, and all members.
use Rattle.std.proofs.Common.{List, ◌+◌, ◌||◌, map, drop, sym, ap, ap₂, ◌∙◌}
use Rattle.truth_tables.proofs.Common.{at_drop_all, Member, list_any, entries_of, range_names, members_of, view, view_member, name_items, names_found, view_span, or-false, or_assoc, is_pulse_named, holds_pulse, any_holds_pulse, member_holds_pulse}
use Rattle.truth_tables.proofs.ReadLaws.{any_named, holds_set, rest_more}
use Rattle.truth_tables.proofs.inside.+pulses.Goals as goal

pub member_holds-returns-in_ok-names-in-Span : goal.member_holds-returns-in_ok-names-in-Span
member_holds-returns-in_ok-names-in-Span t c =
    let ns = names_found (entries_of c.args.scope.now) in
    let test = is_pulse_named ns in
    c.any_names_pulse.ensures
    ∙ ap (list_any (λ n. test (name_items n))) c.as_slice.ensures.value
    ∙ any_named test c.in_ok-names-in-Span.names.items
    ∙ ap (list_any test) (c.in_ok-names-in-Span.ensures ∙ ap₂ range_names c.bytes.ensures c.bytes-in-Span.ensures)
    ∙ ap (member_holds_pulse ns) (sym (ap view_member c.in-Span.is ∙ view_span c.in-Span.first c.in-Span.last))

pub holds_pulse-loop-member-init : goal.holds_pulse-loop-member-init
holds_pulse-loop-member-init t c =
    let ns = names_found (entries_of c.args.scope.now) in
    ap (λ ms. c.down.found || any_holds_pulse ns (members_of (map view_member ms))) c.as_slice-member-items.ensures
    ∙ ap (λ b. c.down.found || b) (sym (ap (λ e. holds_pulse ns (view e)) c.in-Set.is ∙ holds_set c.in-Set.place c.in-Set.members c.in-Set.extension ns))
    ∙ c.down.invariant.holds

pub holds_pulse-loop-member-preserved : goal.holds_pulse-loop-member-preserved
holds_pulse-loop-member-preserved t c =
    let ns = names_found (entries_of c.args.scope.now) in
    let ms = c.as_slice-member-items.result.now in
    let i = c.loop-member.member-index in
    let rest = any_holds_pulse ns (members_of (map view_member (drop (i + 1) ms))) in
    or_assoc c.loop-member.found c.in_ok-holds-in-Set.holds rest
    ∙ ap (λ b. c.loop-member.found || (b || rest)) c.in_ok-holds-in-Set.ensures
    ∙ ap (λ xs. c.loop-member.found || any_holds_pulse ns (members_of xs)) (sym (rest_more view_member ms i c.member-item.result c.loop-member-test.true c.member-item.is))
    ∙ c.loop-member.invariant

pub holds_pulse-returns-in-Set : goal.holds_pulse-returns-in-Set
holds_pulse-returns-in-Set t c =
    let holds = λ (ms : List Member). c.loop-member.found || any_holds_pulse (names_found (entries_of c.args.scope.now)) (members_of (map view_member ms)) in
    sym (at_drop_all holds c.as_slice-member-items.result.now c.loop-member.member-index c.loop-member-test.false ∙ or-false c.loop-member.found) ∙ c.loop-member.invariant
