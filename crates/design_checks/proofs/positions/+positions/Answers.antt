-- One member more, and each kind of expression.
use Rattle.std.proofs.Common.{◌≡◌, ◌+◌, true, [], ◌∷◌, ◌++◌, map, take, sym, ap, ap₂, ◌∙◌}
use Rattle.design_checks.proofs.Common.{IfOk-weaker, range_names, AParen, AUnary, members_of, view, view_member, all_targets, targets_of, NoTerm, Set, member_before, named_before, name_items, term_named, term_of, terms_of, front_more, whole_front, all_positions, are_by_pin, positions_of, written_of, written_of_all}
use Rattle.expr_bits.proofs.Views.{view_name, view_one, view_paren, view_set, view_span, view_special, view_unary}
use Rattle.design_checks.proofs.PositionTerms.{extended_positions, members_more, one_member, range_more, special_positions}
use Rattle.design_checks.proofs.positions.+positions.Goals as goal

pub positions_of-loop-member-preserved : goal.positions_of-loop-member-preserved
positions_of-loop-member-preserved t c d knows =
    let ks = d.known in
    let ms = c.as_slice-member-items.result.now in
    let i = c.loop-member.member-index in
    let m = view_member c.member-item.result in
    let before = map view_member (take i ms) in
    let here : map view_member (take (i + 1) ms) ≡ before ++ m ∷ [] = front_more view_member ms i c.member-item.result c.loop-member-test.true c.member-item.is in
    let ts = terms_of ks (members_of before) in
    let us = member_before ks m NoTerm in
    c.with-positions.ensures (written_of_all ts) (written_of_all us) (are_by_pin d (all_targets ts)) (are_by_pin d (all_targets us)) (c.loop-member.invariant d knows) (c.in_ok-next-in-Set.ensures d knows)
    ∙ sym (ap (λ xs. all_positions d (terms_of ks (members_of xs))) here ∙ members_more d ks before m)

pub positions_of-returns-after-loop-member : goal.positions_of-returns-after-loop-member
positions_of-returns-after-loop-member t c d knows =
    let ks = d.known in
    let ms = c.as_slice-member-items.result.now in
    let all : map view_member (take c.loop-member.member-index ms) ≡ map view_member c.in-Set.members = whole_front view_member ms c.loop-member.member-index c.loop-member-test.false ∙ ap (map view_member) c.as_slice-member-items.ensures in
    c.loop-member.invariant d knows
    ∙ ap (λ xs. all_positions d (terms_of ks (members_of xs))) all
    ∙ sym (extended_positions d c.in-Set.extension (Set (terms_of ks (members_of (map view_member c.in-Set.members)))))
    ∙ ap (λ e. positions_of d (term_of ks e)) (sym (ap view c.in-Set.is ∙ view_set c.in-Set.place c.in-Set.members c.in-Set.extension))

pub positions_of-returns-in-Name : goal.positions_of-returns-in-Name
positions_of-returns-in-Name t c d knows =
    let ks = d.known in
    ap (λ n. n.positions) (c.get.ensures d knows)
    ∙ ap (λ w. positions_of d (term_named ks w)) c.bytes.ensures
    ∙ sym (extended_positions d c.in-Name.extension (term_named ks c.in-Name.word.text))
    ∙ ap (λ e. positions_of d (term_of ks e)) (sym (ap view c.in-Name.is ∙ view_name c.in-Name.word c.in-Name.extension))

pub positions_of-returns-in-Special : goal.positions_of-returns-in-Special
positions_of-returns-in-Special t c d knows =
    c.other-in-Special.ensures
    ∙ sym (special_positions d c.in-Special.letter)
    ∙ ap (λ e. positions_of d (term_of d.known e)) (sym (ap view c.in-Special.is ∙ view_special c.in-Special.letter c.in-Special.place))

pub positions_of-returns-in-Paren : goal.positions_of-returns-in-Paren
positions_of-returns-in-Paren t c =
    IfOk-weaker c.positions_of.result _ _
    (λ p h d knows.
    h d knows
    ∙ ap (λ e. positions_of d (term_of d.known e)) (sym (ap view c.in-Paren.is ∙ view_paren c.in-Paren.place c.in-Paren.inner ∙ ap (AParen c.in-Paren.place) (ap view (sym c.get-in-Paren.ensures)))))
    c.positions_of.ensures

pub positions_of-returns-in_ok-inner-in-Not : goal.positions_of-returns-in_ok-inner-in-Not
positions_of-returns-in_ok-inner-in-Not t c d knows =
    ap (λ p. record { count = p.count; whole = p.whole; by_pin = true }) (c.in_ok-inner-in-Not.ensures d knows)
    ∙ ap (λ e. positions_of d (term_of d.known e))
    (sym (ap view c.in-Unary.is ∙ view_unary c.in-Unary.sign c.in-Unary.place c.in-Unary.inner ∙ ap₂ (λ s e. AUnary s c.in-Unary.place e) c.in-Not.is (ap view (sym c.get-in-Not.ensures))))

pub member_positions-loop-name-preserved : goal.member_positions-loop-name-preserved
member_positions-loop-name-preserved t c d knows =
    let names = c.deref-name-items.result.now in
    let i = c.loop-name.name-index in
    let before = map name_items (take i names) in
    let n = name_items c.name-item.result in
    let here : map name_items (take (i + 1) names) ≡ before ++ n ∷ [] = front_more name_items names i c.name-item.result c.loop-name-test.true c.name-item.is in
    let ts = named_before d.known before NoTerm in
    let u = term_named d.known n in
    c.with-positions.ensures (written_of_all ts) (written_of u) (are_by_pin d (all_targets ts)) (are_by_pin d (targets_of u)) (c.loop-name.invariant d knows)
    (ap (λ k. k.positions) (c.get.ensures d knows) ∙ ap (λ w. positions_of d (term_named d.known w)) c.as_slice.ensures.value)
    ∙ sym (ap (λ ns. all_positions d (named_before d.known ns NoTerm)) here ∙ range_more d d.known before n)

pub member_positions-returns-after-loop-name : goal.member_positions-returns-after-loop-name
member_positions-returns-after-loop-name t c d knows =
    c.loop-name.invariant d knows
    ∙ ap (λ ns. all_positions d (named_before d.known ns NoTerm))
    (whole_front name_items c.deref-name-items.result.now c.loop-name.name-index c.loop-name-test.false
    ∙ ap (map name_items) c.deref-name-items.ensures.value
    ∙ c.in_ok-list-in-Span.ensures
    ∙ ap₂ range_names c.bytes.ensures c.bytes-in-Span.ensures)
    ∙ ap (λ m. all_positions d (member_before d.known m NoTerm)) (sym (ap view_member c.in-Span.is ∙ view_span c.in-Span.first c.in-Span.last))

pub member_positions-returns-in-One : goal.member_positions-returns-in-One
member_positions-returns-in-One t c =
    IfOk-weaker c.positions_of.result _ _
    (λ p h d knows.
    h d knows
    ∙ sym (one_member d (term_of d.known (view c.in-One.expr)))
    ∙ ap (λ m. all_positions d (member_before d.known m NoTerm)) (sym (ap view_member c.in-One.is ∙ view_one c.in-One.expr)))
    c.positions_of.ensures
