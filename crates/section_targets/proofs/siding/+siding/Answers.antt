-- What each variant is refused as, and one member more.
use Rattle.std.proofs.Common.{◌≡◌, ◌-◌, ◌∷◌, inl, inr, refl, ap, ap₂, sym, ◌∙◌, subst, length, drop, map, arith}
use Rattle.section_targets.proofs.Common.{IfOk-weaker, range_names, Tree, AName, ASet, members_of, view, view_member, name_items, NotAnOutput, first_place, IsSide, target_member, target_members, target_name, target_one, target_range, start_at, targets_both, no_target, first_name, view_number, view_special, view_name, view_set, view_unary, view_binary, view_one, view_span}
use Rattle.section_targets.proofs.Looks.{back_more, back_none}
use Rattle.section_targets.proofs.SignalLists.{both_assoc, side_length, side_refused, side_set, start_same}
use Rattle.section_targets.proofs.siding.+siding.Goals as goal

pub member_side-returns-in-Special : goal.member_side-returns-in-Special
member_side-returns-in-Special t c d k h =
    subst (λ e. IsSide (length d.names) c.empty-in-Special.result (target_member d e)) (sym (ap view c.in-Special.is ∙ view_special c.in-Special.letter c.in-Special.place)) (c.empty-in-Special.ensures (length d.names))

pub member_side-returns-in-Some : goal.member_side-returns-in-Some
member_side-returns-in-Some t c d k h =
    side_refused d c.empty.result _ _ _ c.refuse_operator.result k c.refuse_operator.ensures
    (ap view c.in-Name.is ∙ view_name c.in-Name.word c.in-Name.extension ∙ ap (AName c.in-Name.word) c.in-Some.is) refl (c.empty.ensures (length d.names))

pub member_side-returns-in-Some-extension : goal.member_side-returns-in-Some-extension
member_side-returns-in-Some-extension t c d k h =
    side_refused d c.empty-in-Some-extension.result _ _ _ c.refuse_operator-in-Some-extension.result k c.refuse_operator-in-Some-extension.ensures
    (ap view c.in-Set.is ∙ view_set c.in-Set.place c.in-Set.members c.in-Set.extension ∙ ap (ASet c.in-Set.place (members_of (map view_member c.in-Set.members))) c.in-Some-extension.is) refl (c.empty-in-Some-extension.ensures (length d.names))

pub member_side-returns-in-Number : goal.member_side-returns-in-Number
member_side-returns-in-Number t c d k h =
    let refused = λ (u : Tree) (v : view c.args.expr.now ≡ u) (m : target_member d u ≡ no_target (NotAnOutput (first_place u) (first_name d.names u))). side_refused d c.empty-in-Number.result _ u _ c.refuse_operator-in-Number.result k c.refuse_operator-in-Number.ensures v m (c.empty-in-Number.ensures (length d.names)) in
    elim c.in-Number.is [
      | inl n ↦ refused _ (ap view n.1 ∙ view_number n.0) refl
      | inr m ↦ elim m [
        | inl u ↦ refused _ (ap view u.3 ∙ view_unary u.0 u.1 u.2) refl
        | inr b ↦ refused _ (ap view b.4 ∙ view_binary b.0 b.1 b.2 b.3) refl
      ]
    ]

pub member_side-returns-in-None : goal.member_side-returns-in-None
member_side-returns-in-None t c =
    IfOk-weaker c.of_name.result _ _
    (λ s f d k h.
    let x = c.in-Name.word in
    let named = subst (λ w. IsSide (length d.names) s (target_name d x.place (start_at d x.place x.place w) w)) c.bytes.ensures (f d k h) in
    subst (λ e. IsSide (length d.names) s (target_member d e)) (sym (ap view c.in-Name.is ∙ view_name x c.in-Name.extension ∙ ap (AName x) c.in-None.is))
    (subst (λ q. IsSide (length d.names) s (target_name d x.place q x.text)) (start_same d x.place x.text) named))
    c.of_name.ensures

pub with_member-returns-in_ok-side-in-One : goal.with_member-returns-in_ok-side-in-One
with_member-returns-in_ok-side-in-One t c =
    IfOk-weaker c.with.result _ _
    (λ s f d x k h g.
    subst (λ m. IsSide (length d.names) s (targets_both (target_one d m) x)) (sym (ap view_member c.in-One.is ∙ view_one c.in-One.expr))
    (f (length d.names) (target_member d (view c.in-One.expr)) x (c.in_ok-side-in-One.ensures d k h) g))
    c.with.ensures

pub with_member-loop-index-init : goal.with_member-loop-index-init
with_member-loop-index-init t c d x k h g =
    subst (λ xs. IsSide (length d.names) c.args.rest (targets_both (target_range d c.in-Span.first.place xs) x)) (sym (back_none name_items c.as_slice-names.result.now)) g

pub with_member-loop-index-preserved : goal.with_member-loop-index-preserved
with_member-loop-index-preserved t c d x k h g =
    let names = c.as_slice-names.result.now in
    let i = c.loop-index.index in
    let p = c.in-Span.first.place in
    let n = c.index-names-index.result.items in
    let here : map name_items (drop (i - 1) names) ≡ n ∷ map name_items (drop i names) = back_more name_items names i c.index-names-index.result c.loop-index-test.true c.loop-index.auto.index c.index-names-index.is in
    let rest = target_range d p (map name_items (drop i names)) in
    let named = subst (λ w. IsSide (length d.names) c.in_ok-name-in-Span.name (target_name d p (start_at d p p w) w)) c.as_slice.ensures.value (c.in_ok-name-in-Span.ensures d k h) in
    let name = subst (λ q. IsSide (length d.names) c.in_ok-name-in-Span.name (target_name d p q n)) (start_same d p n) named in
    subst (λ xs. IsSide (length d.names) c.in_ok-side-in-Span.side (targets_both (target_range d p xs) x)) (sym here)
    (subst (IsSide (length d.names) c.in_ok-side-in-Span.side) (sym (both_assoc (target_name d p p n) rest x))
    (c.in_ok-side-in-Span.ensures (length d.names) (target_name d p p n) (targets_both rest x) name (c.loop-index.invariant d x k h g)))

pub with_member-returns-after-loop-index : goal.with_member-returns-after-loop-index
with_member-returns-after-loop-index t c d x k h g =
    let all : c.loop-index.index ≡ 0 = omega (arith, c.loop-index-test.false) in
    let whole = ap (λ i. map name_items (drop i c.as_slice-names.result.now)) all ∙ ap (map name_items) c.as_slice-names.ensures.value ∙ (c.in_ok-list-in-Span.ensures ∙ ap₂ range_names c.bytes.ensures c.bytes-in-Span.ensures) in
    subst (λ m. IsSide (length d.names) c.loop-index.side (targets_both (target_one d m) x)) (sym (ap view_member c.in-Span.is ∙ view_span c.in-Span.first c.in-Span.last))
    (subst (λ xs. IsSide (length d.names) c.loop-index.side (targets_both (target_range d c.in-Span.first.place xs) x)) whole (c.loop-index.invariant d x k h g))

pub set_side-loop-index-init : goal.set_side-loop-index-init
set_side-loop-index-init t c d k h =
    subst (λ xs. IsSide (length d.names) c.empty-side.result (target_members d (members_of xs))) (sym (back_none view_member c.args.members.now)) (c.empty-side.ensures (length d.names))

pub set_side-loop-index-preserved : goal.set_side-loop-index-preserved
set_side-loop-index-preserved t c d k h =
    let ms = c.args.members.now in
    let i = c.loop-index.index in
    let m = c.index-members-index.result in
    let here : map view_member (drop (i - 1) ms) ≡ view_member m ∷ map view_member (drop i ms) = back_more view_member ms i m c.loop-index-test.true c.loop-index.auto.index c.index-members-index.is in
    subst (λ xs. IsSide (length d.names) c.in_ok-side.side (target_members d (members_of xs))) (sym here)
    (c.in_ok-side.ensures d (target_members d (members_of (map view_member (drop i ms)))) k h (c.loop-index.invariant d k h))

pub set_side-returns : goal.set_side-returns
set_side-returns t c d k h =
    let all : c.loop-index.index ≡ 0 = omega (arith, c.loop-index-test.false) in
    let count = length d.names in
    let x = target_members d (members_of (map view_member c.args.members.now)) in
    let side = subst (λ j. IsSide count c.loop-index.side (target_members d (members_of (map view_member (drop j c.args.members.now))))) all (c.loop-index.invariant d k h) in
    side_set count c.args.place c.loop-index.side _ x c.refuse_wide.result side (c.refuse_wide.ensures (length x.aims) (ap length c.as_slice.ensures ∙ side_length count c.loop-index.side x side)) c.earlier-fault.ensures refl
