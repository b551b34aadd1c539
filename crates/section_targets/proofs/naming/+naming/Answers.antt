-- One member before others.
use Rattle.std.proofs.Common.{◌≡◌, ◌-◌, ◌∷◌, inl, inr, ap, ap₂, sym, ◌∙◌, subst, drop, map, arith}
use Rattle.section_targets.proofs.Common.{IfOk-weaker, range_names, Tree, AParen, members_of, view, view_member, term_of, term_named, terms_of, named_before, member_before, name_items, IsOfTerm, IsOfMembers, view_one, view_span, view_number, view_special, view_name, view_set, view_paren, view_unary, view_binary}
use Rattle.abel_meaning.specs.Terms as term
use Rattle.section_targets.proofs.Looks.{back_more, back_none}
use Rattle.section_targets.proofs.SignalLists.{signals_before, special_none}
use Rattle.section_targets.proofs.naming.+naming.Goals as goal

pub named_member-returns-in_ok-signals-in-One : goal.named_member-returns-in_ok-signals-in-One
named_member-returns-in_ok-signals-in-One t c =
    IfOk-weaker c.with.result _ _
    (λ n f count ks ts h s.
    subst (λ m. IsOfMembers count n (member_before ks m ts)) (sym (ap view_member c.in-One.is ∙ view_one c.in-One.expr))
    (signals_before count n (term_of ks (view c.in-One.expr)) ts (f count _ _ _ _ (c.in_ok-signals-in-One.ensures count ks h) s)))
    c.with.ensures

pub named_member-loop-index-init : goal.named_member-loop-index-init
named_member-loop-index-init t c count ks ts h s =
    subst (λ xs. IsOfMembers count c.args.rest (named_before ks xs ts)) (sym (back_none name_items c.as_slice-names.result.now)) s

pub named_member-loop-index-preserved : goal.named_member-loop-index-preserved
named_member-loop-index-preserved t c count ks ts h s =
    let names = c.as_slice-names.result.now in
    let i = c.loop-index.index in
    let n = c.index-names-index.result.items in
    let here : map name_items (drop (i - 1) names) ≡ n ∷ map name_items (drop i names) = back_more name_items names i c.index-names-index.result c.loop-index-test.true c.loop-index.auto.index c.index-names-index.is in
    let name = subst (λ w. IsOfTerm count c.in_ok-name-in-Span.name (term_named ks w)) c.as_slice.ensures.value (c.in_ok-name-in-Span.ensures count ks h) in
    subst (λ xs. IsOfMembers count c.in_ok-signals-in-Span.signals (named_before ks xs ts)) (sym here)
    (signals_before count c.in_ok-signals-in-Span.signals (term_named ks n) (named_before ks (map name_items (drop i names)) ts)
    (c.in_ok-signals-in-Span.ensures count _ _ _ _ name (c.loop-index.invariant count ks ts h s)))

pub named_member-returns-after-loop-index : goal.named_member-returns-after-loop-index
named_member-returns-after-loop-index t c count ks ts h s =
    let all : c.loop-index.index ≡ 0 = omega (arith, c.loop-index-test.false) in
    let whole = ap (λ k. map name_items (drop k c.as_slice-names.result.now)) all ∙ ap (map name_items) c.as_slice-names.ensures.value ∙ (c.in_ok-list-in-Span.ensures ∙ ap₂ range_names c.bytes.ensures c.bytes-in-Span.ensures) in
    subst (λ m. IsOfMembers count c.loop-index.signals (member_before ks m ts)) (sym (ap view_member c.in-Span.is ∙ view_span c.in-Span.first c.in-Span.last))
    (subst (λ xs. IsOfMembers count c.loop-index.signals (named_before ks xs ts)) whole (c.loop-index.invariant count ks ts h s))

pub named_expr-loop-index-init : goal.named_expr-loop-index-init
named_expr-loop-index-init t c count ks h =
    subst (λ xs. IsOfMembers count c.none-signals.result (terms_of ks (members_of xs))) (sym (back_none view_member c.as_slice-list.result.now)) (c.none-signals.ensures count)

pub named_expr-loop-index-preserved : goal.named_expr-loop-index-preserved
named_expr-loop-index-preserved t c count ks h =
    let ms = c.as_slice-list.result.now in
    let i = c.loop-index.index in
    let m = c.index-list-index.result in
    let here : map view_member (drop (i - 1) ms) ≡ view_member m ∷ map view_member (drop i ms) = back_more view_member ms i m c.loop-index-test.true c.loop-index.auto.index c.index-list-index.is in
    subst (λ xs. IsOfMembers count c.in_ok-signals-in-Set.signals (terms_of ks (members_of xs))) (sym here)
    (c.in_ok-signals-in-Set.ensures count ks (terms_of ks (members_of (map view_member (drop i ms)))) h (c.loop-index.invariant count ks h))

pub named_expr-returns-after-loop-index : goal.named_expr-returns-after-loop-index
named_expr-returns-after-loop-index t c count ks h =
    let ms = c.as_slice-list.result.now in
    let none : c.loop-index.index ≡ 0 = omega (arith, c.loop-index-test.false) in
    let all : map view_member (drop c.loop-index.index ms) ≡ map view_member c.in-Set.members = ap (λ k. map view_member (drop k ms)) none ∙ ap (map view_member) c.as_slice-list.ensures in
    subst (λ e. IsOfTerm count c.extended-in-Set.result (term_of ks e)) (sym (ap view c.in-Set.is ∙ view_set c.in-Set.place c.in-Set.members c.in-Set.extension))
    (c.extended-in-Set.ensures count (term.Set (terms_of ks (members_of (map view_member c.in-Set.members))))
    (subst (λ xs. IsOfMembers count c.loop-index.signals (terms_of ks (members_of xs))) all (c.loop-index.invariant count ks h)))

pub named_expr-returns-in-Special : goal.named_expr-returns-in-Special
named_expr-returns-in-Special t c count ks h =
    let none = λ (e : Tree) (v : view c.args.expr.now ≡ e) (k : IsOfTerm count c.none.result (term_of ks e)). subst (λ x. IsOfTerm count c.none.result (term_of ks x)) (sym v) k in
    elim c.in-Special.is [
      | inl s ↦ none _ (ap view s.2 ∙ view_special s.0 s.1) (special_none count c.none.result s.0 (c.none.ensures count))
      | inr m ↦ elim m [
        | inl n ↦ none _ (ap view n.1 ∙ view_number n.0) (c.none.ensures count)
        | inr o ↦ elim o [
          | inl u ↦ none _ (ap view u.3 ∙ view_unary u.0 u.1 u.2) (c.none.ensures count)
          | inr b ↦ none _ (ap view b.4 ∙ view_binary b.0 b.1 b.2 b.3) (c.none.ensures count)
        ]
      ]
    ]

pub named_expr-returns-in-Paren : goal.named_expr-returns-in-Paren
named_expr-returns-in-Paren t c =
    IfOk-weaker c.named_expr.result _ _
    (λ n f count ks h.
    subst (λ e. IsOfTerm count n (term_of ks e)) (sym (ap view c.in-Paren.is ∙ view_paren c.in-Paren.place c.in-Paren.inner ∙ ap (AParen c.in-Paren.place) (ap view (sym c.get.ensures)))) (f count ks h))
    c.named_expr.ensures

pub named_expr-returns-in_ok-signals-in-Name : goal.named_expr-returns-in_ok-signals-in-Name
named_expr-returns-in_ok-signals-in-Name t c count ks h =
    subst (λ e. IsOfTerm count c.extended.result (term_of ks e)) (sym (ap view c.in-Name.is ∙ view_name c.in-Name.word c.in-Name.extension))
    (c.extended.ensures count (term_named ks c.in-Name.word.text)
    (subst (λ w. IsOfTerm count c.in_ok-signals-in-Name.signals (term_named ks w)) c.bytes.ensures (c.in_ok-signals-in-Name.ensures count ks h)))
