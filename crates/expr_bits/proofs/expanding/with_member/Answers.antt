-- One value, and the names of a range.
use Rattle.std.proofs.Common.{◌≡◌, ◌+◌, arith, map, refl, take, sym, ap, ap₂, ◌∙◌, subst}
use Rattle.expr_bits.proofs.Common.{IfOk-weaker, entries_of, range_names, view, view_member, known_of, member_before, named_before, term_of, name_items, Precedes, member_weight, name_weight, range_weight, tree_weight}
use Rattle.expr_bits.proofs.Views.{view_one, view_span}
use Rattle.expr_bits.proofs.expanding.with_member.Goals as goal

pub returns-in-One-clause-comes : goal.returns-in-One-clause-comes
returns-in-One-clause-comes c =
    let es = entries_of c.args.scope.now in
    let ks = known_of (take c.args.outer.count es) in
    let e = c.args.outer.extension in
    IfOk-weaker c.with_value.result _ _
    (λ new has ts. subst (λ m. Precedes es e new.items c.args.work.items ts (member_before ks m ts)) (sym (ap view_member c.in-One.is ∙ view_one c.in-One.expr))
    (has es e (term_of ks (view c.in-One.expr)) ts (λ d ps. refl)))
    c.with_value.ensures.comes

pub returns-in_ok-names-in-Span-clause-comes : goal.returns-in_ok-names-in-Span-clause-comes
returns-in_ok-names-in-Span-clause-comes c =
    let es = entries_of c.args.scope.now in
    let ks = known_of (take c.args.outer.count es) in
    let e = c.args.outer.extension in
    let whole = ap (map name_items) c.as_slice.ensures.value ∙ (c.in_ok-names-in-Span.ensures ∙ ap₂ range_names c.bytes.ensures c.bytes-in-Span.ensures) in
    IfOk-weaker c.with_names.result _ _
    (λ new has ts. subst (λ m. Precedes es e new.items c.args.work.items ts (member_before ks m ts)) (sym (ap view_member c.in-Span.is ∙ view_span c.in-Span.first c.in-Span.last))
    (subst (λ names. Precedes es e new.items c.args.work.items ts (named_before ks names ts)) whole (has ts)))
    c.with_names.ensures.comes

pub returns-in-One-clause-weight : goal.returns-in-One-clause-weight
returns-in-One-clause-weight c =
    let es = entries_of c.args.scope.now in
    let weight = name_weight es c.args.outer.count in
    let is : member_weight weight (view_member c.args.member.now) ≡ 1 + tree_weight weight (view c.in-One.expr) = ap (member_weight weight) (ap view_member c.in-One.is ∙ view_one c.in-One.expr) in
    IfOk-weaker c.with_value.result _ _ (λ new has. omega (arith, has es, is)) c.with_value.ensures.weight

pub returns-in_ok-names-in-Span-clause-weight : goal.returns-in_ok-names-in-Span-clause-weight
returns-in_ok-names-in-Span-clause-weight c =
    let es = entries_of c.args.scope.now in
    let weight = name_weight es c.args.outer.count in
    let whole = ap (map name_items) c.as_slice.ensures.value ∙ (c.in_ok-names-in-Span.ensures ∙ ap₂ range_names c.bytes.ensures c.bytes-in-Span.ensures) in
    let is = ap (member_weight weight) (ap view_member c.in-Span.is ∙ view_span c.in-Span.first c.in-Span.last) in
    IfOk-weaker c.with_names.result _ _ (λ new has. omega (arith, has, is, ap (range_weight weight) whole)) c.with_names.ensures.weight
