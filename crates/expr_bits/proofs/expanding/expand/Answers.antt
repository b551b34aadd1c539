-- Each expression by its parts, which weigh less.
use Rattle.std.proofs.Common.{◌≡◌, arith, map, take, refl, sym, ap, ◌∙◌}
use Rattle.expr_bits.proofs.Common.{IfOk-weaker, entries_of, members_of, view, view_member, extended_if, innermost, known_of, special_term, term_named, term_of, terms_of, Push, members_weight, name_weight, tree_weight, work_weight}
use Rattle.abel_meaning.specs.Terms as term
use Rattle.expr_bits.specs.declared.work.Step.TheVariants as step
use Rattle.expr_bits.specs.declared.work.Work.TheVariants as work
use Rattle.expr_bits.proofs.Coming.{comes_if, same_first, number_comes, special_extended, under_work, both_work}
use Rattle.expr_bits.proofs.Extensions.{innermost_wins}
use Rattle.expr_bits.proofs.Views.{view_number, view_special, view_name, view_set, view_paren, view_unary, view_binary}
use Rattle.expr_bits.proofs.Weights.{weight_more, weighs_less}
use Rattle.expr_bits.proofs.expanding.expand.Goals as goal

pub returns-in-Number-clause-comes : goal.returns-in-Number-clause-comes
returns-in-Number-clause-comes c =
    let es = entries_of c.args.scope.now in
    let ks = known_of (take c.args.outer.count es) in
    let e = c.args.outer.extension in
    let n = c.in-Number.number in
    comes_if es c.args.work.items (work.Do (step.Number n.value)) (extended_if e (term.Number n.value)) _ c.first_of.result c.first_of.ensures
    (ap (λ t. extended_if e (term_of ks t)) (sym (ap view c.in-Number.is ∙ view_number n))) (λ d ps. number_comes d e n.value ps)

pub returns-in-Special-clause-comes : goal.returns-in-Special-clause-comes
returns-in-Special-clause-comes c =
    let es = entries_of c.args.scope.now in
    let ks = known_of (take c.args.outer.count es) in
    let e = c.args.outer.extension in
    let letter = c.in-Special.letter in
    comes_if es c.args.work.items (work.Do c.special_step.result) (special_term letter) _ c.first_of-in-Special.result c.first_of-in-Special.ensures
    (sym (special_extended e letter) ∙ ap (λ t. extended_if e (term_of ks t)) (sym (ap view c.in-Special.is ∙ view_special letter c.in-Special.place))) c.special_step.ensures

pub returns-in-Name-clause-comes : goal.returns-in-Name-clause-comes
returns-in-Name-clause-comes c =
    let es = entries_of c.args.scope.now in
    let ks = known_of (take c.args.outer.count es) in
    let e = c.args.outer.extension in
    let word = c.in-Name.word in
    let own = c.in-Name.extension in
    comes_if es c.args.work.items c.name_work-next.result (extended_if (innermost own e) (term_named ks word.text)) _ c.first_of-in-Name.result c.first_of-in-Name.ensures
    (innermost_wins own e (term_named ks word.text) ∙ ap (λ t. extended_if e (term_of ks t)) (sym (ap view c.in-Name.is ∙ view_name word own)))
    (rw (c.inside.ensures, c.bytes.ensures) at c.name_work-next.ensures.comes)

pub returns-in-Set-clause-comes : goal.returns-in-Set-clause-comes
returns-in-Set-clause-comes c =
    let es = entries_of c.args.scope.now in
    let ks = known_of (take c.args.outer.count es) in
    let e = c.args.outer.extension in
    let own = c.in-Set.extension in
    let set = term.Set (terms_of ks (members_of (map view_member c.in-Set.members))) in
    comes_if es c.args.work.items (work.Members c.as_slice.result c.inside-in-Set.result) (extended_if (innermost own e) set) _ c.first_of-in-Set.result c.first_of-in-Set.ensures
    (innermost_wins own e set ∙ ap (λ t. extended_if e (term_of ks t)) (sym (ap view c.in-Set.is ∙ view_set c.in-Set.place c.in-Set.members own)))
    (λ d ps. rw (c.inside-in-Set.ensures, c.as_slice.ensures) refl)

pub returns-in-Paren-clause-comes : goal.returns-in-Paren-clause-comes
returns-in-Paren-clause-comes c =
    let es = entries_of c.args.scope.now in
    let ks = known_of (take c.args.outer.count es) in
    let e = c.args.outer.extension in
    comes_if es c.args.work.items (work.Whole c.get.result c.args.outer) (extended_if e (term_of ks (view c.get.result.now))) _ c.first_of-in-Paren.result c.first_of-in-Paren.ensures
    (ap (λ x. extended_if e (term_of ks (view x))) c.get.ensures ∙ ap (λ t. extended_if e (term_of ks t)) (sym (ap view c.in-Paren.is ∙ view_paren c.in-Paren.place c.in-Paren.inner))) (λ d ps. refl)

pub returns-in_ok-work-in-Unary-clause-comes : goal.returns-in_ok-work-in-Unary-clause-comes
returns-in_ok-work-in-Unary-clause-comes c =
    let es = entries_of c.args.scope.now in
    let ks = known_of (take c.args.outer.count es) in
    let e = c.args.outer.extension in
    let old = c.args.work.items in
    let inner = c.in-Unary.inner in
    IfOk-weaker c.first_of-in-Unary-2.result _ _
    (λ new has. same_first es new.items old (extended_if e (term.UnaryOf c.in-Unary.sign (term_of ks (view inner)))) _
    (ap (λ t. extended_if e (term_of ks t)) (sym (ap view c.in-Unary.is ∙ view_unary c.in-Unary.sign c.in-Unary.place inner)))
    (under_work es e c.in-Unary.sign (term_of ks (view inner)) old c.in_ok-work-in-Unary.work.items new.items (work.Whole c.get-in-Unary.result c.args.outer)
    c.in_ok-work-in-Unary.ensures has (ap (λ x. Push (extended_if e (term_of ks (view x)))) c.get-in-Unary.ensures)))
    c.first_of-in-Unary-2.ensures

pub returns-in_ok-work-in-Binary-2-clause-comes : goal.returns-in_ok-work-in-Binary-2-clause-comes
returns-in_ok-work-in-Binary-2-clause-comes c =
    let es = entries_of c.args.scope.now in
    let ks = known_of (take c.args.outer.count es) in
    let e = c.args.outer.extension in
    let old = c.args.work.items in
    let left = c.in-Binary.left in
    let right = c.in-Binary.right in
    IfOk-weaker c.first_of-in-Binary-3.result _ _
    (λ new has. same_first es new.items old (extended_if e (term.BinaryOf c.in-Binary.sign (term_of ks (view left)) (term_of ks (view right)))) _
    (ap (λ t. extended_if e (term_of ks t)) (sym (ap view c.in-Binary.is ∙ view_binary c.in-Binary.sign c.in-Binary.place left right)))
    (both_work es e c.in-Binary.sign (term_of ks (view left)) (term_of ks (view right)) old c.in_ok-work-in-Binary.work.items c.in_ok-work-in-Binary-2.work.items new.items
    (work.Whole c.get-in-Binary-2.result c.args.outer) (work.Whole c.get-in-Binary.result c.args.outer)
    c.in_ok-work-in-Binary.ensures c.in_ok-work-in-Binary-2.ensures has
    (ap (λ x. Push (extended_if e (term_of ks (view x)))) c.get-in-Binary-2.ensures) (ap (λ x. Push (extended_if e (term_of ks (view x)))) c.get-in-Binary.ensures)))
    c.first_of-in-Binary-3.ensures

-- ---- weights

pub returns-in-Number-clause-weight : goal.returns-in-Number-clause-weight
returns-in-Number-clause-weight c =
    let es = entries_of c.args.scope.now in
    let weight = name_weight es c.args.outer.count in
    let is = ap (tree_weight weight) (ap view c.in-Number.is ∙ view_number c.in-Number.number) in
    weighs_less es c.args.work.items (work.Do (step.Number c.in-Number.number.value)) _ c.first_of.result c.first_of.ensures (omega (arith, is))

pub returns-in-Special-clause-weight : goal.returns-in-Special-clause-weight
returns-in-Special-clause-weight c =
    let es = entries_of c.args.scope.now in
    let weight = name_weight es c.args.outer.count in
    let is = ap (tree_weight weight) (ap view c.in-Special.is ∙ view_special c.in-Special.letter c.in-Special.place) in
    weighs_less es c.args.work.items (work.Do c.special_step.result) _ c.first_of-in-Special.result c.first_of-in-Special.ensures (omega (arith, is))

pub returns-in-Name-clause-weight : goal.returns-in-Name-clause-weight
returns-in-Name-clause-weight c =
    let es = entries_of c.args.scope.now in
    let weight = name_weight es c.args.outer.count in
    let is = ap (tree_weight weight) (ap view c.in-Name.is ∙ view_name c.in-Name.word c.in-Name.extension) in
    weighs_less es c.args.work.items c.name_work-next.result _ c.first_of-in-Name.result c.first_of-in-Name.ensures
    (omega (arith, is, rw (c.inside.ensures, c.bytes.ensures) at c.name_work-next.ensures.weight))

pub returns-in-Set-clause-weight : goal.returns-in-Set-clause-weight
returns-in-Set-clause-weight c =
    let es = entries_of c.args.scope.now in
    let weight = name_weight es c.args.outer.count in
    let is = ap (tree_weight weight) (ap view c.in-Set.is ∙ view_set c.in-Set.place c.in-Set.members c.in-Set.extension) in
    let same : work_weight es (work.Members c.as_slice.result c.inside-in-Set.result) ≡ members_weight weight (members_of (map view_member c.in-Set.members)) = rw (c.inside-in-Set.ensures, c.as_slice.ensures) refl in
    weighs_less es c.args.work.items (work.Members c.as_slice.result c.inside-in-Set.result) _ c.first_of-in-Set.result c.first_of-in-Set.ensures (omega (arith, is, same))

pub returns-in-Paren-clause-weight : goal.returns-in-Paren-clause-weight
returns-in-Paren-clause-weight c =
    let es = entries_of c.args.scope.now in
    let weight = name_weight es c.args.outer.count in
    let is = ap (tree_weight weight) (ap view c.in-Paren.is ∙ view_paren c.in-Paren.place c.in-Paren.inner) in
    weighs_less es c.args.work.items (work.Whole c.get.result c.args.outer) _ c.first_of-in-Paren.result c.first_of-in-Paren.ensures (omega (arith, is, ap (λ t. tree_weight weight (view t)) c.get.ensures))

pub returns-in_ok-work-in-Unary-clause-weight : goal.returns-in_ok-work-in-Unary-clause-weight
returns-in_ok-work-in-Unary-clause-weight c =
    let es = entries_of c.args.scope.now in
    let weight = name_weight es c.args.outer.count in
    let is = ap (tree_weight weight) (ap view c.in-Unary.is ∙ view_unary c.in-Unary.sign c.in-Unary.place c.in-Unary.inner) in
    let mid = c.in_ok-work-in-Unary.work.items in
    IfOk-weaker c.first_of-in-Unary-2.result _ _
    (λ new has. omega (
      arith,
      is,
      weight_more es new.items mid (work.Whole c.get-in-Unary.result c.args.outer) has,
      weight_more es mid c.args.work.items (work.Do (step.Under c.in-Unary.sign)) c.in_ok-work-in-Unary.ensures,
      ap (λ t. tree_weight weight (view t)) c.get-in-Unary.ensures,
    ))
    c.first_of-in-Unary-2.ensures

pub returns-in_ok-work-in-Binary-2-clause-weight : goal.returns-in_ok-work-in-Binary-2-clause-weight
returns-in_ok-work-in-Binary-2-clause-weight c =
    let es = entries_of c.args.scope.now in
    let weight = name_weight es c.args.outer.count in
    let is = ap (tree_weight weight) (ap view c.in-Binary.is ∙ view_binary c.in-Binary.sign c.in-Binary.place c.in-Binary.left c.in-Binary.right) in
    let mid = c.in_ok-work-in-Binary.work.items in
    let last = c.in_ok-work-in-Binary-2.work.items in
    IfOk-weaker c.first_of-in-Binary-3.result _ _
    (λ new has. omega (
      arith,
      is,
      weight_more es new.items last (work.Whole c.get-in-Binary-2.result c.args.outer) has,
      weight_more es last mid (work.Whole c.get-in-Binary.result c.args.outer) c.in_ok-work-in-Binary-2.ensures,
      weight_more es mid c.args.work.items (work.Do (step.Both c.in-Binary.sign)) c.in_ok-work-in-Binary.ensures,
      ap (λ t. tree_weight weight (view t)) c.get-in-Binary.ensures,
      ap (λ t. tree_weight weight (view t)) c.get-in-Binary-2.ensures,
    ))
    c.first_of-in-Binary-3.ensures
