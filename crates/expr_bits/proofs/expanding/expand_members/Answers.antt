-- The first member after the others, or a set without members.
use Rattle.std.proofs.Common.{arith, map, refl, take, sym, ap, ◌∷◌, ◌∙◌}
use Rattle.expr_bits.proofs.Common.{nil_from_length, IfOk-weaker, entries_of, members_of, view_member, extended_if, known_of, terms_of, tasks_of, Push, after_all, members_weight, name_weight}
use Rattle.abel_meaning.specs.Terms as term
use Rattle.expr_bits.specs.declared.work.Step.TheVariants as step
use Rattle.expr_bits.specs.declared.work.Work.TheVariants as work
use Rattle.expr_bits.proofs.Coming.{comes_if, first_comes, set_none}
use Rattle.expr_bits.proofs.Weights.{weight_more, weighs_less}
use Rattle.expr_bits.proofs.expanding.expand_members.Goals as goal

pub returns-in_ok-work-in-Some-clause-comes : goal.returns-in_ok-work-in-Some-clause-comes
returns-in_ok-work-in-Some-clause-comes c =
    let es = entries_of c.args.scope.now in
    let ks = known_of (take c.args.outer.count es) in
    let e = c.args.outer.extension in
    let others = terms_of ks (members_of (map view_member c.in-Some.others.now)) in
    let all = ap (λ ms. terms_of ks (members_of (map view_member ms))) c.in-Some.ensures.cases.0 in
    IfOk-weaker c.first_of.result _ _
    (λ new has d ps. first_comes es c.in_ok-work-in-Some.work.items new.items (work.Members c.in-Some.others c.args.outer) (extended_if e (term.Set others)) has (λ d ps. refl) d ps
    ∙ c.in_ok-work-in-Some.ensures.comes others d ps
    ∙ ap (λ ts. after_all d (Push (extended_if e (term.Set ts)) ∷ tasks_of es c.args.work.items) ps) (sym all))
    c.first_of.ensures

pub returns-in-None-clause-comes : goal.returns-in-None-clause-comes
returns-in-None-clause-comes c =
    let es = entries_of c.args.scope.now in
    let ks = known_of (take c.args.outer.count es) in
    let e = c.args.outer.extension in
    let none = ap (λ ms. terms_of ks (members_of (map view_member ms))) (nil_from_length c.args.members.now c.in-None.ensures.cases) in
    comes_if es c.args.work.items (work.Do step.Empty) (extended_if e (term.Set term.NoTerm)) _ c.first_of-in-None.result c.first_of-in-None.ensures
    (ap (λ ts. extended_if e (term.Set ts)) (sym none)) (λ d ps. set_none d e ps)

pub returns-in_ok-work-in-Some-clause-weight : goal.returns-in_ok-work-in-Some-clause-weight
returns-in_ok-work-in-Some-clause-weight c =
    let es = entries_of c.args.scope.now in
    let weight = name_weight es c.args.outer.count in
    let all = ap (λ ms. members_weight weight (members_of (map view_member ms))) c.in-Some.ensures.cases.0 in
    IfOk-weaker c.first_of.result _ _
    (λ new has. omega (arith, weight_more es new.items c.in_ok-work-in-Some.work.items (work.Members c.in-Some.others c.args.outer) has, c.in_ok-work-in-Some.ensures.weight, all))
    c.first_of.ensures

pub returns-in-None-clause-weight : goal.returns-in-None-clause-weight
returns-in-None-clause-weight c =
    let es = entries_of c.args.scope.now in
    let none = ap (λ ms. members_weight (name_weight es c.args.outer.count) (members_of (map view_member ms))) (nil_from_length c.args.members.now c.in-None.ensures.cases) in
    weighs_less es c.args.work.items (work.Do step.Empty) _ c.first_of-in-None.result c.first_of-in-None.ensures (omega (arith, none))
