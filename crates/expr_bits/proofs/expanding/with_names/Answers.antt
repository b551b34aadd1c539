-- One name more, and all of them.
use Rattle.std.proofs.Common.{◌≡◌, ◌≤◌, ◌+◌, [], ◌∷◌, ◌++◌, map, refl, take, sym, ap, subst, ◌∙◌, arith}
use Rattle.expr_bits.proofs.Common.{entries_of, extended_if, known_of, named_before, term_named, name_items, front_more, whole_front, ComesTo, Precedes, name_weight, range_weight, work_weight}
use Rattle.abel_meaning.specs.Terms as term
use Rattle.expr_bits.proofs.Coming.{names_last, precedes_then}
use Rattle.expr_bits.proofs.Weights.{range_longer}
use Rattle.expr_bits.proofs.expanding.with_names.Goals as goal

pub loop-name-init : goal.loop-name-init
loop-name-init c = record { comes = λ ts d ps. refl; weight = omega arith }

pub loop-name-preserved : goal.loop-name-preserved
loop-name-preserved c =
    let es = entries_of c.args.scope.now in
    let ks = known_of (take c.args.outer.count es) in
    let e = c.args.outer.extension in
    let weight = name_weight es c.args.outer.count in
    let list = c.args.names.now in
    let name = c.name-item.result.items in
    let before = map name_items (take c.loop-name.name-index list) in
    let here : map name_items (take (c.loop-name.name-index + 1) list) ≡ before ++ name ∷ [] = front_more name_items list c.loop-name.name-index c.name-item.result c.loop-name-test.true c.name-item.is in
    let comes = subst (λ w. ComesTo es c.name_work.result (extended_if e (term_named ks w))) c.as_slice.ensures.value c.name_work.ensures.comes in
    let light = subst (λ w. work_weight es c.name_work.result ≤ weight w) c.as_slice.ensures.value c.name_work.ensures.weight in
    record {
      comes = λ ts. subst (Precedes es e c.in_ok-more.more.items c.args.work.items ts) (sym (ap (λ names. named_before ks names ts) here ∙ names_last ks before name ts))
          (precedes_then es e c.args.work.items c.loop-name.more.items c.in_ok-more.more.items ts (term.Before (term_named ks name) ts) _ (c.in_ok-more.ensures.comes es e (term_named ks name) ts comes) (c.loop-name.invariant.comes (term.Before (term_named ks name) ts)));
      weight = omega (arith, c.loop-name.invariant.weight, c.in_ok-more.ensures.weight es, light, ap (range_weight weight) here ∙ range_longer weight before name);
    }

pub returns-clause-comes : goal.returns-clause-comes
returns-clause-comes c ts =
    let es = entries_of c.args.scope.now in
    subst (λ names. Precedes es c.args.outer.extension c.loop-name.more.items c.args.work.items ts (named_before (known_of (take c.args.outer.count es)) names ts))
    (whole_front name_items c.args.names.now c.loop-name.name-index c.loop-name-test.false) (c.loop-name.invariant.comes ts)

pub returns-clause-weight : goal.returns-clause-weight
returns-clause-weight c =
    let es = entries_of c.args.scope.now in
    omega (arith, c.loop-name.invariant.weight, ap (range_weight (name_weight es c.args.outer.count)) (whole_front name_items c.args.names.now c.loop-name.name-index c.loop-name-test.false))
