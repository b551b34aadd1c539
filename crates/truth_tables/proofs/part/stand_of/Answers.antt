-- What is no name, and a name by its number.
use Rattle.std.proofs.Common.{◌≡◌, get_or, refl, sym, ap, ◌∙◌, subst}
use Rattle.truth_tables.proofs.Common.{entries_of, view_declared, Number, known_of, term_named, term_meant, extended_if, IsStand, IsNumeral, is_computed}
use Rattle.truth_tables.proofs.ClearNames.{stand_clear}
use Rattle.truth_tables.proofs.PartLaws.{number_extended, entry_at}
use Rattle.truth_tables.proofs.NamesInOrder.{stand_back, named_meant, unnamed}
use Rattle.truth_tables.proofs.part.stand_of.Goals as goal

pub returns-in-None-clause-stand : goal.returns-in-None-clause-stand
returns-in-None-clause-stand c d is =
    let es = entries_of c.args.scope.now in
    let e : extended_if c.args.extension (term_named d.known c.args.text.now) ≡ Number 0 =
    ap (λ ks. extended_if c.args.extension (term_named ks c.args.text.now)) is.known
    ∙ ap (extended_if c.args.extension) (unnamed es c.args.text.now c.in-None.ensures.place)
    ∙ number_extended d c.args.extension 0 in
    (subst (λ t. IsNumeral d t 0) (sym e) (record { operand = refl; shape = refl; number = refl }), ap is_computed e)

pub returns-in-Some-clause-stand : goal.returns-in-Some-clause-stand
returns-in-Some-clause-stand c d is =
    let es = entries_of c.args.scope.now in
    let x = c.index-list-name.result in
    let k = c.in-Some.name.number in
    let p = c.in-Some.ensures.place in
    let here = entry_at c.args.scope.now.list k x (subst (λ xs. x ≡ get_or xs k x) c.list.ensures c.index-list-name.is) in
    let e = ap (λ ks. term_named ks c.args.text.now) is.known
    ∙ named_meant es c.args.text.now k (view_declared x) c.are_in_order.ensures p
    ∙ ap (λ y. term_meant (known_of es) k y.kind) here
    ∙ ap (λ ks. term_meant ks k (view_declared x).kind) (sym is.known) in
    subst (λ t. IsStand d c.args.extension c.meaning_stand.result (extended_if c.args.extension t)) (sym e) (c.meaning_stand.ensures.stand d)

pub returns-in-Some-clause-back : goal.returns-in-Some-clause-back
returns-in-Some-clause-back c =
    let x = c.index-list-name.result in
    let k = c.in-Some.name.number in
    let here = entry_at c.args.scope.now.list k x (subst (λ xs. x ≡ get_or xs k x) c.list.ensures c.index-list-name.is) in
    stand_back c.args.scope.now c.args.text.now k (view_declared x) c.meaning_stand.result c.are_in_order.ensures c.in-Some.ensures.place here c.meaning_stand.ensures.kind

pub returns-in-Some-clause-clear : goal.returns-in-Some-clause-clear
returns-in-Some-clause-clear c b named =
    let x = c.index-list-name.result in
    let k = c.in-Some.name.number in
    let here = entry_at c.args.scope.now.list k x (subst (λ xs. x ≡ get_or xs k x) c.list.ensures c.index-list-name.is) in
    stand_clear b (entries_of c.args.scope.now) c.args.text.now k (view_declared x) c.meaning_stand.result c.are_in_order.ensures c.in-Some.ensures.place here c.meaning_stand.ensures.kind named
