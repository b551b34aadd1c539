-- What isn't one of the names is a number.
use Rattle.std.proofs.Common.{◌≡◌, None, Some, [], true, length, slice_get, refl, sym, subst, ltb-true}
use Rattle.section_targets.proofs.Common.{ltb-false, slice_get_past, slice_get_read, IfOk-weaker, entries_of, IsOfTerm}
use Rattle.section_targets.proofs.NameTerms.{named_none, named_at}
use Rattle.section_targets.proofs.named.NamedSignals.of_name.Goals as goal

pub returns-in_default : goal.returns-in_default
returns-in_default c count ks h =
    let es = entries_of c.args.targets.now.scope.now in
    subst (IsOfTerm count c.none.result) (sym (named_none count es c.args.targets.now.named.now ks c.args.text.now h c.in_default.ensures.place)) (c.none.ensures count)

pub returns-in_default-get : goal.returns-in_default-get
returns-in_default-get c count ks h =
    let es = entries_of c.args.targets.now.scope.now in
    let named = c.args.targets.now.named.now in
    let k = c.in-Some.name.number in
    let past : slice_get named k ≡ None = slice_get_past named k (ltb-false k (length named) (sym c.in_default-get.ensures.lookup.0)) in
    subst (IsOfTerm count c.none-in_default-get.result) (sym (named_at count es named ks c.args.text.now h k None c.in-Some.ensures.place past)) (c.none-in_default-get.ensures count)

pub returns : goal.returns
returns c =
    IfOk-weaker c.with.result _ _
    (λ n f count ks h.
    let es = entries_of c.args.targets.now.scope.now in
    let named = c.args.targets.now.named.now in
    let k = c.in-Some.name.number in
    let x = c.in-Some-get.named.now in
    let read = slice_get_read named (length named) k x refl (ltb-true k (length named) (sym c.in-Some-get.ensures.lookup.0)) c.in-Some-get.ensures.lookup.1 in
    f count [] _ true _ (c.none-2.ensures count) (named_at count es named ks c.args.text.now h k (Some x) c.in-Some.ensures.place read))
    c.with.ensures
