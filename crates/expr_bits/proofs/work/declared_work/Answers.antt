-- What is declared under the number, or nothing.
use Rattle.std.proofs.Common.{◌≡◌, ◌≤◌, ℕ, None, List, length, slice_get, sym, ap, subst, arith}
use Rattle.expr_bits.proofs.Common.{ltb-false, slice_get_past, Names, entries_of, extended_if, ComesTo, entry_weight, here_term, name_weight, Declared}
use Rattle.expr_bits.proofs.Coming.{zero_comes}
use Rattle.expr_bits.proofs.NamesBefore.{entry_at, entries_long}
use Rattle.expr_bits.proofs.work.declared_work.Goals as goal

none_past : (names : Names) (list : List Declared) (n : ℕ) → list ≡ names.list → length list ≤ n → slice_get (entries_of names) n ≡ None
none_past names list n e past = slice_get_past (entries_of names) n (omega (arith, past, entries_long names list e))

pub returns-in-Some-clause-comes : goal.returns-in-Some-clause-comes
returns-in-Some-clause-comes c =
    let es = entries_of c.args.scope.now in
    let n = c.args.number in
    let lookup = c.in-Some.ensures.lookup in
    let here = entry_at c.args.scope.now c.list.result.now n c.in-Some.declared.now c.list.ensures lookup.3.0 lookup.1 in
    subst (λ o. ComesTo es c.meant_work.result (extended_if c.args.extension (here_term es n o))) (sym here) (c.meant_work.ensures.comes es)

pub returns-in-Some-clause-weight : goal.returns-in-Some-clause-weight
returns-in-Some-clause-weight c =
    let es = entries_of c.args.scope.now in
    let n = c.args.number in
    let lookup = c.in-Some.ensures.lookup in
    let here = entry_at c.args.scope.now c.list.result.now n c.in-Some.declared.now c.list.ensures lookup.3.0 lookup.1 in
    omega (arith, c.meant_work.ensures.weight es, ap (entry_weight (name_weight es n)) here)

pub returns-in-None-clause-comes : goal.returns-in-None-clause-comes
returns-in-None-clause-comes c d ps =
    let none = none_past c.args.scope.now c.list.result.now c.args.number c.list.ensures (ltb-false c.args.number (length c.list.result.now) (sym c.in-None.ensures.lookup.0)) in
    zero_comes d c.args.extension _ ps (ap (here_term (entries_of c.args.scope.now) c.args.number) none)

pub returns-in-None-clause-weight : goal.returns-in-None-clause-weight
returns-in-None-clause-weight c =
    let none = none_past c.args.scope.now c.list.result.now c.args.number c.list.ensures (ltb-false c.args.number (length c.list.result.now) (sym c.in-None.ensures.lookup.0)) in
    omega (arith, ap (entry_weight (name_weight (entries_of c.args.scope.now) c.args.number)) none)
