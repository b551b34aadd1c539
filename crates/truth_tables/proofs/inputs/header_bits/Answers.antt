-- A number that an operator makes, any other, and what has positions.
use Rattle.std.proofs.Common.{◌≡◌, true, false, List, Option, Some, map, reverse, sym, ap, ◌∙◌, subst}
use Rattle.truth_tables.proofs.Common.{ExprId, arena, view, bits_of, context_for, term_of, constant_of, HasShape, is_computed, StandForInputs}
use Rattle.truth_tables.proofs.InputLaws.{stand_all, stand_none, stand_places}
use Rattle.truth_tables.proofs.RowsWalked.{over_same}
use Rattle.truth_tables.proofs.inputs.header_bits.Goals as goal

pub returns-then-not-has_operator-clause-inputs : goal.returns-then-not-has_operator-clause-inputs
returns-then-not-has_operator-clause-inputs g c =
    let d = context_for g.D.Device.table c.args.scope.now in
    let fs = arena c.unit_bits.new.exprs in
    let t = term_of d.known (view c.args.header.now) in
    let number = subst (λ x. HasShape x (constant_of d t)) c.in-Number.is c.in_ok-shaped.ensures.shaped.shape in
    let no : is_computed t ≡ false = sym (c.has_operator.ensures d (over_same g.D.Device.table c.scope.result.now c.args.scope.now c.scope.ensures)) ∙ c.if-not-has_operator.true in
    subst (λ (ps : List (Option ExprId)). StandForInputs d t fs ps) (sym c.new.ensures.items) (stand_none d fs t number.0 no)

pub returns-in_ok-positions-in-Number-clause-inputs : goal.returns-in_ok-positions-in-Number-clause-inputs
returns-in_ok-positions-in-Number-clause-inputs g c =
    let d = context_for g.D.Device.table c.args.scope.now in
    let ns = c.unit_bits.new.exprs in
    let t = term_of d.known (view c.args.header.now) in
    let s = c.in_ok-shaped.ensures.shaped in
    let number = subst (λ x. HasShape x (constant_of d t)) c.in-Number.is s.shape in
    let yes : is_computed t ≡ true = sym (c.has_operator.ensures d (over_same g.D.Device.table c.scope.result.now c.args.scope.now c.scope.ensures)) ∙ c.if-not-has_operator.false in
    subst (λ (ps : List (Option ExprId)). StandForInputs d t (arena ns) ps)
    (sym (c.reverse.ensures.items ∙ ap reverse (c.in_ok-positions-in-Number.ensures ∙ ap (λ (ids : List ExprId). map Some ids) c.deref.ensures.value)))
    (stand_all d (arena ns) t c.in_ok-shaped.shaped c.in_ok-bits-in-Number.bits.items s number.0 yes (c.in_ok-bits-in-Number.ensures ns (constant_of d t) (bits_of d t).what s))

pub returns-in_default-clause-inputs : goal.returns-in_default-clause-inputs
returns-in_default-clause-inputs g c =
    let d = context_for g.D.Device.table c.args.scope.now in
    let fs = arena c.unit_bits.new.exprs in
    let t = term_of d.known (view c.args.header.now) in
    subst (λ (ps : List (Option ExprId)). StandForInputs d t fs ps) (sym (c.reverse-in_default.ensures.items ∙ ap reverse c.into_vec-positions.ensures))
    (stand_places d fs t c.in_ok-shaped.shaped c.in_ok-shaped.ensures.shaped c.in_default.not-Number)
