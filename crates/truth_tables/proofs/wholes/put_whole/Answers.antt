-- A number, a special, and an operator by its shape.
use Rattle.std.proofs.Common.{false, subst}
use Rattle.truth_tables.proofs.Common.{entries_of, names_found, IsClearPart, view, term_of, constant_of, HasShape, IsPart}
use Rattle.truth_tables.proofs.PairLaws.{put_number, put_same, shape_unmet}
use Rattle.truth_tables.proofs.PartLaws.{operator_numeral}
use Rattle.truth_tables.proofs.wholes.put_whole.Goals as goal

pub returns-in_ok-push_levels-in-Number : goal.returns-in_ok-push_levels-in-Number
returns-in_ok-push_levels-in-Number c d h e is x i k =
    put_number d h e c.in_ok-width.width c.in-Number.number c.args.marks.now.items c.push_levels.new.marks.items (subst (λ z. IsPart d z e) c.in-Number.is i) k (c.in_ok-width.ensures d h is x) c.in_ok-push_levels-in-Number.ensures

pub returns-in_ok-push_same-in-Special : goal.returns-in_ok-push_same-in-Special
returns-in_ok-push_same-in-Special c d h e is x i k =
    let w = c.in_ok-width.width in
    put_same d h e c.in-Special.letter w c.special_mark.result c.args.marks.now.items c.push_same.new.marks.items (subst (λ z. IsPart d z e) c.in-Special.is i) (c.special_mark.ensures d w) k (c.in_ok-width.ensures d h is x) c.in_ok-push_same-in-Special.ensures

pub returns-in_ok-push_levels-in-Number-2 : goal.returns-in_ok-push_levels-in-Number-2
returns-in_ok-push_levels-in-Number-2 c d h e is x i k =
    let w = c.in_ok-width.width in
    let y = c.in-Operator.expr.now in
    let o = subst (λ z. IsPart d z e) c.in-Operator.is i in
    let shape = subst (λ s. HasShape s (constant_of d (term_of d.known (view y)))) c.in-Number-2.is (c.in_ok-number-in-Operator.ensures d is) in
    put_number d h e w c.in-Number-2.number c.args.marks.now.items c.push_levels-in-Number-2.new.marks.items (operator_numeral d y e c.in-Number-2.number o shape) k (c.in_ok-width.ensures d h is x) c.in_ok-push_levels-in-Number-2.ensures

pub returns-in_default : goal.returns-in_default
returns-in_default c d h e is x i k =
    let o = subst (λ z. IsPart d z e) c.in-Operator.is i in
    shape_unmet d h c.in-Operator.expr.now e _ o k c.in_default.not-Number (c.in_ok-number-in-Operator.ensures d is)

pub width_of-requires : goal.width_of-requires
width_of-requires c = c.requires.header

pub shape_of-requires-in-Operator : goal.shape_of-requires-in-Operator
shape_of-requires-in-Operator c = subst (IsClearPart false (names_found (entries_of c.args.scope.now))) c.in-Operator.is c.requires.given
