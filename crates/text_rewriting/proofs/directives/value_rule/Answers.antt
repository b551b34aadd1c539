-- A block, and the digits of a value in the radix in force.
use Rattle.std.proofs.Common.{rules, ◌≡◌, ◌++◌, Some}
use Rattle.text_rewriting.proofs.Common.{ahead, joined, tables_of, value_form, digits_in}
use Rattle.text_rewriting.proofs.Moves.{value_moves}
use Rattle.text_rewriting.proofs.directives.value_rule.Goals as goal

pub returns-in-Some-clause-moves : goal.returns-in-Some-clause-moves
returns-in-Some-clause-moves c =
    let e : value_form (tables_of c.args.tables.now) (ahead c.args.at.now) ≡ Some (joined c.in-Some.block.items ++ digits_in 32 c.args.tables.now.radix c.in-Some.value, ahead c.read_expression.new.at) = search rules in
    value_moves (value_form (tables_of c.args.tables.now) (ahead c.args.at.now)) (joined c.in-Some.block.items) (ahead c.read_expression.new.at) c.radix.result c.args.tables.now.radix c.in-Some.value e c.radix.ensures.value
