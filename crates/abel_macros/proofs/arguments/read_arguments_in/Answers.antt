-- The last argument, and one before others.
use Rattle.std.proofs.Common.{rules, ◌≡◌, Some, sym, ap, ◌∙◌, arith}
use Rattle.abel_macros.proofs.Common.{ahead, joined, argument, arguments_in, texts}
use Rattle.abel_macros.proofs.Lists.{argument_last, argument_next, texts_push}
use Rattle.abel_macros.proofs.arguments.read_arguments_in.Goals as goal

pub returns-then-closes-clause-some : goal.returns-then-closes-clause-some
returns-then-closes-clause-some c =
    let e : argument (ahead c.arguments.at) ≡ Some (joined c.in-Some.argument.items, ahead c.read_argument.new.at) = search rules in
    argument_last (texts c.arguments.arguments.items) (ahead c.arguments.at) c.arguments.more (arguments_in c.args.most (ahead c.args.at.now)) (omega arith) c.arguments.invariant.read
    (joined c.in-Some.argument.items) (ahead c.read_argument.new.at) e (texts c.push.new.self.items) (ahead c.skip_any.new.at)
    (sym c.if-closes.true ∙ c.is_next-closes.ensures) c.skip_any.ensures.ahead (ap texts c.in_ok-push.ensures.items ∙ texts_push c.arguments.arguments.items c.in-Some.argument)

pub arguments-preserved : goal.arguments-preserved
arguments-preserved c =
    let e : argument (ahead c.arguments.at) ≡ Some (joined c.in-Some.argument.items, ahead c.read_argument.new.at) = search rules in
    record {
      read =
          argument_next (texts c.arguments.arguments.items) (ahead c.arguments.at) c.arguments.more (arguments_in c.args.most (ahead c.args.at.now)) (omega arith) c.arguments.invariant.read
          (joined c.in-Some.argument.items) (ahead c.read_argument.new.at) e (texts c.push.new.self.items) (ahead c.skip_any.new.at)
          (sym c.if-closes.false ∙ c.is_next-closes.ensures) c.skip_any.ensures.ahead (ap texts c.in_ok-push.ensures.items ∙ texts_push c.arguments.arguments.items c.in-Some.argument);
      whole = search rules;
      further = omega (arith, c.skip_any.ensures.further, c.read_argument.ensures.further, c.arguments.invariant.further);
    }
