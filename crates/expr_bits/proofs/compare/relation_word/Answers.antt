-- What is no relation gives 0.
use Rattle.std.proofs.Common.{Ok, false, sym, subst}
use Rattle.expr_bits.proofs.Common.{arena, Const, Makes, ShowsOne, word_at}
use Rattle.expr_bits.proofs.AlongWords.{zero_there, zero_is, no_relation}
use Rattle.expr_bits.proofs.Making.{nothing_made}
use Rattle.expr_bits.proofs.compare.relation_word.Goals as goal

pub returns-in_default : goal.returns-in_default
returns-in_default c =
    subst (λ m. Makes ShowsOne c.args.exprs.now c.args.exprs.now (Ok (record { 0 = 0 })) m)
    (sym (no_relation c.args.sign (word_at (arena c.args.exprs.now) c.args.first.now) (word_at (arena c.args.exprs.now) c.args.second.now) c.in_default.not-Equal c.in_default.not-Unequal c.in_default.not-Less c.in_default.not-LessEqual c.in_default.not-Greater c.in_default.not-GreaterEqual))
    (nothing_made ShowsOne c.args.exprs.now (record { 0 = 0 }) (Const false) (zero_there c.args.exprs.now, zero_is c.args.exprs.now))
