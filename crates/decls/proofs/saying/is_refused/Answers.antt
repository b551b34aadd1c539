-- By the words and by what was said before.
use Rattle.std.proofs.Common.{◌∙◌}
use Rattle.decls.proofs.Sayings.{refused_by}
use Rattle.decls.proofs.saying.is_refused.Goals as goal

pub returns : goal.returns
returns c = λ ws h.
    c.is_either.ensures ∙ refused_by c.args.befores.now c.args.earlier c.args.words ws c.is_clash_for.result h c.is_clash_for.ensures
