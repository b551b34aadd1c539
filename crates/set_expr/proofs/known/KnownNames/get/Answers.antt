use Rattle.std.proofs.Common.{ap, ◌∙◌}
use Rattle.set_expr.proofs.Common.{Table, under}
use Rattle.set_expr.proofs.NamesMore.{looked_up}
use Rattle.set_expr.proofs.known.KnownNames.get.Goals as goal

pub returns : goal.returns
returns c = c.copied.ensures ∙ (c.get.ensures.value ∙ looked_up c.self.inside.names.entries c.args.name.now ∙ ap (λ (t : Table). under t.names c.args.name.now) c.self.view_is)
