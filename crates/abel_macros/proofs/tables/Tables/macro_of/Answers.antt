-- The entry of the name is what the tables say.
use Rattle.std.proofs.Common.{ap, ◌∙◌}
use Rattle.abel_macros.proofs.Common.{Kept, under}
use Rattle.abel_macros.proofs.Looked.{looked_up, copied_some, copied_none}
use Rattle.abel_macros.proofs.tables.Tables.macro_of.Goals as goal

pub returns-clause-some : goal.returns-clause-some
returns-clause-some c =
    copied_some c.get.result (under c.args.self.now.macros c.args.name.now)
    (c.get.ensures.value ∙ looked_up c.self.inside.macros.entries c.args.name.now ∙ ap (λ (k : Kept). under k.macros c.args.name.now) c.self.view_is)

pub returns-clause-none : goal.returns-clause-none
returns-clause-none c =
    copied_none c.get.result (under c.args.self.now.macros c.args.name.now)
    (c.get.ensures.value ∙ looked_up c.self.inside.macros.entries c.args.name.now ∙ ap (λ (k : Kept). under k.macros c.args.name.now) c.self.view_is)
