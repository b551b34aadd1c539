-- The entry of the name is what the tables say.
use Rattle.std.proofs.Common.{sym, ap, ◌∙◌}
use Rattle.abel_macros.proofs.Common.{option_copied, Kept, under}
use Rattle.abel_macros.proofs.Looked.{looked_up}
use Rattle.abel_macros.proofs.tables.Tables.value.Goals as goal

pub returns-in-Some : goal.returns-in-Some
returns-in-Some c =
    sym (ap option_copied c.in-Some.is) ∙ (c.get.ensures.value ∙ looked_up c.self.inside.values.entries c.args.name.now ∙ ap (λ (k : Kept). under k.values c.args.name.now) c.self.view_is)

pub returns-in-None : goal.returns-in-None
returns-in-None c =
    sym (ap option_copied c.in-None.is) ∙ (c.get.ensures.value ∙ looked_up c.self.inside.values.entries c.args.name.now ∙ ap (λ (k : Kept). under k.values c.args.name.now) c.self.view_is)
