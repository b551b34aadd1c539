-- What the table finds is what was said of the name.
use Rattle.std.proofs.Common.{sym, ap, ◌∙◌, option_copied}
use Rattle.decls.proofs.SaidWords.{known_said, found_said}
use Rattle.decls.proofs.table.NameTable.said_before.Goals as goal

pub returns-in-Some : goal.returns-in-Some
returns-in-Some c = λ t s sh.
    sym (ap (λ o. known_said (option_copied o)) c.in-Some.is)
    ∙ (ap known_said c.get.ensures.value ∙ found_said t c.args.self.now.names.entries s.entries c.args.name.now sh.rows)

pub returns-in-None : goal.returns-in-None
returns-in-None c = λ t s sh.
    sym (ap (λ o. known_said (option_copied o)) c.in-None.is)
    ∙ (ap known_said c.get.ensures.value ∙ found_said t c.args.self.now.names.entries s.entries c.args.name.now sh.rows)
