-- What the table finds is what the name is declared as first.
use Rattle.std.proofs.Common.{ap, ◌∙◌, option_copied}
use Rattle.decls.proofs.Common.{kind_of, view_meaning}
use Rattle.decls.proofs.Found.{known_kind, found, is_as_wanted, is_unknown}
use Rattle.decls.proofs.table.NameTable.is_known.Goals as goal

pub returns-in-Some : goal.returns-in-Some
returns-in-Some c = λ t s sh.
    is_as_wanted t c.args.signal c.is_wanted.result (view_meaning c.in-Some.known.now.meaning) c.get.result (kind_of s.entries c.args.name.now)
    (ap known_kind c.get.ensures.value ∙ found t c.args.self.now.names.entries s.entries c.args.name.now sh.rows)
    (ap (λ o. known_kind (option_copied o)) c.in-Some.is)
    c.is_wanted.ensures

pub returns-in-None : goal.returns-in-None
returns-in-None c = λ t s sh.
    is_unknown t c.args.signal c.get.result (kind_of s.entries c.args.name.now)
    (ap known_kind c.get.ensures.value ∙ found t c.args.self.now.names.entries s.entries c.args.name.now sh.rows)
    c.in-None.is
