-- A name that is found is refused, another is a row after the others.
use Rattle.std.proofs.Common.{refl, sym, ap, ◌∙◌}
use Rattle.decls.proofs.Common.{bytes_eq, lookup, kind_of, view_said}
use Rattle.indexmap.proofs.CallerLemmas.{insert_entry-new}
use Rattle.decls.proofs.Found.{known_kind, found, is_found, none_found}
use Rattle.decls.proofs.Entered.{again, newly}
use Rattle.decls.proofs.table.NameTable.enter.Goals as goal

pub returns-then-is_some : goal.returns-then-is_some
returns-then-is_some c = λ t s k e sh.
    again t c.refuse.new.self s c.args.known.place c.args.name.now k (view_said c.args.known.said) c.in_ok-text.text
    (is_found t c.get.result (kind_of s.entries c.args.name.now) (ap known_kind c.get.ensures.value ∙ found t c.args.self.now.names.entries s.entries c.args.name.now sh.rows) ∙ (sym c.is_some.ensures ∙ c.if-is_some.true))
    c.in_ok-text.ensures
    (c.refuse.ensures t s sh)

pub returns : goal.returns
returns c = λ t s k e sh.
    newly t c.args.self.now (record c.args.self.now { names = c.insert.new.self }) s c.args.name.now k c.args.known c.in_ok-key.key
    (is_found t c.get.result (kind_of s.entries c.args.name.now) (ap known_kind c.get.ensures.value ∙ found t c.args.self.now.names.entries s.entries c.args.name.now sh.rows) ∙ (sym c.is_some.ensures ∙ c.if-is_some.false))
    c.in_ok-key.ensures.items e refl
    (c.in_ok-insert.ensures.entries ∙ insert_entry-new _ c.args.self.now.names c.in_ok-key.key _ (ap (λ w. lookup (λ k. bytes_eq w k.items) c.args.self.now.names.entries) c.in_ok-key.ensures.items ∙ (sym c.get.ensures.value ∙ none_found c.get.result (sym c.is_some.ensures ∙ c.if-is_some.false))))
    sh
