-- The string is refused, or nothing is.
use Rattle.std.proofs.Common.{true, false, map, subst, sym, ◌∙◌}
use Rattle.decls.proofs.Common.{words_of, Shows, view_said}
use Rattle.decls.proofs.Sayings.{refused_one}
use Rattle.decls.proofs.table.NameTable.check_string.Goals as goal

pub returns-then-is_refused : goal.returns-then-is_refused
returns-then-is_refused c = λ m s sh.
    subst (Shows m c.refuse.new.self)
    (refused_one s (map view_said c.args.befores.now) (view_said c.args.earlier) c.args.string.now true (sym (c.is_refused.ensures (words_of c.args.string.now.text) c.requires) ∙ c.if-is_refused.true))
    (c.refuse.ensures m s sh)

pub returns-else-is_refused : goal.returns-else-is_refused
returns-else-is_refused c = λ m s sh.
    subst (Shows m c.args.self.now)
    (refused_one s (map view_said c.args.befores.now) (view_said c.args.earlier) c.args.string.now false (sym (c.is_refused.ensures (words_of c.args.string.now.text) c.requires) ∙ c.if-is_refused.false))
    sh
