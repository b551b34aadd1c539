-- The words of one name more, if it is known.
use Rattle.std.proofs.Common.{map, sym, ap, ◌∙◌, option_map}
use Rattle.decls.proofs.Common.{list_any, on_ok_weaker, view_said, said_before}
use Rattle.decls.proofs.SaidWords.{some_before, none_before}
use Rattle.decls.proofs.table.NameTable.add_before.Goals as goal

pub returns-in-Some : goal.returns-in-Some
returns-in-Some c =
    on_ok_weaker c.add_said.result
    (λ h t s p sh.
    h p
    ∙ some_before p (list_any p (map view_said c.args.befores.now.items)) (view_said c.in-Some.said) s.entries c.args.given.now.name.items
    (sym (ap (option_map view_said) c.in-Some.is) ∙ (c.said_before.ensures t s sh ∙ ap (said_before s.entries) c.as_slice.ensures.value)))
    c.add_said.ensures

pub returns-in-None : goal.returns-in-None
returns-in-None c = λ t s p sh.
    none_before p (list_any p (map view_said c.args.befores.now.items)) s.entries c.args.given.now.name.items
    (sym (ap (option_map view_said) c.in-None.is) ∙ (c.said_before.ensures t s sh ∙ ap (said_before s.entries) c.as_slice.ensures.value))
