-- The statements of a group.
use Rattle.std.proofs.Common.{◌≡◌, ◌++◌, map, OnOk, subst, sym, ap, ◌∙◌}
use Rattle.name_uses.proofs.Common.{flat_map, view_stmt, parts_in_statement, view_part}
use Rattle.name_uses.proofs.Lists.{group_parts}
use Rattle.name_uses.proofs.statements.+statements.Goals as goal

pub put_stmt-returns-in-Group : goal.put_stmt-returns-in-Group
put_stmt-returns-in-Group t c =
    subst (λ ps. OnOk c.put_stmts.result (map view_part c.put_stmts.new.parts.items ≡ map view_part c.args.parts.now.items ++ ps))
    (ap (λ xs. flat_map parts_in_statement (map view_stmt xs)) c.as_slice.ensures
    ∙ sym (ap (λ y. parts_in_statement (view_stmt y)) c.in-Group.is ∙ group_parts c.in-Group.list))
    c.put_stmts.ensures
