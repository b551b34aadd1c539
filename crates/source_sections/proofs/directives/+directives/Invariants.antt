-- After the statements that are left it is what it is after all.
use Rattle.std.proofs.Common.{◌≡◌, drop}
use Rattle.source_sections.proofs.Common.{after_statements, view_list}
use Rattle.source_sections.proofs.directives.+directives.Given as goal

abbrev pub invariant-after_statements-loop-stmt : goal.invariant-after_statements-loop-stmt
invariant-after_statements-loop-stmt l = after_statements l.on (view_list (drop l.stmt-index l.stmts)) ≡ after_statements l.fn.on (view_list l.stmts)
