-- Statements one after the other.
use Rattle.std.proofs.Common.{◌≡◌, map, take}
use Rattle.design_checks.proofs.Common.{first_refusal, view_stmt, context_for, Knows, use_order, list_refused}
use Rattle.design_checks.proofs.spelling.+statements.Given as goal

abbrev pub invariant-refused_list-loop-stmt : goal.invariant-refused_list-loop-stmt
invariant-refused_list-loop-stmt g l =
    Knows (context_for g.D.Device.table l.scope) l.names
    → l.first ≡ first_refusal use_order (list_refused (context_for g.D.Device.table l.scope) l.guarded (map view_stmt (take l.stmt-index l.list)))
