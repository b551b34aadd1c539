-- Statements one after the other.
use Rattle.std.proofs.Common.{true, None, Some, ◌+◌, map, take, sym, ap, ap₂, ◌∙◌, ◌++◌, append-nil}
use Rattle.design_checks.proofs.Common.{IfOk-weaker, earlier, first_refusal, view_stmt, first_append, context_for, front_more, use_order, list_refused, statement_refused}
use Rattle.design_checks.proofs.JoinedFirsts.{one_more}
use Rattle.design_checks.proofs.RefusedStatements.{list_push, refused_of_group, refused_of_when}
use Rattle.design_checks.proofs.spelling.+statements.Goals as goal

pub refused_list-loop-stmt-preserved : goal.refused_list-loop-stmt-preserved
refused_list-loop-stmt-preserved g t c l =
    let d = context_for g.D.Device.table c.args.scope.now in
    let b = c.args.guarded in
    let xs = c.args.list.now in
    let i = c.loop-stmt.stmt-index in
    let x = c.stmt-item.result in
    c.earlier-first.ensures
    ∙ ap₂ (earlier use_order) (c.loop-stmt.invariant l) (c.in_ok-refused_stmt.ensures l)
    ∙ one_more (first_refusal use_order) (earlier use_order) (first_append use_order) (list_refused d b) (map view_stmt (take i xs)) (map view_stmt (take (i + 1) xs)) (view_stmt x) (statement_refused d b (view_stmt x))
    (front_more view_stmt xs i x c.loop-stmt-test.true c.stmt-item.is) (list_push d b (map view_stmt (take i xs)) (view_stmt x))

pub refused_stmt-returns-in-Group : goal.refused_stmt-returns-in-Group
refused_stmt-returns-in-Group g t c =
    let d = context_for g.D.Device.table c.args.scope.now in
    IfOk-weaker c.refused_list.result _ _
    (λ r h l.
    h l
    ∙ ap (λ xs. first_refusal use_order (list_refused d c.args.guarded (map view_stmt xs))) c.as_slice.ensures
    ∙ ap (first_refusal use_order) (refused_of_group d c.args.guarded c.args.stmt.now c.in-Group.list c.in-Group.is))
    c.refused_list.ensures

pub refused_stmt-returns-in-None : goal.refused_stmt-returns-in-None
refused_stmt-returns-in-None g t c l =
    let d = context_for g.D.Device.table c.args.scope.now in
    let w = c.in-When.when in
    c.in_ok-then-in-When.ensures l
    ∙ ap (first_refusal use_order)
    (ap (λ x. statement_refused d true (view_stmt x)) c.get.ensures
    ∙ sym (append-nil (statement_refused d true (view_stmt w.then)))
    ∙ refused_of_when d c.args.guarded c.args.stmt.now w None c.in-When.is c.in-None.is)

pub refused_stmt-returns-in_ok-other-in-Some : goal.refused_stmt-returns-in_ok-other-in-Some
refused_stmt-returns-in_ok-other-in-Some g t c l =
    let d = context_for g.D.Device.table c.args.scope.now in
    let w = c.in-When.when in
    let one = statement_refused d true (view_stmt c.get.result.now) in
    let two = statement_refused d true (view_stmt c.get-in-Some.result.now) in
    c.earlier.ensures
    ∙ ap₂ (earlier use_order) (c.in_ok-then-in-When.ensures l) (c.in_ok-other-in-Some.ensures l)
    ∙ sym (first_append use_order one two)
    ∙ ap (first_refusal use_order)
    (ap₂ (λ x y. statement_refused d true (view_stmt x) ++ statement_refused d true (view_stmt y)) c.get.ensures c.get-in-Some.ensures
    ∙ refused_of_when d c.args.guarded c.args.stmt.now w (Some c.in-Some.other) c.in-When.is c.in-Some.is)
