-- Statements by their kinds, WHEN, and one statement more.
use Rattle.std.proofs.Common.{◌+◌, [], Some, ◌∷◌, map, drop, refl, ap, sym, ◌∙◌, subst, rules, OnOk}
use Rattle.equations.proofs.Common.{on_ok_weaker, drop_all, arena, Stmt, the_lemmas, Statement, view_stmt, view_guard, context_for, keeps_on, kept_formula, kept_inside, stands_same, walks_none, view_list, view_when, StandsStatement, WalksStatement}
use Rattle.section_targets.proofs.Looks.{next_of}
use Rattle.equations.proofs.BuiltUnits.{guard_kept}
use Rattle.equations.proofs.CheckedUnits.{view_assigned, view_whened, view_grouped}
use Rattle.equations.proofs.StandingStatements.{StandsAll, StandsUnder, both_stands, condition_stands, last_stands, next_stands, stands_under, then_stands}
use Rattle.equations.proofs.WalkedStatements.{under_guard, AllUnder, alone_walked, both_walked, next_behind}
use Rattle.equations.proofs.walking.+walks.Goals as goal

pub walk_statement-returns-in-Assign-clause-walks : goal.walk_statement-returns-in-Assign-clause-walks
walk_statement-returns-in-Assign-clause-walks g t c =
    subst (λ (s : Statement). OnOk c.walk_assign.result (WalksStatement g.D.Device.table c.args.scope.now c.args.guard s c.args.out.now c.walk_assign.new.out))
    (sym (ap view_stmt c.in-Assign.is ∙ view_assigned c.in-Assign.assign)) c.walk_assign.ensures.walks

pub walk_statement-returns-in-When-clause-walks : goal.walk_statement-returns-in-When-clause-walks
walk_statement-returns-in-When-clause-walks g t c =
    subst (λ (s : Statement). OnOk c.walk_when.result (WalksStatement g.D.Device.table c.args.scope.now c.args.guard s c.args.out.now c.walk_when.new.out))
    (sym (ap view_stmt c.in-When.is ∙ view_whened c.in-When.when)) c.walk_when.ensures.walks

pub walk_statement-returns-in-Group-clause-walks : goal.walk_statement-returns-in-Group-clause-walks
walk_statement-returns-in-Group-clause-walks g t c =
    subst (λ (s : Statement). OnOk c.walk_statements.result (WalksStatement g.D.Device.table c.args.scope.now c.args.guard s c.args.out.now c.walk_statements.new.out))
    (sym (ap view_stmt c.in-Group.is ∙ view_grouped c.in-Group.group c.as_slice.result.now (sym c.as_slice.ensures))) c.walk_statements.ensures.walks

-- ---- lists

pub walk_statements-loop-stmt-init : goal.walk_statements-loop-stmt-init
walk_statements-loop-stmt-init g t c =
    record { walks = λ all a. record { seen = all; firsts = a; rest = λ new w. w }; stands = λ new x. x; keeps = λ i f e. e; inside = c.requires.guard }

pub walk_statements-loop-stmt-preserved : goal.walk_statements-loop-stmt-preserved
walk_statements-loop-stmt-preserved g t c =
    let d = context_for g.D.Device.table c.args.scope.now in
    let list = c.args.stmts.now in
    let i = c.loop-stmt.stmt-index in
    let old = c.args.out.now in
    let mid = c.loop-stmt.out in
    let new = c.walk_statement.new.out in
    let inv = c.loop-stmt.invariant in
    let item = c.stmt-item.result in
    let here = next_of list i item c.loop-stmt-test.true ∙ ap (λ (x : Stmt). x ∷ drop (i + 1) list) (sym c.stmt-item.is) in
    let kept = (c.in_ok-walk_statement.ensures.walks mid.before (λ k p. refl)).keeps in
    let guard = view_guard (arena old.exprs) c.args.guard in
    let same = guard_kept (arena old.exprs) (arena mid.exprs) c.args.guard (kept_formula _ _ c.args.guard.when inv.keeps c.requires.guard) in
    record {
      walks = λ all a.
          let v = inv.walks all a in
          next_behind d all (view_guard (arena old.exprs) c.args.guard) (view_list list) (map view_stmt (drop i list)) (map view_stmt (drop (i + 1) list)) (view_stmt item) old mid new (ap (map view_stmt) here) v
          (under_guard d v.seen (view_stmt item) (view_guard (arena mid.exprs) c.args.guard) (view_guard (arena old.exprs) c.args.guard) mid new
          (λ e. guard_kept (arena old.exprs) (arena mid.exprs) c.args.guard (kept_formula _ _ c.args.guard.when inv.keeps c.requires.guard))
          (c.in_ok-walk_statement.ensures.walks v.seen v.firsts));
      stands = λ last x.
          inv.stands last
          (next_stands d mid.before guard (map view_stmt (drop i list)) (map view_stmt (drop (i + 1) list)) (view_stmt item) mid new last (ap (map view_stmt) here)
          (under_guard d mid.before (view_stmt item) (view_guard (arena mid.exprs) c.args.guard) guard mid new (λ e. same) (c.in_ok-walk_statement.ensures.walks mid.before (λ k p. refl)))
          (stands_under d (view_stmt item) (view_guard (arena mid.exprs) c.args.guard) guard mid new (λ e. same) c.walk_statement.ensures.stands) x);
      keeps = keeps_on _ _ _ inv.keeps kept;
      inside = kept_inside _ _ c.args.guard.when kept inv.inside;
    }

pub walk_statements-returns-clause-walks : goal.walk_statements-returns-clause-walks
walk_statements-returns-clause-walks g t c = λ all a.
    let v = c.loop-stmt.invariant.walks all a in
    let out = c.loop-stmt.out in
    v.rest out
    (subst (λ zs. AllUnder (context_for g.D.Device.table c.args.scope.now) v.seen (view_guard (arena c.args.out.now.exprs) c.args.guard) (view_list zs) out out)
    (sym (drop_all c.loop-stmt.stmt-index c.args.stmts.now c.loop-stmt-test.false)) (walks_none v.seen out v.firsts))

-- ---- WHEN

pub walk_when-walk_statement-requires-in-Some : goal.walk_when-walk_statement-requires-in-Some
walk_when-walk_statement-requires-in-Some g t c κs within =
    (search (rules, the_lemmas), (within, kept_inside _ _ c.in_ok-chosen.chosen.otherwise (c.in_ok-walk_statement.ensures.walks c.walk_condition.new.out.before (λ k p. refl)).keeps c.in_ok-chosen.ensures.guards.else_inside))

pub walk_when-returns-in-None-clause-walks : goal.walk_when-returns-in-None-clause-walks
walk_when-returns-in-None-clause-walks g t c =
    alone_walked g.D.Device.table c.args.scope.now c.args.guard c.args.when.now _ c.in_ok-chosen.chosen _ c.args.out.now c.walk_condition.new.out c.walk_statement.new.out
    c.get.ensures c.is_some.ensures c.in_ok-chosen.ensures.walks c.in_ok-chosen.ensures.guards c.in_ok-walk_statement.ensures.walks c.in-None.is

pub walk_when-returns-in-Some-clause-walks : goal.walk_when-returns-in-Some-clause-walks
walk_when-returns-in-Some-clause-walks g t c =
    on_ok_weaker c.walk_statement-in-Some.result
    (both_walked g.D.Device.table c.args.scope.now c.args.guard c.args.when.now _ c.in_ok-chosen.chosen _ c.args.out.now c.walk_condition.new.out c.walk_statement.new.out
    c.get.ensures c.is_some.ensures c.in_ok-chosen.ensures.walks c.in_ok-chosen.ensures.guards c.in_ok-walk_statement.ensures.walks c.get-in-Some.result.now c.walk_statement-in-Some.new.out (c.in-Some.is ∙ ap Some (sym c.get-in-Some.ensures)))
    c.walk_statement-in-Some.ensures.walks

pub walk_statement-returns-in-Assign-clause-stands : goal.walk_statement-returns-in-Assign-clause-stands
walk_statement-returns-in-Assign-clause-stands g t c =
    subst (λ (s : Statement). StandsStatement g.D.Device.table c.args.scope.now c.args.guard s c.args.out.now c.walk_assign.new.out) (sym (ap view_stmt c.in-Assign.is ∙ view_assigned c.in-Assign.assign)) c.walk_assign.ensures.stands

pub walk_statement-returns-in-When-clause-stands : goal.walk_statement-returns-in-When-clause-stands
walk_statement-returns-in-When-clause-stands g t c =
    subst (λ (s : Statement). StandsStatement g.D.Device.table c.args.scope.now c.args.guard s c.args.out.now c.walk_when.new.out) (sym (ap view_stmt c.in-When.is ∙ view_whened c.in-When.when)) c.walk_when.ensures.stands

pub walk_statement-returns-in-Group-clause-stands : goal.walk_statement-returns-in-Group-clause-stands
walk_statement-returns-in-Group-clause-stands g t c =
    subst (λ (s : Statement). StandsStatement g.D.Device.table c.args.scope.now c.args.guard s c.args.out.now c.walk_statements.new.out) (sym (ap view_stmt c.in-Group.is ∙ view_grouped c.in-Group.group c.as_slice.result.now (sym c.as_slice.ensures))) c.walk_statements.ensures.stands

pub walk_statement-returns-in-DontCare-clause-stands : goal.walk_statement-returns-in-DontCare-clause-stands
walk_statement-returns-in-DontCare-clause-stands g t c =
    condition_stands g.D.Device.table c.args.scope.now c.args.guard (view_stmt c.args.stmt.now) c.args.out.now c.args.out.now (stands_same [] [] c.args.out.now c.args.out.now refl)

pub walk_statements-returns-in_err-walk_statement-clause-stands : goal.walk_statements-returns-in_err-walk_statement-clause-stands
walk_statements-returns-in_err-walk_statement-clause-stands g t c =
    let d = context_for g.D.Device.table c.args.scope.now in
    let list = c.args.stmts.now in
    let i = c.loop-stmt.stmt-index in
    let old = c.args.out.now in
    let mid = c.loop-stmt.out in
    let new = c.walk_statement.new.out in
    let inv = c.loop-stmt.invariant in
    let item = c.stmt-item.result in
    let here = next_of list i item c.loop-stmt-test.true ∙ ap (λ (x : Stmt). x ∷ drop (i + 1) list) (sym c.stmt-item.is) in
    inv.stands new
    (last_stands d (view_guard (arena old.exprs) c.args.guard) (map view_stmt (drop i list)) (map view_stmt (drop (i + 1) list)) (view_stmt item) mid new (ap (map view_stmt) here)
    (stands_under d (view_stmt item) (view_guard (arena mid.exprs) c.args.guard) (view_guard (arena old.exprs) c.args.guard) mid new
    (λ e. guard_kept (arena old.exprs) (arena mid.exprs) c.args.guard (kept_formula _ _ c.args.guard.when inv.keeps c.requires.guard)) c.walk_statement.ensures.stands))

pub walk_statements-returns-clause-stands : goal.walk_statements-returns-clause-stands
walk_statements-returns-clause-stands g t c =
    let out = c.loop-stmt.out in
    c.loop-stmt.invariant.stands out
    (subst (λ zs. StandsAll (context_for g.D.Device.table c.args.scope.now) (view_guard (arena c.args.out.now.exprs) c.args.guard) (view_list zs) out out)
    (sym (drop_all c.loop-stmt.stmt-index c.args.stmts.now c.loop-stmt-test.false)) (stands_same [] [] out out refl))

pub walk_when-returns-in_err-chosen-clause-stands : goal.walk_when-returns-in_err-chosen-clause-stands
walk_when-returns-in_err-chosen-clause-stands g t c =
    condition_stands g.D.Device.table c.args.scope.now c.args.guard (view_when c.args.when.now) c.args.out.now c.walk_condition.new.out c.walk_condition.ensures.stands

pub walk_when-returns-in_err-walk_statement-clause-stands : goal.walk_when-returns-in_err-walk_statement-clause-stands
walk_when-returns-in_err-walk_statement-clause-stands g t c =
    then_stands g.D.Device.table c.args.scope.now c.args.guard c.args.when.now _ c.in_ok-chosen.chosen _ c.args.out.now c.walk_condition.new.out c.walk_statement.new.out
    c.get.ensures c.is_some.ensures c.in_ok-chosen.ensures.walks c.in_ok-chosen.ensures.guards c.walk_condition.ensures.stands c.walk_statement.ensures.stands

pub walk_when-returns-in-None-clause-stands : goal.walk_when-returns-in-None-clause-stands
walk_when-returns-in-None-clause-stands g t c =
    then_stands g.D.Device.table c.args.scope.now c.args.guard c.args.when.now _ c.in_ok-chosen.chosen _ c.args.out.now c.walk_condition.new.out c.walk_statement.new.out
    c.get.ensures c.is_some.ensures c.in_ok-chosen.ensures.walks c.in_ok-chosen.ensures.guards c.walk_condition.ensures.stands c.walk_statement.ensures.stands

pub walk_when-returns-in-Some-clause-stands : goal.walk_when-returns-in-Some-clause-stands
walk_when-returns-in-Some-clause-stands g t c =
    both_stands g.D.Device.table c.args.scope.now c.args.guard c.args.when.now _ c.in_ok-chosen.chosen _ c.args.out.now c.walk_condition.new.out c.walk_statement.new.out
    c.get.ensures c.is_some.ensures c.in_ok-chosen.ensures.walks c.in_ok-chosen.ensures.guards c.walk_condition.ensures.stands c.walk_statement.ensures.stands
    c.in_ok-walk_statement.ensures.walks c.get-in-Some.result.now c.walk_statement-in-Some.new.out (c.in-Some.is ∙ ap Some (sym c.get-in-Some.ensures)) c.walk_statement-in-Some.ensures.stands
