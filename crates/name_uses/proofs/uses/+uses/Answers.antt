-- Each turn goes one operator down, and lists one right side on the way back.
use Rattle.std.proofs.Common.{◌≡◌, ◌<◌, ◌≤◌, [], ◌∷◌, ◌++◌, OnOk, map, sym, ap, ap₂, ◌∙◌, subst, arith, append_assoc}
use Rattle.name_uses.proofs.Common.{flat_map, map_push, size-Expr, view, view_member, member_used, names_used, view_use}
use Rattle.std.proofs.lemmas.Result.{on_ok_weaker}
use Rattle.abel_tree.specs.declared.expressions.Expr as expr
use Rattle.name_uses.proofs.Lists.{set_uses}
use Rattle.name_uses.proofs.Unrolled.{binary_uses, expr_at, EachBelow, Unrolls, rights_used, goes_down, goes_up, below_pop}
use Rattle.name_uses.proofs.uses.+uses.Goals as goal

pub put_expr-down-preserved : goal.put_expr-down-preserved
put_expr-down-preserved t c =
    let e : map expr_at c.push.new.self.items ≡ map expr_at c.down.rights.items ++ c.get.result.now ∷ [] = rw c.in_ok-push.ensures.items (map_push expr_at c.down.rights.items c.get.result) in
    let g : Unrolls c.args.outer (expr.Binary c.in-Binary.sign c.in-Binary.place c.in-Binary.left c.in-Binary.right) (map expr_at c.down.rights.items) c.args.expr.now = subst (λ x. Unrolls c.args.outer x (map expr_at c.down.rights.items) c.args.expr.now) c.in-Binary.is c.down.invariant.0 in
    let d = subst (λ x. size-Expr x ≤ size-Expr c.args.expr.now) c.in-Binary.is c.down.invariant.1 in
    rw (e, c.get-first.ensures, c.get.ensures) (goes_down c.args.outer c.in-Binary.sign c.in-Binary.place c.in-Binary.left c.in-Binary.right (map expr_at c.down.rights.items) c.args.expr.now g d)

pub put_expr-put_expr-requires : goal.put_expr-put_expr-requires
put_expr-put_expr-requires t c =
    let e : map expr_at c.up.rights.items ≡ map expr_at c.pop.new.self.items ++ c.in-Some.right.now ∷ [] = rw c.in-Some.ensures.items (map_push expr_at c.pop.new.self.items c.in-Some.right) in
    let p = below_pop (size-Expr c.args.expr.now) (map expr_at c.pop.new.self.items) c.in-Some.right.now (subst (λ xs. EachBelow (size-Expr c.args.expr.now) xs) e c.up.invariant.below) in
    let below : size-Expr c.in-Some.right.now < size-Expr c.args.expr.now = p.0 in
    (omega (arith, below, c.decreases), tt)

pub put_expr-up-preserved : goal.put_expr-up-preserved
put_expr-up-preserved t c =
    let e : map expr_at c.up.rights.items ≡ map expr_at c.pop.new.self.items ++ c.in-Some.right.now ∷ [] = rw c.in-Some.ensures.items (map_push expr_at c.pop.new.self.items c.in-Some.right) in
    let p = below_pop (size-Expr c.args.expr.now) (map expr_at c.pop.new.self.items) c.in-Some.right.now (subst (λ xs. EachBelow (size-Expr c.args.expr.now) xs) e c.up.invariant.below) in
    let us = map view_use c.up.uses.items in
    let all = map view_use c.args.uses.now.items ++ names_used c.args.outer (view c.args.expr.now) in
    record {
      below = p.1;
      listed = ap (λ xs. xs ++ rights_used c.args.outer (map expr_at c.pop.new.self.items)) c.in_ok-put_expr.ensures
          ∙ goes_up c.args.outer (map expr_at c.pop.new.self.items) c.in-Some.right.now us all (subst (λ xs. us ++ rights_used c.args.outer xs ≡ all) e c.up.invariant.listed);
    }

pub put_level-returns-in-Set : goal.put_level-returns-in-Set
put_level-returns-in-Set t c =
    let own = c.in-Set.extension in
    subst (λ us. OnOk c.put_members.result (map view_use c.put_members.new.uses.items ≡ map view_use c.args.uses.now.items ++ us))
    (ap₂ (λ e xs. flat_map (member_used e) (map view_member xs)) c.innermost-in-Set.ensures c.as_slice.ensures
    ∙ sym (ap (λ y. names_used c.args.outer (view y)) c.in-Set.is ∙ set_uses c.args.outer own c.in-Set.place c.in-Set.members))
    c.put_members.ensures

pub put_level-returns-in_ok-put_expr-in-Binary : goal.put_level-returns-in_ok-put_expr-in-Binary
put_level-returns-in_ok-put_expr-in-Binary t c =
    let o = c.args.outer in
    let old = map view_use c.args.uses.now.items in
    on_ok_weaker c.put_expr-in-Binary-2.result
    (λ h.
    h
    ∙ (ap (λ us. us ++ names_used o (view c.get-in-Binary-2.result.now)) c.in_ok-put_expr-in-Binary.ensures
    ∙ (append_assoc old (names_used o (view c.get-in-Binary.result.now)) (names_used o (view c.get-in-Binary-2.result.now))
    ∙ ap (λ us. old ++ us)
    (ap₂ (λ a b. names_used o (view a) ++ names_used o (view b)) c.get-in-Binary.ensures c.get-in-Binary-2.ensures
    ∙ sym (ap (λ y. names_used o (view y)) {y = expr.Binary c.in-Binary.sign c.in-Binary.place c.in-Binary.left c.in-Binary.right} c.in-Binary.is ∙ binary_uses o c.in-Binary.sign c.in-Binary.place c.in-Binary.left c.in-Binary.right)))))
    c.put_expr-in-Binary-2.ensures
