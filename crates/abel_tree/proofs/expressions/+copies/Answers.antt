-- Each turn goes one operator down, and one back up.
use Rattle.std.proofs.Common.{◌≡◌, ◌<◌, ◌≤◌, [], ◌∷◌, ◌++◌, map, sym, ap, subst, ◌∙◌, arith}
use Rattle.std.proofs.lemmas.List.{map_push}
use Rattle.abel_tree.specs.declared.expressions.Expr.{size-Expr}
use Rattle.abel_tree.specs.declared.expressions.Expr as expr
use Rattle.abel_tree.proofs.Regrown.{seen, Regrows, goes_down, goes_up}
use Rattle.abel_tree.proofs.expressions.+copies.Goals as goal

pub Expr::copy-down-preserved : goal.Expr::copy-down-preserved
Expr::copy-down-preserved t c =
    let e : map seen c.push.new.self.items ≡ map seen c.down.links.items ++ (c.in-Binary.sign, c.in-Binary.place, c.get.result.now) ∷ [] = rw c.in_ok-push.ensures.items (map_push seen c.down.links.items (c.in-Binary.sign, c.in-Binary.place, c.get.result)) in
    let g : Regrows (expr.Binary c.in-Binary.sign c.in-Binary.place c.in-Binary.left c.in-Binary.right) (map seen c.down.links.items) c.args.self.now = subst (λ x. Regrows x (map seen c.down.links.items) c.args.self.now) c.in-Binary.is c.down.invariant.0 in
    let d = subst (λ x. size-Expr x ≤ size-Expr c.args.self.now) c.in-Binary.is c.down.invariant.1 in
    rw (e, c.get-first.ensures, c.get.ensures) (goes_down c.in-Binary.sign c.in-Binary.place c.in-Binary.left c.in-Binary.right (map seen c.down.links.items) c.args.self.now g d)

pub Expr::copy-copy-requires : goal.Expr::copy-copy-requires
Expr::copy-copy-requires t c =
    let e : map seen c.up.links.items ≡ map seen c.pop.new.self.items ++ (c.in-Some.sign, c.in-Some.place, c.in-Some.right.now) ∷ [] = rw c.in-Some.ensures.items (map_push seen c.pop.new.self.items (c.in-Some.sign, c.in-Some.place, c.in-Some.right)) in
    let u = goes_up c.in-Some.sign c.in-Some.place c.up.whole c.in-Some.right.now (map seen c.pop.new.self.items) c.args.self.now (subst (λ xs. Regrows c.up.whole xs c.args.self.now) e c.up.invariant) in
    let below : size-Expr c.in-Some.right.now < size-Expr c.args.self.now = u.1 in
    (omega (arith, below, c.decreases), tt)

pub Expr::copy-up-preserved : goal.Expr::copy-up-preserved
Expr::copy-up-preserved t c =
    let e : map seen c.up.links.items ≡ map seen c.pop.new.self.items ++ (c.in-Some.sign, c.in-Some.place, c.in-Some.right.now) ∷ [] = rw c.in-Some.ensures.items (map_push seen c.pop.new.self.items (c.in-Some.sign, c.in-Some.place, c.in-Some.right)) in
    let u = goes_up c.in-Some.sign c.in-Some.place c.up.whole c.in-Some.right.now (map seen c.pop.new.self.items) c.args.self.now (subst (λ xs. Regrows c.up.whole xs c.args.self.now) e c.up.invariant) in
    rw (c.in_ok-left.ensures, c.in_ok-right.ensures, c.in_ok-copy.ensures) u.0
