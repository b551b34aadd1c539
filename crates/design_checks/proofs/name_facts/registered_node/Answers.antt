use Rattle.std.proofs.Common.{◌≡◌, ℕ, suc, List, ◌∷◌, [], ◌++◌, ◌+◌, length, map, take, sym, ap, ap₂, ◌∙◌, arith, append_assoc, append-nil}
use Rattle.design_checks.proofs.Common.{Entry, view_declared, earlier, first_refusal, first_append, front_long, front_more, node_refused, registered_nodes, told_if, use_order}
use Rattle.design_checks.proofs.JoinedFirsts.{one_more}
use Rattle.design_checks.proofs.name_facts.registered_node.Goals as goal

-- one name more
nodes_push : (s i : ℕ) (xs : List Entry) (x : Entry) → i ≡ s + length xs → registered_nodes s (xs ++ x ∷ []) ≡ registered_nodes s xs ++ node_refused i x
nodes_push s i [] x e = append-nil (node_refused s x) ∙ ap (λ n. node_refused n x) (let same : s ≡ i = omega (arith, e) in same)
nodes_push s i (y ∷ ys) x e =
    ap (λ rs. node_refused s y ++ rs) (nodes_push (suc s) i ys x (omega (arith, e)))
    ∙ sym (append_assoc (node_refused s y) (registered_nodes (suc s) ys) (node_refused i x))

pub loop-number-preserved : goal.loop-number-preserved
loop-number-preserved c =
    let ds = c.list-declared-items.result.now in
    let l = c.loop-number in
    let d = c.declared-item.result in
    let x = view_declared d in
    let xs = map view_declared (take l.number ds) in
    let here : map view_declared (take (l.number + 1) ds) ≡ xs ++ x ∷ [] = front_more view_declared ds l.number d c.loop-number-test.true c.declared-item.is in
    let long : length xs ≡ l.number = front_long view_declared ds l.number (omega (arith, c.loop-number-test.true)) in
    c.earlier-first.ensures
    ∙ ap₂ (earlier use_order) l.invariant (c.told_if.ensures ∙ ap (λ b. first_refusal use_order (told_if b (record { place = x.place; name = l.number }))) c.is_registered_node-refused.ensures)
    ∙ one_more (first_refusal use_order) (earlier use_order) (first_append use_order) (registered_nodes 0) xs (map view_declared (take (l.number + 1) ds)) x (node_refused l.number x) here (nodes_push 0 l.number xs x (omega (arith, long)))
