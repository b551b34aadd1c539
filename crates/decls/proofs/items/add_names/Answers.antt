-- One name more.
use Rattle.std.proofs.Common.{[], ◌∷◌, ◌++◌, map, sym, ap, ◌∙◌, append_assoc, rules}
use Rattle.decls.proofs.Common.{map-append, map-id, YieldsList-end, YieldsList-from_vec, view_given, given_by, name_items}
use Rattle.decls.proofs.items.add_names.Goals as goal

pub loop-name-preserved : goal.loop-name-preserved
loop-name-preserved c =
    let l = c.loop-name in
    let old = map view_given c.args.list.now.items in
    let new = given_by c.args.item.now c.in-Some.name.items in
    ap (map view_given) c.in_ok-push.ensures.items
    ∙ (map-append view_given l.list.items _
    ∙ (ap (λ xs. xs ++ new ∷ []) l.invariant
    ∙ (append_assoc old (map (given_by c.args.item.now) (map name_items l.yielded)) (new ∷ [])
    ∙ ap (λ xs. old ++ xs) (sym (ap (map (given_by c.args.item.now)) (map-append name_items l.yielded (c.in-Some.name ∷ [])) ∙ map-append (given_by c.args.item.now) (map name_items l.yielded) (c.in-Some.name.items ∷ []))))))

pub returns : goal.returns
returns c =
    let e = YieldsList-end (YieldsList-from_vec {s = c.into_iter-name-iterator.result} c.args.names.items (search rules) (search rules)) c.loop-name.yielded c.loop-name.name-iterator c.loop-name.yielded_by c.next.result c.next.new.self c.in-None.is c.next.ensures.steps in
    c.loop-name.invariant ∙ ap (λ l. map view_given c.args.list.now.items ++ map (given_by c.args.item.now) (map name_items l)) (sym (map-id c.loop-name.yielded) ∙ e.0)
