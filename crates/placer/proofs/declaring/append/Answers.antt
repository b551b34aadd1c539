-- One declaration more.
use Rattle.std.proofs.Common.{[], ◌∷◌, ◌++◌, sym, ap, ◌∙◌, append_assoc, rules}
use Rattle.placer.proofs.Common.{YieldsList-from_vec, YieldsList-end, map-id}
use Rattle.placer.proofs.declaring.append.Goals as goal

pub loop-decl-preserved : goal.loop-decl-preserved
loop-decl-preserved c =
    let l = c.loop-decl in
    c.in_ok-push.ensures.items ∙ (ap (λ xs. xs ++ c.in-Some.decl ∷ []) l.invariant ∙ append_assoc c.args.list.now.items l.yielded (c.in-Some.decl ∷ []))

pub returns : goal.returns
returns c =
    let l = c.loop-decl in
    let e = YieldsList-end (YieldsList-from_vec {s = c.into_iter-decl-iterator.result} c.args.more.items (search rules) (search rules)) l.yielded l.decl-iterator l.yielded_by c.next.result c.next.new.self c.in-None.is c.next.ensures.steps in
    l.invariant ∙ ap (λ xs. c.args.list.now.items ++ xs) (sym (map-id l.yielded) ∙ e.0)
