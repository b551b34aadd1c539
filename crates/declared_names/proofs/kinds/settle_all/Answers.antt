-- One name more.
use Rattle.std.proofs.Common.{ℕ, [], ◌∷◌, ◌++◌, map, get_or, sym, ap, ap₂, ◌∙◌, rules}
use Rattle.declared_names.proofs.Common.{map-append, map-id, Declared, view_declared, clear, is_held_at, kind_by}
use Rattle.std.proofs.lemmas.Iterator.Adapters.{YieldsList-from_vec}
use Rattle.std.proofs.lemmas.Iterator.Consumers.{YieldsList-end, YieldsList-from_enumerate}
use Rattle.std.specs.Iterator.Adapters.{enumerate_source}
use Rattle.declared_names.proofs.kinds.settle_all.Goals as goal

pub loop-number-preserved : goal.loop-number-preserved
loop-number-preserved c =
    let l = c.loop-number in
    let settled = λ (x : ℕ × Declared). kind_by c.args.flip (get_or c.args.marks.now x.0 clear) (is_held_at c.args.held.now x.0) (view_declared x.1) in
    ap (map view_declared) c.in_ok-push.ensures.items
    ∙ (map-append view_declared l.settled.items (c.settled_by.result ∷ [])
    ∙ (ap₂ (λ xs y. xs ++ y ∷ []) l.invariant (c.settled_by.ensures ∙ ap₂ (λ m h. kind_by c.args.flip m h (view_declared c.in-Some.declared)) c.mark_of-mark.ensures c.is_held-is_held.ensures)
    ∙ sym (map-append settled l.yielded ((c.in-Some.number, c.in-Some.declared) ∷ []))))

pub returns : goal.returns
returns c =
    let l = c.loop-number in
    let vec = YieldsList-from_vec {s = enumerate_source c.into_iter-number-iterator.result} c.args.names.items (search rules) (search rules) in
    let e = YieldsList-end (YieldsList-from_enumerate {s = c.into_iter-number-iterator.result} vec (search rules)) l.yielded l.number-iterator l.yielded_by c.next.result c.next.new.self c.in-None.is c.next.ensures.steps in
    l.invariant ∙ ap (map (λ (x : ℕ × Declared). kind_by c.args.flip (get_or c.args.marks.now x.0 clear) (is_held_at c.args.held.now x.0) (view_declared x.1))) (sym (map-id l.yielded) ∙ e.0)
