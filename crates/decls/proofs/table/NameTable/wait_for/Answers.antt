-- One name more.
use Rattle.std.proofs.Common.{[], ◌∷◌, ◌++◌, map, sym, ap, subst, ◌∙◌, append_assoc, rules}
use Rattle.decls.proofs.Common.{map-append, map-id, YieldsList-end, YieldsList-from_vec, Shows, view_given}
use Rattle.decls.proofs.table.NameTable.wait_for.Goals as goal

pub loop-given-preserved : goal.loop-given-preserved
loop-given-preserved c = λ m s sh.
    let l = c.loop-given in
    let i = l.invariant m s sh in
    record {
      pins = i.pins;
      ground = i.ground;
      rows = i.rows;
      device = i.device;
      nodes = i.nodes;
      taken = i.taken;
      waiting =
          ap (map view_given) c.in_ok-push.ensures.items
          ∙ (map-append view_given l.self.waiting.items (c.in-Some.given ∷ [])
          ∙ (ap (λ xs. xs ++ view_given c.in-Some.given ∷ []) i.waiting
          ∙ (append_assoc s.waiting (map view_given l.yielded) (view_given c.in-Some.given ∷ [])
          ∙ ap (λ xs. s.waiting ++ xs) (sym (map-append view_given l.yielded (c.in-Some.given ∷ []))))));
      first = i.first;
    }

pub returns : goal.returns
returns c = λ m s sh.
    let e = YieldsList-end (YieldsList-from_vec {s = c.into_iter-given-iterator.result} c.args.names.items (search rules) (search rules)) c.loop-given.yielded c.loop-given.given-iterator c.loop-given.yielded_by c.next.result c.next.new.self c.in-None.is c.next.ensures.steps in
    subst (λ l. Shows m c.loop-given.self (record s { waiting = s.waiting ++ map view_given l })) (sym (map-id c.loop-given.yielded) ∙ e.0) (c.loop-given.invariant m s sh)
