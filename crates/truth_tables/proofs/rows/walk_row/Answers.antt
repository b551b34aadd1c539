-- A row that is refused or follows what is, and one that is made.
use Rattle.std.proofs.Common.{◌≡◌, None, ℕ, ◌+◌, [], ◌∷◌, refl, sym, ap, ◌∙◌, subst, subst₂}
use Rattle.truth_tables.proofs.Common.{on_ok_weaker, Names, arena, view, view_row, view_guard, part, standing, term_of, row_nodes, row_refused, row_work, Builds, Contributions, design_of, nodes_left, whole, Work, stands_made, stands_same, unit_clear, unit_made, unit_refused, refusal_of}
use Rattle.truth_tables.proofs.RowWorks.{found_row}
use Rattle.truth_tables.proofs.RowsWalked.{over_same}
use Rattle.truth_tables.proofs.WorkLaws.{DoesWork}
use Rattle.truth_tables.proofs.rows.walk_row.Goals as goal

pub read_row-requires : goal.read_row-requires
read_row-requires g c =
    let t = c.args.headed.now.table.now in
    record {
      inputs = subst (λ (n : Names). refusal_of n (view t.inputs) ≡ None) (sym c.scope.ensures) c.requires.accepted.inputs;
      outputs = subst (λ (n : Names). refusal_of n (view t.outputs) ≡ None) (sym c.scope.ensures) c.requires.accepted.outputs;
    }

pub returns-then-refuse-clause-walks : goal.returns-then-refuse-clause-walks
returns-then-refuse-clause-walks g c = λ n e all a.
    let v = g.D.Device.table in
    let h = c.args.headed.now in
    let d = design_of v h in
    let t = h.table.now in
    let row = view_row c.args.row.now in
    let i = term_of d.known (view t.inputs) in
    let w = row_work d (view_guard (arena c.args.out.now.exprs) h.guard) t h.outputs.now n row in
    unit_refused all (whole row.place (row_refused d t.clocked i (term_of d.known (view t.outputs)) row) (n + row_nodes d i row)) w.gives w.places c.in_ok-found.found.fault c.args.out.now c.refuse.new.self
    (c.in_ok-found.ensures d (over_same v c.scope.result.now h.scope.now c.scope.ensures)).fault c.refuse.ensures.first (sym c.refuse.ensures.refused ∙ c.if-refuse.true) a

pub returns-clause-walks : goal.returns-clause-walks
returns-clause-walks g c =
    let v = g.D.Device.table in
    let h = c.args.headed.now in
    let d = design_of v h in
    let t = h.table.now in
    let row = view_row c.args.row.now in
    let f = c.in_ok-found.found in
    let old = c.args.out.now in
    let now = c.refuse.new.self in
    let made = c.give_row-made.new.out in
    let r = c.give_row-made.result in
    let m = nodes_left v h c.args.inputs.now in
    let i = term_of d.known (view t.inputs) in
    let rs = row_refused d t.clocked i (term_of d.known (view t.outputs)) row in
    let w = row_work d (view_guard (arena old.exprs) h.guard) t h.outputs.now m row in
    let some = sym c.refuse.ensures.refused ∙ c.if-refuse.false in
    let is = c.in_ok-found.ensures d (over_same v c.scope.result.now h.scope.now c.scope.ensures) in
    let clear = unit_clear rs f.fault old now is.fault c.refuse.ensures.first some in
    let built = λ (cs : Contributions) (n : ℕ). Builds (part row.place (n + row_nodes d i row) ∷ []) w.gives w.places cs (standing made) r in
    let here : built (standing now) m = subst (λ (x : Work). DoesWork x (standing now) (standing made) r)
    (found_row d (view_guard (arena old.exprs) h.guard) t h.outputs.now m row f c.requires.accepted.named is clear.1.0) c.give_row-made.ensures.gives in
    on_ok_weaker c.keep_limit.result
    (λ k n e all a. unit_made all row.place rs (n + row_nodes d i row) w.gives w.places f.fault old now made c.keep_limit.new.self r
    is.fault c.refuse.ensures.first some a c.give_row-made.ensures.fault c.give_row-made.ensures.before
    (subst₂ built (ap standing c.refuse.ensures.first) (sym (e clear.0)) here) k)
    c.keep_limit.ensures.kept

pub returns-in_err-found-clause-stands : goal.returns-in_err-found-clause-stands
returns-in_err-found-clause-stands g c = stands_same _ _ c.args.out.now c.args.out.now refl

pub returns-then-refuse-clause-stands : goal.returns-then-refuse-clause-stands
returns-then-refuse-clause-stands g c = stands_same _ _ c.args.out.now c.refuse.new.self (ap standing c.refuse.ensures.first)

pub returns-clause-stands : goal.returns-clause-stands
returns-clause-stands g c =
    let v = g.D.Device.table in
    let h = c.args.headed.now in
    let d = design_of v h in
    let t = h.table.now in
    let row = view_row c.args.row.now in
    let f = c.in_ok-found.found in
    let old = c.args.out.now in
    let now = c.refuse.new.self in
    let made = c.give_row-made.new.out in
    let r = c.give_row-made.result in
    let m = nodes_left v h c.args.inputs.now in
    let i = term_of d.known (view t.inputs) in
    let w = row_work d (view_guard (arena old.exprs) h.guard) t h.outputs.now m row in
    let is = c.in_ok-found.ensures d (over_same v c.scope.result.now h.scope.now c.scope.ensures) in
    let clear = unit_clear (row_refused d t.clocked i (term_of d.known (view t.outputs)) row) f.fault old now is.fault c.refuse.ensures.first (sym c.refuse.ensures.refused ∙ c.if-refuse.false) in
    let built = λ (cs : Contributions). Builds (part row.place (m + row_nodes d i row) ∷ []) w.gives w.places cs (standing made) r in
    let here : built (standing now) = subst (λ (x : Work). DoesWork x (standing now) (standing made) r)
    (found_row d (view_guard (arena old.exprs) h.guard) t h.outputs.now m row f c.requires.accepted.named is clear.1.0) c.give_row-made.ensures.gives in
    stands_made (part row.place (m + row_nodes d i row) ∷ []) w.gives w.places old made c.keep_limit.new.self r clear.0 (subst built (ap standing c.refuse.ensures.first) here) c.keep_limit.ensures.stands
