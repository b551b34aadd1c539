-- No match for each output, one row more, and all rows.
use Rattle.std.proofs.Common.{◌≡◌, ◌+◌, not, List, [], ◌∷◌, map, drop, refl, sym, ap, ◌∙◌, subst, add-one}
use Rattle.truth_tables.proofs.Common.{drop_all, arena, entries_of, view_row, view_guard, nodes_at, row_work, rows_work, walks_none, StandsWork, WalksWork, design_of, inputs_nodes, no_matches_work}
use Rattle.abel_tree.specs.declared.tables.Row.{Row}
use Rattle.truth_tables.proofs.ReadLaws.{rest_more}
use Rattle.truth_tables.proofs.RowsWalked.{free_refused, no_fault, none_left, stands_before, stands_done, stands_first, stands_still, work_made, work_then}
use Rattle.truth_tables.proofs.tables.walk_headed.Goals.{then-is_none+in_ok-keep_limit, else-is_none}
use Rattle.truth_tables.proofs.tables.walk_headed.Goals as goal

pub loop-row-init : goal.loop-row-init
loop-row-init g c =
    let v = g.D.Device.table in
    let h = c.args.headed.now in
    let old = c.args.out.now in
    let w = no_matches_work v h old in
    let free : WalksWork w old c.if-is_none.out = elim c.if-is_none.branch [
      | then-is_none+in_ok-keep_limit b ↦ subst (WalksWork w old) (sym b.out-is)
          (work_made w old (record old { exprs = b.give_no_matches-made.new.exprs; list = b.give_no_matches-made.new.list }) b.keep_limit.new.self b.give_no_matches-made.result
          (no_fault old.fault (c.is_none.ensures ∙ ap not b.if-is_none.true)) (no_fault old.fault (c.is_none.ensures ∙ ap not b.if-is_none.true)) refl refl
          (b.give_no_matches-made.ensures.gives (design_of v h) (ap entries_of (sym b.scope-names.ensures))) b.in_ok-keep_limit.ensures.kept)
      | else-is_none b ↦ subst (WalksWork w old) (sym b.out-is) (free_refused w.gives w.places old (c.is_none.ensures ∙ ap not b.if-is_none.false))
    ] in
    let still : StandsWork w old c.if-is_none.out = elim c.if-is_none.branch [
      | then-is_none+in_ok-keep_limit b ↦ subst (StandsWork w old) (sym b.out-is)
          (stands_done w old (record old { exprs = b.give_no_matches-made.new.exprs; list = b.give_no_matches-made.new.list }) b.keep_limit.new.self b.give_no_matches-made.result
          (no_fault old.fault (c.is_none.ensures ∙ ap not b.if-is_none.true)) (b.give_no_matches-made.ensures.gives (design_of v h) (ap entries_of (sym b.scope-names.ensures))) b.keep_limit.ensures.stands)
      | else-is_none b ↦ subst (StandsWork w old) (sym b.out-is) (stands_still w old old refl)
    ] in
    record {
      left = λ later rest. work_then w (rows_work (design_of v h) (view_guard (arena old.exprs) h.guard) h.table.now h.outputs.now (inputs_nodes v h) (map view_row h.table.now.rows)) old c.if-is_none.out later free
          (subst (λ rs. WalksWork (rows_work (design_of v h) (view_guard (arena old.exprs) h.guard) h.table.now h.outputs.now (inputs_nodes v h) (map view_row rs)) c.if-is_none.out later) c.as_slice-rows.ensures rest);
      stands = λ later rest. stands_before w (rows_work (design_of v h) (view_guard (arena old.exprs) h.guard) h.table.now h.outputs.now (inputs_nodes v h) (map view_row h.table.now.rows)) old c.if-is_none.out later free still
          (subst (λ rs. StandsWork (rows_work (design_of v h) (view_guard (arena old.exprs) h.guard) h.table.now h.outputs.now (inputs_nodes v h) (map view_row rs)) c.if-is_none.out later) c.as_slice-rows.ensures rest);
      inputs = tt;
      nodes = λ e. refl;
    }

pub loop-row-preserved : goal.loop-row-preserved
loop-row-preserved g c =
    let v = g.D.Device.table in
    let h = c.args.headed.now in
    let new = c.walk_row.new.out in
    let rows = c.as_slice-rows.result.now in
    let i = c.loop-row.row-index in
    let row = view_row c.row-item.result in
    let d = design_of v h in
    let guard = view_guard (arena c.args.out.now.exprs) h.guard in
    let n = nodes_at (inputs_nodes v h) i in
    let none : nodes_at (inputs_nodes v h) (i + 1) ≡ 0 = ap (nodes_at (inputs_nodes v h)) (add-one i) in
    let later_rows = map view_row (drop (i + 1) rows) in
    let here : map view_row (drop i rows) ≡ row ∷ later_rows = rest_more view_row rows i c.row-item.result c.loop-row-test.true c.row-item.is in
    let work = rows_work d guard h.table.now h.outputs.now in
    record {
      left = λ later rest. c.loop-row.invariant.left later
          (subst (λ rs. WalksWork (work n rs) c.loop-row.out later) (sym here)
          (work_then (row_work d guard h.table.now h.outputs.now n row) (work 0 later_rows) c.loop-row.out new later
          (c.in_ok-walk_row.ensures.walks n (λ e. sym (c.loop-row.invariant.nodes e))) (subst (λ m. WalksWork (work m later_rows) new later) none rest)));
      stands = λ later rest. c.loop-row.invariant.stands later
          (subst (λ rs. StandsWork (work n rs) c.loop-row.out later) (sym here)
          (stands_before (row_work d guard h.table.now h.outputs.now n row) (work 0 later_rows) c.loop-row.out new later
          (c.in_ok-walk_row.ensures.walks n (λ e. sym (c.loop-row.invariant.nodes e))) c.walk_row.ensures.stands rest));
      inputs = c.in_ok-walk_row.ensures.inputs;
      nodes = λ e. none_left v h c.walk_row.new.inputs (c.in_ok-walk_row.ensures.made e) ∙ sym none;
    }

pub returns-clause-walks : goal.returns-clause-walks
returns-clause-walks g c =
    let v = g.D.Device.table in
    let h = c.args.headed.now in
    let out = c.loop-row.out in
    let work = λ (rs : List Row). rows_work (design_of v h) (view_guard (arena c.args.out.now.exprs) h.guard) h.table.now h.outputs.now (nodes_at (inputs_nodes v h) c.loop-row.row-index) (map view_row rs) in
    c.loop-row.invariant.left out
    (subst (λ rs. WalksWork (work rs) out out) (sym (drop_all c.loop-row.row-index c.as_slice-rows.result.now c.loop-row-test.false)) (λ all a. walks_none all out a))

pub returns-in_err-keep_limit-clause-stands : goal.returns-in_err-keep_limit-clause-stands
returns-in_err-keep_limit-clause-stands g c =
    let v = g.D.Device.table in
    let h = c.args.headed.now in
    let old = c.args.out.now in
    let w = no_matches_work v h old in
    stands_first w (rows_work (design_of v h) (view_guard (arena old.exprs) h.guard) h.table.now h.outputs.now (inputs_nodes v h) (map view_row h.table.now.rows)) old c.keep_limit.new.self
    (stands_done w old (record old { exprs = c.give_no_matches-made.new.exprs; list = c.give_no_matches-made.new.list }) c.keep_limit.new.self c.give_no_matches-made.result
    (no_fault old.fault (c.is_none.ensures ∙ ap not c.if-is_none.true)) (c.give_no_matches-made.ensures.gives (design_of v h) (ap entries_of (sym c.scope-names.ensures))) c.keep_limit.ensures.stands)

pub returns-in_err-walk_row-clause-stands : goal.returns-in_err-walk_row-clause-stands
returns-in_err-walk_row-clause-stands g c =
    let v = g.D.Device.table in
    let h = c.args.headed.now in
    let new = c.walk_row.new.out in
    let rows = c.as_slice-rows.result.now in
    let i = c.loop-row.row-index in
    let row = view_row c.row-item.result in
    let d = design_of v h in
    let guard = view_guard (arena c.args.out.now.exprs) h.guard in
    let n = nodes_at (inputs_nodes v h) i in
    let later_rows = map view_row (drop (i + 1) rows) in
    let here : map view_row (drop i rows) ≡ row ∷ later_rows = rest_more view_row rows i c.row-item.result c.loop-row-test.true c.row-item.is in
    let work = rows_work d guard h.table.now h.outputs.now in
    c.loop-row.invariant.stands new
    (subst (λ rs. StandsWork (work n rs) c.loop-row.out new) (sym here)
    (stands_first (row_work d guard h.table.now h.outputs.now n row) (work 0 later_rows) c.loop-row.out new c.walk_row.ensures.stands))

pub returns-clause-stands : goal.returns-clause-stands
returns-clause-stands g c =
    let v = g.D.Device.table in
    let h = c.args.headed.now in
    let out = c.loop-row.out in
    let work = λ (rs : List Row). rows_work (design_of v h) (view_guard (arena c.args.out.now.exprs) h.guard) h.table.now h.outputs.now (nodes_at (inputs_nodes v h) c.loop-row.row-index) (map view_row rs) in
    c.loop-row.invariant.stands out
    (subst (λ rs. StandsWork (work rs) out out) (sym (drop_all c.loop-row.row-index c.as_slice-rows.result.now c.loop-row-test.false)) (stands_still (work []) out out refl))
