-- The bits of the input header, the product after them, and the outputs.
use Rattle.std.proofs.Common.{[], ◌∷◌, List, Option, Bool, true, Result, Ok, Err, sym, ap, subst, subst₂}
use Rattle.truth_tables.proofs.Common.{Vec, OnOk, err_from_is_err_and, ExprId, arena, Const, entries_of, SectionFault, view_guard, BuildsNodes, IsBit, part, keeps_on, keeps_longer, stops_longer, at, Assigning, GivesPositions, header_literals, literals, behind, found_work, design_of, inputs_term, nodes_left}
use Rattle.section_targets.proofs.Gives.{stops_nodes}
use Rattle.truth_tables.proofs.RowWorks.{found_built, inputs_kept, row_built}
use Rattle.truth_tables.proofs.rows.give_row.Goals as goal

always : {P : Type 0} (r : Result Unit SectionFault) → P → OnOk r P
always (Ok t) p = p
always (Err f) p = tt

pub returns-in_err-bits-clause-gives : goal.returns-in_err-bits-clause-gives
returns-in_err-bits-clause-gives g c =
    let p = err_from_is_err_and c.from_residual.result c.from_residual.ensures.1 in
    let v = g.D.Device.table in
    let h = c.args.headed.now in
    let f = c.args.found.now in
    let n = nodes_left v h c.args.inputs.now in
    let product = header_literals (design_of v h) (inputs_term v h) f.inputs in
    let w = found_work (design_of v h) (view_guard (arena c.args.out.now.exprs) h.guard) h.table.now.clocked (behind n product) h.outputs.now f in
    let cs = c.args.out.now.list.items in
    let old = at c.args.out.now.exprs cs in
    let new = at c.inputs_of.new.exprs cs in
    let told = subst (λ m. BuildsNodes {R = Vec (Option ExprId)} (part f.place (nodes_left v h m) ∷ []) c.args.out.now.exprs c.inputs_of.new.exprs (Err c.in_err-bits.field-0.0)) c.take-made.ensures.value c.in_err-bits.ensures.builds in
    rw (p.1, p.2)
    (stops_nodes w.units w.gives w.places old new c.in_err-bits.field-0.0 (stops_longer f.place [] n product.nodes old new c.in_err-bits.field-0.0 (told cs)))

pub returns-in_err-bit-clause-gives : goal.returns-in_err-bit-clause-gives
returns-in_err-bit-clause-gives g c =
    let p = err_from_is_err_and c.from_residual-in_err-bit.result c.from_residual-in_err-bit.ensures.1 in
    let v = g.D.Device.table in
    let h = c.args.headed.now in
    let f = c.args.found.now in
    let d = design_of v h in
    let ps = c.in_ok-bits.bits.items in
    let fs = arena c.inputs_of.new.exprs in
    let cs = c.args.out.now.list.items in
    let mid = at c.inputs_of.new.exprs cs in
    let new = at c.row_product.new.exprs cs in
    let made = λ (qs : List (Option ExprId)) (ls : List (Option Bool)). literals fs (Const true) qs ls in
    let built = subst (λ m. BuildsNodes (part f.place (nodes_left v h m) ∷ []) c.args.out.now.exprs c.inputs_of.new.exprs (Ok c.in_ok-bits.bits)) c.take-made.ensures.value c.in_ok-bits.ensures.builds in
    let told = subst₂ (λ (qs : List (Option ExprId)) (ls : List (Option Bool)). BuildsNodes {R = ExprId} (part f.place (made qs ls).nodes ∷ []) c.inputs_of.new.exprs c.row_product.new.exprs (Err c.in_err-bit.field-0.0)) c.as_slice.ensures.value c.as_slice-levels.ensures c.in_err-bit.ensures.builds in
    let w = found_work d (view_guard fs h.guard) h.table.now.clocked (made ps f.inputs) h.outputs.now f in
    rw (p.1, p.2)
    (row_built d (inputs_term v h) h.guard h.table.now.clocked (nodes_left v h c.args.inputs.now) ps h.outputs.now f (at c.args.out.now.exprs cs) mid new (Err c.in_err-bit.field-0.0) c.in_ok-bits.ensures.inputs (built cs)
    (stops_nodes w.units w.gives w.places mid new c.in_err-bit.field-0.0 (told cs)))

pub returns-clause-gives : goal.returns-clause-gives
returns-clause-gives g c =
    let v = g.D.Device.table in
    let h = c.args.headed.now in
    let f = c.args.found.now in
    let d = design_of v h in
    let k = h.table.now.clocked in
    let xs = h.outputs.now in
    let ps = c.in_ok-bits.bits.items in
    let id = c.in_ok-bit.bit in
    let cs = c.args.out.now.list.items in
    let mid = c.inputs_of.new.exprs in
    let next = c.row_product.new.exprs in
    let new = at c.give_positions.new.exprs c.give_positions.new.list.items in
    let r = c.give_positions.result in
    let made = λ (qs : List (Option ExprId)) (ls : List (Option Bool)). literals (arena mid) (Const true) qs ls in
    let m : Assigning = record { unit = f.place; guard = h.guard; clocked = k } in
    let built = subst (λ m. BuildsNodes (part f.place (nodes_left v h m) ∷ []) c.args.out.now.exprs mid (Ok c.in_ok-bits.bits)) c.take-made.ensures.value c.in_ok-bits.ensures.builds in
    let product = subst₂ (λ (qs : List (Option ExprId)) (ls : List (Option Bool)). BuildsNodes (part f.place (made qs ls).nodes ∷ []) mid next (Ok id)) c.as_slice.ensures.value c.as_slice-levels.ensures c.in_ok-bit.ensures.builds in
    let bit = subst₂ (λ (qs : List (Option ExprId)) (ls : List (Option Bool)). IsBit (arena next) id (made qs ls).what) c.as_slice.ensures.value c.as_slice-levels.ensures c.in_ok-bit.ensures.bit in
    let outs = subst (λ (ls : List (Option Bool)). GivesPositions c.scope.result.now m xs ls id next c.give_positions.new.exprs cs c.give_positions.new.list.items r) c.as_slice-given.ensures c.give_positions.ensures.gives in
    row_built d (inputs_term v h) h.guard k (nodes_left v h c.args.inputs.now) ps xs f (at c.args.out.now.exprs cs) (at mid cs) new r c.in_ok-bits.ensures.inputs (built cs)
    (found_built d h.guard k (made ps f.inputs) id xs f (at mid cs) (at next cs) new r (product cs) bit.1 (outs d (ap entries_of (sym c.scope.ensures))))

pub returns-clause-inputs : goal.returns-clause-inputs
returns-clause-inputs g c =
    let v = g.D.Device.table in
    let h = c.args.headed.now in
    let fs = arena c.inputs_of.new.exprs in
    let gs = arena c.give_positions.new.exprs in
    let k = keeps_on fs (arena c.row_product.new.exprs) gs (c.in_ok-bit.ensures.builds []).made.grew.keeps c.give_positions.ensures.keeps in
    inputs_kept (design_of v h) (inputs_term v h) fs gs c.in_ok-bits.bits.items k (keeps_longer _ _ k) c.in_ok-bits.ensures.inputs
