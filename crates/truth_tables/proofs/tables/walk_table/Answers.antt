-- A table whose header is refused, and one whose header isn't.
use Rattle.std.proofs.Common.{◌++◌, map, refl, sym, ap, ◌∙◌, subst}
use Rattle.truth_tables.proofs.Common.{is_some, on_ok_weaker, arena, Names, view, view_row, table_units, term_of, context_for, standing, StillStands, Walks, stands_same, is_context, same_context, value_accepted, output_header, assigned_by, header_refused, row_units, WalksTable, given_by, places_by}
use Rattle.section_targets.specs.declared.walked.Walked.{Walked}
use Rattle.truth_tables.proofs.OutputPositions.{outputs_inside}
use Rattle.truth_tables.proofs.RowsWalked.{header_noted, header_stands, header_still, is_over, some_refused}
use Rattle.truth_tables.proofs.ClearHeaders.{outputs_unrefused}
use Rattle.truth_tables.proofs.RowWorks.{inputs_clear, outputs_clear, outputs_named, table_works}
use Rattle.truth_tables.proofs.tables.walk_table.Goals as goal

pub returns-in-Some-clause-walks : goal.returns-in-Some-clause-walks
returns-in-Some-clause-walks g c =
    let v = g.D.Device.table in
    let n = c.scope-names.result.now in
    let d = context_for v n in
    let t = c.args.table.now in
    let rows = map view_row t.rows in
    let old = c.args.out.now in
    subst (λ (names : Names). WalksTable v names c.args.guard t old c.refuse.new.self) c.scope-names.ensures
    (λ all a.
    header_stands all (assigned_by t.clocked (output_header d (view t.outputs))) c.read_header.new.before (header_refused d all t.clocked (view t.inputs) (view t.outputs)) t.place (row_units d t.clocked (term_of d.known (view t.inputs)) (term_of d.known (view t.outputs)) rows (table_units d (view t.inputs) rows))
    (given_by d c.args.guard t (arena old.exprs)) (places_by d t) c.in-Some.fault old c.refuse.new.self
    (sym c.in-Some.is ∙ (c.in_ok-header.ensures.header d all (is_context v n) a).fault)
    c.refuse.ensures.first (ap (λ (w : Walked). is_some w.fault) c.refuse.ensures.first ∙ some_refused old.fault c.in-Some.fault) (c.in_ok-header.ensures.before d all (is_context v n) a))

pub walk_headed-requires : goal.walk_headed-requires
walk_headed-requires g c =
    let n = c.args.scope.now in
    let v = g.D.Device.table in
    let d = context_for v n in
    let t = c.args.table.now in
    let before = c.args.out.now.before in
    let header = c.in_ok-header.ensures.header d before (same_context v c.scope-names.result.now n c.scope-names.ensures) (λ s p. refl) in
    let outputs = c.as_slice.ensures ∙ header.outputs in
    let clear = sym c.in-None.is ∙ header.fault in
    let named = outputs_named d before t c.as_slice.result.now outputs clear in
    record {
      accepted = record {
        inputs = value_accepted n (view t.inputs) (inputs_clear d before t clear);
        outputs = value_accepted n (view t.outputs) (outputs_unrefused n d (is_over v n) (view t.outputs) (outputs_clear d before t clear));
        signals = outputs_inside d refl (view t.outputs) c.as_slice.result.now named;
        named = named;
      };
    }

pub returns-clause-walks : goal.returns-clause-walks
returns-clause-walks g c =
    on_ok_weaker c.walk_headed.result
    (λ k.
    let n = c.args.scope.now in
    let v = g.D.Device.table in
    let d = context_for v n in
    let t = c.args.table.now in
    let old = c.args.out.now in
    λ all a.
    let xs = c.as_slice.result.now in
    let header = c.in_ok-header.ensures.header d all (same_context v c.scope-names.result.now n c.scope-names.ensures) a in
    let outputs = c.as_slice.ensures ∙ header.outputs in
    let clear = sym c.in-None.is ∙ header.fault in
    let ms = assigned_by t.clocked (output_header d (view t.outputs)) in
    table_works (λ us gs ps. Walks all us gs ps ms old c.walk_headed.new.out) d all (arena old.exprs) c.args.guard t xs (outputs_named d all t xs outputs clear) outputs clear
    (header_noted all ms c.read_header.new.before _ _ _ old c.walk_headed.new.out
    (k (all ++ ms) (c.in_ok-header.ensures.before d all (same_context v c.scope-names.result.now n c.scope-names.ensures) a))))
    c.walk_headed.ensures.walks

pub returns-in_err-header-clause-stands : goal.returns-in_err-header-clause-stands
returns-in_err-header-clause-stands g c = stands_same _ _ c.args.out.now _ refl

pub returns-in-Some-clause-stands : goal.returns-in-Some-clause-stands
returns-in-Some-clause-stands g c = stands_same _ _ c.args.out.now c.refuse.new.self (ap standing c.refuse.ensures.first)

pub returns-clause-stands : goal.returns-clause-stands
returns-clause-stands g c =
    let n = c.args.scope.now in
    let v = g.D.Device.table in
    let d = context_for v n in
    let t = c.args.table.now in
    let old = c.args.out.now in
    let all = old.before in
    let xs = c.as_slice.result.now in
    let header = c.in_ok-header.ensures.header d all (same_context v c.scope-names.result.now n c.scope-names.ensures) (λ s p. refl) in
    let outputs = c.as_slice.ensures ∙ header.outputs in
    let clear = sym c.in-None.is ∙ header.fault in
    table_works (λ us gs ps. StillStands gs ps old c.walk_headed.new.out) d all (arena old.exprs) c.args.guard t xs (outputs_named d all t xs outputs clear) outputs clear
    (header_still _ _ c.read_header.new.before old c.walk_headed.new.out c.walk_headed.ensures.stands)
