-- The rows from here on are left, whatever they leave is, and the bits of the input header that were made are there.
use Rattle.std.proofs.Common.{◌≡◌, None, map, drop}
use Rattle.truth_tables.proofs.Common.{arena, view_row, view_guard, nodes_at, HasInputs, StandsWork, WalksWork, design_of, headed_work, inputs_nodes, nodes_left, rows_work}
use Rattle.section_targets.specs.declared.walked.Walked.{Walked}
use Rattle.truth_tables.proofs.tables.walk_headed.Given as goal

abbrev pub invariant-loop-row : goal.invariant-loop-row
invariant-loop-row g l =
    let v = g.D.Device.table in
    let d = design_of v l.headed in
    let n = nodes_at (inputs_nodes v l.headed) l.row-index in
    let rest = rows_work d (view_guard (arena l.fn.out.exprs) l.headed.guard) l.headed.table.now l.headed.outputs.now n (map view_row (drop l.row-index l.rows)) in
    record {
      left : (later : Walked) → WalksWork rest l.out later → WalksWork (headed_work v l.headed l.fn.out) l.fn.out later;
      stands : (later : Walked) → StandsWork rest l.out later → StandsWork (headed_work v l.headed l.fn.out) l.fn.out later;
      inputs : HasInputs v l.headed l.inputs l.out.exprs;
      nodes : l.out.fault ≡ None → nodes_left v l.headed l.inputs ≡ n;
    }
