-- A compiled source is run, and refusals are reported.
use Rattle.std.proofs.Common.{ℕ, List, ◌∙◌, subst, sym, inl, inr}
use Rattle.abel_commands.proofs.Common.{IfOk-weaker, table_at, FileEnds, cells_of, ending_seen}
use Rattle.abel_commands.specs.DemoCommand.{CanBeRun}
use Rattle.abel_commands.proofs.DemoCells.{few_cells}
use Rattle.abel_commands.proofs.DemoFiles.{can_be_run}
use Rattle.abel_commands.proofs.demo.source_ending.Goals as goal

pub ending_for-requires-clause-can : goal.ending_for-requires-clause-can
ending_for-requires-clause-can c =
    subst (CanBeRun (table_at c.in-Ok.compiled.device)) (sym c.deref.ensures.value) (can_be_run c.args.source.now c.in-Ok.compiled c.in-Ok.ensures.answers)

pub returns-in-Ok : goal.returns-in-Ok
returns-in-Ok c =
    let compiled = c.in-Ok.compiled in
    let right = c.in-Ok.ensures.answers in
    let cells = cells_of c.args.source.now compiled right in
    IfOk-weaker c.ending_for.result _ _
    (λ e ends. inl (compiled, right, subst (λ (bytes : List ℕ). FileEnds c.args.seed cells (table_at compiled.device) bytes (ending_seen e)) c.deref.ensures.value ends))
    (c.ending_for.ensures cells right.right.fuses (few_cells compiled.device right.right.placed) (c.deref-in-Ok.ensures.value ∙ right.summary))

pub returns-in-Err : goal.returns-in-Err
returns-in-Err c = IfOk-weaker c.refused_ending.result _ _ (λ e uncompiled. inr uncompiled) (c.refused_ending.ensures c.args.source.now c.in-Err.ensures.answers)
