-- There are no mismatches in the run, or some, as the list says.
use Rattle.std.proofs.Common.{List, ◌∙◌, ap, subst, arith, inl, inr}
use Rattle.abel_commands.proofs.Common.{length-map, Mismatch, fuse_sum_of, chars_of, contents, IsFileRun}
use Rattle.abel_commands.proofs.DemoRuns.{file_run}
use Rattle.abel_commands.proofs.FewVectors.{few_vectors}
use Rattle.abel_commands.proofs.SimulatedFiles.{none_where_empty, some_where_not}
use Rattle.abel_commands.proofs.demo.ending_for.Goals as goal

pub run_of-requires-clause-few : goal.run_of-requires-clause-few
run_of-requires-clause-few g c =
    let t = g.D.Device.table in
    let few = few_vectors t c.args.bytes.now (contents t c.in_ok-file.file) c.in_ok-file.ensures.file in
    omega (arith, few, length-map c.in_ok-file.file.vectors (chars_of t))

pub returns-then-is_empty : goal.returns-then-is_empty
returns-then-is_empty g c cells fuses low told =
    let t = g.D.Device.table in
    let report = c.in_ok-report.report in
    let line = c.in_ok-line.line.items in
    let empty = none_where_empty _ report.list (rw c.as_slice.ensures at c.is_empty.ensures) c.if-is_empty.true in
    inl (
      line,
      subst (λ (list : List Mismatch). IsFileRun c.args.seed cells t c.args.bytes.now list line) empty
          (file_run c.args.seed cells _ t c.args.bytes.now (contents t c.in_ok-file.file) report _ line c.in_ok-file.ensures.file c.in_ok-report.ensures.simulated c.in_ok-report.ensures.only
          (c.fuse_sum.ensures ∙ ap fuse_sum_of c.levels.ensures) (c.cells_told-cells.ensures cells fuses low told) c.in_ok-line.ensures),
      c.plain.ensures,
    )

pub returns : goal.returns
returns g c cells fuses low told =
    let t = g.D.Device.table in
    let report = c.in_ok-report.report in
    let line = c.in_ok-line.line.items in
    inr (
      line,
      (
        report.list,
        some_where_not _ report.list (rw c.as_slice.ensures at c.is_empty.ensures) c.if-is_empty.false,
        file_run c.args.seed cells _ t c.args.bytes.now (contents t c.in_ok-file.file) report _ line c.in_ok-file.ensures.file c.in_ok-report.ensures.simulated c.in_ok-report.ensures.only
            (c.fuse_sum.ensures ∙ ap fuse_sum_of c.levels.ensures) (c.cells_told-cells.ensures cells fuses low told) c.in_ok-line.ensures,
      ),
      c.plain-else-is_empty.ensures,
    )
