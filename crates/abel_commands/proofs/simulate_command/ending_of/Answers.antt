-- There are no mismatches in the run, or some, as the list says.
use Rattle.std.proofs.Common.{List, subst, arith, inl, inr}
use Rattle.abel_commands.proofs.Common.{length-map, Mismatch, chars_of, contents, IsReportedRun}
use Rattle.abel_commands.proofs.FewVectors.{few_vectors}
use Rattle.abel_commands.proofs.SimulatedFiles.{none_where_empty, some_where_not, told_run}
use Rattle.abel_commands.proofs.simulate_command.ending_of.Goals as goal

pub simulate-requires-clause-few : goal.simulate-requires-clause-few
simulate-requires-clause-few g c =
    let t = g.D.Device.table in
    let few = few_vectors t c.args.bytes.now (contents t c.args.file.now) c.requires.file.read in
    omega (arith, few, length-map c.args.file.now.vectors (chars_of t))

pub returns-then-is_empty : goal.returns-then-is_empty
returns-then-is_empty g c =
    let t = g.D.Device.table in
    let none = none_where_empty _ c.in-Ok.report.list (rw c.as_slice.ensures at c.is_empty.ensures) c.if-is_empty.true in
    inl (
      c.in_ok-lines.lines.items,
      subst (λ (list : List Mismatch). IsReportedRun t c.args.bytes.now list c.in_ok-lines.lines.items) none
          (told_run t c.args.bytes.now (contents t c.args.file.now) c.in-Ok.report c.in_ok-lines.lines.items c.requires.file c.in-Ok.ensures.simulated c.in-Ok.ensures.only c.in_ok-lines.ensures),
      c.plain-then-is_empty.ensures,
    )

pub returns : goal.returns
returns g c =
    let t = g.D.Device.table in
    inr (inl (
      c.in_ok-lines.lines.items,
      (
        c.in-Ok.report.list,
        some_where_not _ c.in-Ok.report.list (rw c.as_slice.ensures at c.is_empty.ensures) c.if-is_empty.false,
        told_run t c.args.bytes.now (contents t c.args.file.now) c.in-Ok.report c.in_ok-lines.lines.items c.requires.file c.in-Ok.ensures.simulated c.in-Ok.ensures.only c.in_ok-lines.ensures,
      ),
      c.plain-else-is_empty.ensures,
    ))
