-- The bytes with more vectors are graded in the same mode.
use Rattle.std.proofs.Common.{◌∙◌, inl, subst, sym}
use Rattle.file_models.proofs.ModelFiles.{file_table_is}
use Rattle.fuse_reports.specs.View.{ending_seen}
use Rattle.pld_device.specs.Table.{Table}
use Rattle.vector_report.proofs.Common.{IsFileOf, with_more}
use Rattle.vector_report.specs.Prelude.{GradeEnds}
use Rattle.vector_report.proofs.making.ending_for.Goals as goal

pub returns : goal.returns
returns g c =
    let model = c.args.model in
    let out = c.in_ok-out.out.items in
    let graded = ending_seen c.in_ok-graded.graded in
    let more = c.in_ok-out.ensures in
    let says = subst (λ (t : Table). IsFileOf t out (with_more more.file more.more)) (sym c.requires.table) more.says in
    let same = file_table_is model out (with_more more.file more.more) says ∙ c.requires.table in
    inl (
      out,
      graded,
      more,
      subst (λ (t : Table). GradeEnds t out graded) same (rw c.deref.ensures.value at c.in_ok-graded.ensures),
      c.put_if_right.ensures,
    )
