-- The model is that of the bytes.
use Rattle.std.proofs.Common.{IfOk, subst}
use Rattle.devices.specs.Models.{table_at}
use Rattle.fuse_reports.specs.View.{ending_seen}
use Rattle.grade_report.specs.Grading.{GradeEnds}
use Rattle.pld_base.specs.declared.model.Model.{Model}
use Rattle.grade_report.proofs.grading.grade_ending.Goals as goal

pub returns : goal.returns
returns c =
    subst (λ (model : Model). IfOk c.ending_for.result (λ e. GradeEnds (table_at model) c.args.bytes.now (ending_seen e))) c.in_ok-model.ensures
    c.ending_for.ensures
