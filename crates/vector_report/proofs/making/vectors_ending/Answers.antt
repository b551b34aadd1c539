-- The model is that of the bytes.
use Rattle.std.proofs.Common.{IfOk, subst}
use Rattle.devices.specs.Models.{table_at}
use Rattle.fuse_reports.specs.View.{ending_seen}
use Rattle.pld_base.specs.declared.model.Model.{Model}
use Rattle.vector_report.specs.Vectoring.{VectorsEnd}
use Rattle.vector_report.proofs.making.vectors_ending.Goals as goal

pub returns : goal.returns
returns c =
    subst (λ (model : Model). IfOk c.ending_for.result
    (λ e. VectorsEnd (table_at model) c.args.most c.args.bytes.now c.args.output.now (ending_seen e))) c.in_ok-model.ensures
    c.ending_for.ensures
