-- The model is that of the first file's bytes.
use Rattle.std.proofs.Common.{IfOk, subst}
use Rattle.devices.specs.Models.{table_at}
use Rattle.pld_base.specs.declared.model.Model.{Model}
use Rattle.abel_commands.specs.CompareCommand.{CompareEnds}
use Rattle.abel_commands.specs.View.{ending_seen}
use Rattle.abel_commands.proofs.compare_command.compare_ending.Goals as goal

pub returns : goal.returns
returns c =
    subst (λ (model : Model). IfOk c.ending_for.result (λ e. CompareEnds (table_at model) c.args.a.now c.args.b.now (ending_seen e))) c.in_ok-model.ensures
    c.ending_for.ensures
