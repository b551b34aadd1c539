-- The model is that of the bytes.
use Rattle.std.proofs.Common.{IfOk, subst}
use Rattle.devices.specs.Models.{table_at}
use Rattle.pld_base.specs.declared.model.Model.{Model}
use Rattle.abel_commands.specs.SimulateCommand.{SimulateEnds}
use Rattle.abel_commands.specs.View.{ending_seen}
use Rattle.abel_commands.proofs.simulate_command.simulate_ending.Goals as goal

pub returns : goal.returns
returns c =
    subst (λ (model : Model). IfOk c.ending_for.result (λ e. SimulateEnds (table_at model) c.args.bytes.now (ending_seen e))) c.in_ok-model.ensures
    c.ending_for.ensures
