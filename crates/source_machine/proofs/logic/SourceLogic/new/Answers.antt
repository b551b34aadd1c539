use Rattle.std.proofs.Common.{sym, subst}
use Rattle.source_machine.proofs.Common.{plain_netlist, module_as_chosen, AllowTheSame}
use Rattle.source_machine.proofs.ChosenLogics.{chosen_determined, chosen_logic, chosen_module, chosen_ordered}
use Rattle.source_machine.proofs.logic.SourceLogic.new.Goals as goal

pub returns-clause-logic : goal.returns-clause-logic
returns-clause-logic g c =
    chosen_logic g.D.Device.table g.D.Device.sound (plain_netlist c.args.net.now) c.in_ok-order.order.items c.in_ok-order.ensures c.args.inverted c.chosen_cells-complemented.result c.chosen_cells-complemented.ensures

pub returns-clause-ordered : goal.returns-clause-ordered
returns-clause-ordered g c =
    chosen_ordered g.D.Device.table g.D.Device.sound (plain_netlist c.args.net.now) c.in_ok-order.order.items c.in_ok-order.ensures c.args.inverted c.chosen_cells-complemented.result c.chosen_cells-complemented.ensures
    c.requires.1.0.sound

pub returns-clause-determined : goal.returns-clause-determined
returns-clause-determined g c =
    chosen_determined g.D.Device.table g.D.Device.sound (plain_netlist c.args.net.now) c.in_ok-order.order.items c.in_ok-order.ensures c.args.inverted c.chosen_cells-complemented.result c.chosen_cells-complemented.ensures
    c.requires.1.0.sound

pub returns-clause-module : goal.returns-clause-module
returns-clause-module g c =
    let t = g.D.Device.table in
    let net = plain_netlist c.args.net.now in
    subst (λ l. AllowTheSame l (module_as_chosen t g.source c.args.inverted))
    (sym (chosen_logic t g.D.Device.sound net c.in_ok-order.order.items c.in_ok-order.ensures c.args.inverted c.chosen_cells-complemented.result c.chosen_cells-complemented.ensures))
    (chosen_module t g.source net c.args.inverted g.D.Device.sound c.requires.1.1.0 c.requires.1.1.1)
