use Rattle.std.proofs.Common.{arith}
use Rattle.source_machine.proofs.Common.{bits, length-bits, plain_netlist, chosen}
use Rattle.source_machine.proofs.ChosenCells.{all_counted, none_yet, one_more}
use Rattle.source_machine.proofs.choices.chosen_cells.Goals as goal

pub loop-cell-init : goal.loop-cell-init
loop-cell-init g c = none_yet _

pub loop-cell-preserved : goal.loop-cell-preserved
loop-cell-preserved g c =
    one_more (chosen g.D.Device.table (plain_netlist c.args.net.now) c.args.inverted) c.loop-cell.cell (bits 32 c.loop-cell.chosen) (bits 32 c.with_level-chosen.result) c.is_chosen-on.result
    (omega (arith, c.loop-cell-test.true, c.cells-cell-end.ensures, length-bits 32 c.loop-cell.chosen, g.D.Device.sound.sizes.few_cells))
    c.loop-cell.invariant c.with_level-chosen.ensures c.is_chosen-on.ensures

pub returns : goal.returns
returns g c =
    all_counted g.D.Device.table (plain_netlist c.args.net.now) c.args.inverted c.loop-cell.chosen c.loop-cell.cell
    (omega (arith, c.loop-cell-test.false, c.cells-cell-end.ensures)) c.loop-cell.invariant
