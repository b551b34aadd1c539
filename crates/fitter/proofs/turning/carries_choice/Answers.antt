use Rattle.std.proofs.Common.{Some, sym, ap, ◌∙◌}
use Rattle.fitter.proofs.Common.{Carry}
use Rattle.pld_device.specs.declared.carry.Carry.TheVariants as carry
use Rattle.fitter.proofs.ChoiceBits.{choice_is}
use Rattle.fitter.proofs.turning.carries_choice.Goals as goal

pub returns-in-Cell : goal.returns-in-Cell
returns-in-Cell g c =
    c.is_chosen.ensures
    ∙ sym (choice_is g.D.Device.table c.args.net.now c.args.forms.now c.args.pair (carry.Cell c.in-Cell.cell) ((rw c.from.ensures at c.carries.ensures) ∙ ap (λ (x : Carry). Some x) c.in-Cell.is))
