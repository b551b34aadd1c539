use Rattle.std.proofs.Common.{Some, sym, ap, ◌∙◌}
use Rattle.fitter.proofs.Common.{Carry, carry_in_range, plain_netlist}
use Rattle.pld_device.specs.declared.carry.Carry.TheVariants as carry
use Rattle.fitter.proofs.TurnBits.{turned_is}
use Rattle.fitter.proofs.masks.is_turned.Goals as goal

pub is_register-requires : goal.is_register-requires
is_register-requires g c =
    carry_in_range g.D.Device.table g.D.Device.sound c.args.pair (carry.Cell c.in-Cell.cell) ((rw c.from.ensures at c.carries.ensures) ∙ ap (λ (x : Carry). Some x) c.in-Cell.is)

pub returns-in-Cell : goal.returns-in-Cell
returns-in-Cell g c =
    c.is_register.ensures
    ∙ sym (turned_is g.D.Device.table (plain_netlist c.args.net.now) c.args.pair (carry.Cell c.in-Cell.cell) ((rw c.from.ensures at c.carries.ensures) ∙ ap (λ (x : Carry). Some x) c.in-Cell.is))
