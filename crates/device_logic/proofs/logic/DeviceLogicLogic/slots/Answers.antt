use Rattle.std.proofs.Common.{length, arith}
use Rattle.device_logic.proofs.Common.{few}
use Rattle.device_logic.proofs.logic.DeviceLogicLogic.slots.Goals as goal

pub overflow_cast-result : goal.overflow_cast-result
overflow_cast-result g c =
    omega (arith, few c.self.inside.order.items (length g.D.Device.table.cells) c.self.invariant.ordered.once c.self.invariant.ordered.inside, g.D.Device.sound.sizes.few_cells)
