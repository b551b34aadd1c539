use Rattle.std.proofs.Common.{length, subst}
use Rattle.device_logic.proofs.Common.{device_logic, IsDetermined, HasNoResetPath}
use Rattle.device_logic.proofs.CellsOrdered.{determined, same_logic}
use Rattle.device_logic.proofs.Loads.{each_in}
use Rattle.device_logic.proofs.OneRun.{device_ordered}
use Rattle.device_logic.proofs.loading.load.Goals as goal

pub pins_of-requires : goal.pins_of-requires
pins_of-requires g c = rw c.as_slice.ensures.value (each_in (length g.D.Device.table.cells) c.in-Err.found.vertices.items c.in-Err.ensures.refused.is_loop.inside)

pub pins_of-requires-in-Some : goal.pins_of-requires-in-Some
pins_of-requires-in-Some g c = rw c.as_slice-in-Some.ensures.value (each_in (length g.D.Device.table.cells) c.in-Some.path.items c.in-Some.ensures.found.inside)

pub returns-clause-logic : goal.returns-clause-logic
returns-clause-logic g c = rw (c.new-in-None.ensures.fuses, c.in_ok-array.ensures) (same_logic g.D.Device.table c.args.fuses.now c.new-in-None.result.order)

pub returns-clause-ordered : goal.returns-clause-ordered
returns-clause-ordered g c =
    rw (c.new-in-None.ensures.fuses, c.new-in-None.ensures.order)
    (device_ordered g.D.Device.table c.in_ok-array.array c.in-Ok.order.items g.D.Device.sound c.in-Ok.ensures.ok c.in-None.ensures.none)

pub returns-clause-no_path : goal.returns-clause-no_path
returns-clause-no_path g c = subst (HasNoResetPath g.D.Device.table) c.in_ok-array.ensures c.in-None.ensures.none

pub returns-clause-determined : goal.returns-clause-determined
returns-clause-determined g c =
    subst (λ fuses. IsDetermined (device_logic g.D.Device.table fuses)) c.in_ok-array.ensures
    (determined g.D.Device.table c.in_ok-array.array c.in-Ok.order.items
    (device_ordered g.D.Device.table c.in_ok-array.array c.in-Ok.order.items g.D.Device.sound c.in-Ok.ensures.ok c.in-None.ensures.none))
