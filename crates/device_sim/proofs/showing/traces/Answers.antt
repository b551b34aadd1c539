-- The traces of a loaded device are those of the device.
use Rattle.std.proofs.Common.{List, take, ap, ◌∙◌}
use Rattle.device_sim.proofs.Common.{Vector}
use Rattle.device_sim.proofs.Shown.{is_device_trace}
use Rattle.device_sim.proofs.showing.traces.Goals as goal

pub returns : goal.returns
returns g c =
    is_device_trace g.D.Device.table c.args.file.now.default_level c.args.file.now.vectors c.args.most c.args.file.now.fuses c.in_ok-logic.logic.fuses c.in_ok-logic.logic.order c.pins.result c.first_vectors-vectors.result.now
    c.in_ok-list.list.items c.from_vec.result g.D.Device.sound.sizes.pins_high c.in_ok-logic.ensures.fuses c.pins.ensures
    (c.first_vectors-vectors.ensures ∙ ap (λ (vs : List Vector). take c.args.most vs) c.as_slice.ensures) c.in_ok-logic.ensures.ordered c.in_ok-list.ensures c.from_vec.ensures
