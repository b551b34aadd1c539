use Rattle.std.proofs.Common.{arith, sym, ◌∙◌}
use Rattle.jedec_reader.proofs.Common.{words}
use Rattle.jedec_reader.proofs.OrderFields.{order_none, order_said, order_refused}
use Rattle.jedec_reader.proofs.field.order_field.Goals as goal

pub returns-in_default : goal.returns-in_default
returns-in_default g c =
    order_none g.D.Device.table (words c.args.text.now) (omega (arith, g.D.Device.sound.sizes.pins_high)) (rw c.in_default.is at c.in_ok-order.ensures)

pub returns-then-is_each_pin : goal.returns-then-is_each_pin
returns-then-is_each_pin g c =
    let each = rw c.deref.ensures.value at (sym c.is_each_pin.ensures ∙ c.if-is_each_pin.true) in
    rw c.from_vec.ensures (order_said g.D.Device.table (words c.args.text.now) c.pins.result c.in-Some.order.items (omega (arith, g.D.Device.sound.sizes.pins_high)) c.pins.ensures each (rw c.in-Some.is at c.in_ok-order.ensures))

pub returns : goal.returns
returns g c =
    let other = rw c.deref.ensures.value at (sym c.is_each_pin.ensures ∙ c.if-is_each_pin.false) in
    order_refused g.D.Device.table (words c.args.text.now) c.pins.result c.in-Some.order.items (omega (arith, g.D.Device.sound.sizes.pins_high)) c.pins.ensures other (rw c.in-Some.is at c.in_ok-order.ensures)
