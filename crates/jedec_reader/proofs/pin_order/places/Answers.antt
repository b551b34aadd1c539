use Rattle.std.proofs.Common.{◌≡◌, ◌∙◌, sym, subst, ℕ, List}
use Rattle.jedec_reader.proofs.Common.{range_with_len, ArePlaces}
use Rattle.jedec_file.specs.declared.field.Field.TheVariants as field
use Rattle.jedec_reader.proofs.PinOrders.{take-range_with_len, order_put, order_other}
use Rattle.jedec_reader.proofs.pin_order.places.Goals as goal
use Rattle.jedec_reader.proofs.pin_order.places.Goals.{in-PinOrder, in_default}

pub loop-field-init : goal.loop-field-init
loop-field-init g c =
    let pins : c.from.result ≡ g.D.Device.table.pins = c.from.ensures ∙ c.pins.ensures in
    let front : c.split_at.result.0.now ≡ range_with_len 1 g.D.Device.table.pins =
    c.split_at.ensures.front ∙ rw (c.as_slice.ensures, pins) (take-range_with_len 1 24 g.D.Device.table.pins g.D.Device.sound.sizes.pins_high) in
    subst (λ (order : List ℕ). ArePlaces order c.places_in-places.result) front c.places_in-places.ensures

pub loop-field-preserved : goal.loop-field-preserved
loop-field-preserved g c = elim c.match-field.branch [
  | in-PinOrder w ↦
      let is : c.field-item.result ≡ field.PinOrder w.as_slice-in-PinOrder.result.now = rw w.as_slice-in-PinOrder.ensures w.in-PinOrder.is in
      let order = order_put g.D.Device.table c.args.fields.now c.loop-field.field-index c.field-item.result w.as_slice-in-PinOrder.result.now c.loop-field-test.true c.field-item.is is in
      rw w.places-is (subst (λ (all : List ℕ). ArePlaces all w.places_in-places-in-PinOrder.result) (sym order) w.places_in-places-in-PinOrder.ensures)
  | in_default w ↦
      let order = order_other g.D.Device.table c.args.fields.now c.loop-field.field-index c.field-item.result c.loop-field-test.true c.field-item.is w.in_default.not-PinOrder in
      rw w.places-is (subst (λ (all : List ℕ). ArePlaces all c.loop-field.places) (sym order) c.loop-field.invariant)
]
