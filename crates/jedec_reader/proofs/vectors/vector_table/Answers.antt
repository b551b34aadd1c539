use Rattle.std.proofs.Common.{◌≡◌, length, arith, subst}
use Rattle.jedec_reader.proofs.Common.{order_of, FieldFits}
use Rattle.jedec_file.specs.declared.field.Field.TheVariants as field
use Rattle.jedec_reader.proofs.LevelLists.{fits_at}
use Rattle.jedec_reader.proofs.PinOrders.{order_of-length}
use Rattle.jedec_reader.proofs.NumberedVectors.{places_within, placed_chars, placed_padded, vector_put, vector_other}
use Rattle.jedec_reader.proofs.vectors.vector_table.Goals as goal
use Rattle.jedec_reader.proofs.vectors.vector_table.Goals.{in-Vector+in_ok-put_vector, in_default}

pub at_pins-requires-clause-within : goal.at_pins-requires-clause-within
at_pins-requires-clause-within g c =
    let order = order_of-length g.D.Device.table c.args.fields.now c.requires.fits in
    let fits = subst (FieldFits g.D.Device.table) c.in-Vector.is (fits_at g.D.Device.table c.args.fields.now c.loop-field.field-index c.field-item.result c.requires.fits c.loop-field-test.true c.field-item.is) in
    let count : length c.as_slice.result.now ≡ length (order_of g.D.Device.table c.args.fields.now) = rw (c.as_slice.ensures, order) fits.1 in
    rw count (places_within (order_of g.D.Device.table c.args.fields.now) c.args.places.now c.requires.places (omega (arith, order, g.D.Device.sound.sizes.pins_low)))

pub loop-field-preserved : goal.loop-field-preserved
loop-field-preserved g c = elim c.match-field.branch [
  | in-Vector+in_ok-put_vector w ↦
      let is : c.field-item.result ≡ field.Vector w.in-Vector.number w.as_slice.result.now = rw w.as_slice.ensures w.in-Vector.is in
      let fits = subst (FieldFits g.D.Device.table) is (fits_at g.D.Device.table c.args.fields.now c.loop-field.field-index c.field-item.result c.requires.fits c.loop-field-test.true c.field-item.is) in
      let order = order_of-length g.D.Device.table c.args.fields.now c.requires.fits in
      let same = placed_chars g.D.Device.table (order_of g.D.Device.table c.args.fields.now) c.args.places.now w.as_slice.result.now w.at_pins.result w.at_pins.ensures c.requires.places order fits.1 g.D.Device.sound.sizes.pins_high in
      let padded = placed_padded g.D.Device.table c.args.places.now w.as_slice.result.now w.at_pins.result w.at_pins.ensures fits.1 in
      let put = w.in_ok-put_vector.ensures in
      rw w.table-is record {
        vectors = vector_put g.D.Device.table (order_of g.D.Device.table c.args.fields.now) c.args.fields.now c.loop-field.field-index c.field-item.result w.in-Vector.number w.as_slice.result.now w.at_pins.result c.loop-field.table.items w.put_vector.new.table.items
            c.loop-field-test.true c.field-item.is is same padded put.put c.loop-field.invariant.vectors;
        numbers = put.numbers;
      }
  | in_default w ↦
      rw w.table-is record {
        vectors = vector_other g.D.Device.table (order_of g.D.Device.table c.args.fields.now) c.args.fields.now c.loop-field.field-index c.field-item.result c.loop-field.table.items c.loop-field-test.true c.field-item.is w.in_default.not-Vector c.loop-field.invariant.vectors;
        numbers = c.loop-field.invariant.numbers;
      }
]
