use Rattle.std.proofs.Common.{take}
use Rattle.jedec_reader.proofs.Common.{order_of, ArePlaces}
use Rattle.jedec_reader.proofs.pin_order.places.Given as goal

abbrev pub invariant-loop-field : goal.invariant-loop-field
invariant-loop-field g l = ArePlaces (order_of g.D.Device.table (take l.field-index l.fields)) l.places
