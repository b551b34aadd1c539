use Rattle.std.proofs.Common.{◌≤◌, ◌^◌, take, length}
use Rattle.jedec_reader.proofs.Common.{order_of, HasVectors}
use Rattle.jedec_reader.proofs.vectors.vector_table.Given as goal

abbrev pub invariant-loop-field : goal.invariant-loop-field
invariant-loop-field g l = record {
  vectors : HasVectors g.D.Device.table (order_of g.D.Device.table l.fields) (take l.field-index l.fields) l.table.items;
  numbers : length l.table.items ≤ 2 ^ 16;
}
