use Rattle.std.proofs.Common.{◌≡◌, ◌+◌, length}
use Rattle.jedec_reader.proofs.Common.{fields_from, pieces}
use Rattle.jedec_reader.proofs.FieldLoop.{behind_fields}
use Rattle.jedec_reader.proofs.field_list.fields_from.Given as goal

abbrev pub invariant-loop-length : goal.invariant-loop-length
invariant-loop-length g l = record {
  said : behind_fields l.fields.items (fields_from g.D.Device.table l.place (pieces l.rest)) ≡ fields_from g.D.Device.table l.fn.at (pieces l.fn.text);
  place : l.place + length l.rest ≡ l.fn.at + length l.fn.text;
}

abbrev pub decreases-loop-length : goal.decreases-loop-length
decreases-loop-length g l = length l.rest
