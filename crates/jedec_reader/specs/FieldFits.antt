-- What holds of every field that a fuse file of a device can have (this project's rule).
use Rattle.std.specs.Prelude.{◌≡◌, ◌+◌, ◌≤◌, true, length, ⊤}
use Rattle.jedec_reader.specs.Prelude.{Field, is_each_pin, Table}
use Rattle.jedec_file.specs.declared.field.Field.TheVariants as field

-- levels are those of the device's fuses, an order has each of its pins once, and a vector is numbered from 1 on
-- and has a character for each pin
abbrev pub FieldFits : Table → Field → Type 0
FieldFits t (field.Levels first levels) = first + length levels ≤ t.fuses
FieldFits t (field.PinOrder order) = is_each_pin t.pins order ≡ true
FieldFits t (field.Vector n chars) = (1 ≤ n) × (length chars ≡ t.pins)
FieldFits t other = ⊤
