-- The characters of a test vector at the device's pins (JESD3-C, test vector field).
use Rattle.std.specs.Prelude.{◌≡◌, ℕ, true, List, map, take}
use Rattle.std.specs.List.{list_all}
use Rattle.pld_base.specs.declared.point.Vector.{Vector}
use Rattle.pld_device.specs.Table.{Table}
use Rattle.jedec_file.specs.Fields.{is_test_char}

-- those of pins 1 to the last one; what follows counts for nothing
abbrev pub chars_of : Table → Vector → List ℕ
chars_of t vector = take t.pins vector.chars

abbrev pub all_chars : Table → List Vector → List (List ℕ)
all_chars t vectors = map (chars_of t) vectors

-- each of them is one that a fuse file may have
abbrev pub IsTestVector : Table → Vector → Type 0
IsTestVector t vector = list_all is_test_char (chars_of t vector) ≡ true
