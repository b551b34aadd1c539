-- Texts by their places.
use Rattle.std.specs.Prelude.{ℕ, ◌≤◌, List, take}
use Rattle.pld_base.specs.declared.name_text.Text.{Text}
use Rattle.pld_base.specs.declared.name_text.Text.TheVariants.{Short, Long}

-- the bytes of a text, within it or on the heap
abbrev pub bytes_of : Text → List ℕ
bytes_of (Short length bytes) = take length bytes
bytes_of (Long text) = text.value.items

-- a text that lies within itself has room there
abbrev pub IsSound : Text → Type 0
IsSound (Short length bytes) = length ≤ 14
IsSound (Long text) = Unit {0}
