-- The place of a field's letter, and what makes a vector (JESD3-C, the fields of each letter; which numbers and
-- characters they hold is this project's profile).
use Rattle.std.specs.Prelude.{ℕ, ◌+◌, ◌-◌, ◌==◌, ◌&&◌, not, Bool, List, length}
use Rattle.jedec_reader.specs.Prelude.{list_all, trimmed, is_test_char}

-- the place of the letter in a piece that begins at the offset
abbrev pub letter_at : (at : ℕ) → List ℕ → ℕ
letter_at at piece = at + (length piece - length (trimmed piece))

-- the number is from 1 on, and there is a test vector's character for each pin
abbrev pub is_vector : (pins number : ℕ) → List ℕ → Bool
is_vector pins number chars = not (number == 0) && (length chars == pins && list_all is_test_char chars)
