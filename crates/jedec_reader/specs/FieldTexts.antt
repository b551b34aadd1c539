-- What the text of a field lists (JESD3-C, the fields of each letter; which numbers they hold is this project's
-- profile).
use Rattle.std.specs.Prelude.{ℕ, ◌^◌, nat_lt, if◌then◌else◌, Bool, Option, None, Some, option_and_then, List}
use Rattle.jedec_reader.specs.Prelude.{concat, words, number, each_of, level_of, Framed}

-- a text, and the place of its first byte
abbrev pub framed : (at : ℕ) → List ℕ → Framed
framed at text = record { at = at; text = text }

-- the characters of all words
abbrev pub characters_in : List ℕ → List ℕ
characters_in text = concat (words text)

-- the levels that these are, if each of them is one
abbrev pub levels_in : List ℕ → Option (List Bool)
levels_in text = each_of level_of (characters_in text)

-- a number that has 8 bits
abbrev pub pin_number : List ℕ → Option ℕ
pin_number word = option_and_then (λ n. if nat_lt n (2 ^ 8) then Some n else None) (number word)

-- the numbers that the words are, if each of them is one
abbrev pub pins_in : List ℕ → Option (List ℕ)
pins_in text = each_of pin_number (words text)
