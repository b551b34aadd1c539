-- What one field of a fuse file says: its letter, and the words after it, which blanks part (JESD3-C, the
-- fields of each letter; which letters are passed over is this project's profile).
use Rattle.std.specs.Prelude.{ℕ, ◌+◌, ◌^◌, nat_lt, nat_le, ◌==◌, ◌&&◌, ◌||◌, not, if◌then◌else◌, Bool, true, false, Option, None, Some, option_and_then, option_map, List, [], ◌∷◌, length, filter, codes}
use Rattle.std.specs.List.{list_all, list_any, concat, slice_split, range_with_len}
use Rattle.std.specs.Str.{all_ascii_digits}
use Rattle.std.specs.Str.Parse.{digits_value}
use Rattle.jedec_file.specs.declared.field.Field.{Field}
use Rattle.jedec_file.specs.declared.field.Field.TheVariants as field
use Rattle.pld_device.specs.Table.{Table}
use Rattle.jedec_file.specs.FileText.{byte, space, level_char}
use Rattle.jedec_file.specs.Frame.{four_hex_value}

-- space, tab, carriage return and line feed
abbrev pub is_blank : ℕ → Bool
is_blank b = b == space || (b == byte (codes "\t") || (b == byte (codes "\r") || b == byte (codes "\n")))

-- some byte is in the text
abbrev pub has_bytes : List ℕ → Bool
has_bytes [] = false
has_bytes (b ∷ bs) = true

-- the runs of bytes that blanks part
abbrev pub words : List ℕ → List (List ℕ)
words text = filter has_bytes (slice_split is_blank text)

-- some byte of a text is this one
abbrev pub is_among : List ℕ → ℕ → Bool
is_among text b = list_any (λ other. other == b) text

-- ---- words

-- a decimal number
abbrev pub number : List ℕ → Option ℕ
number word = if all_ascii_digits word then Some (digits_value 10 word) else None

-- a number that has 16 bits
abbrev pub short_number : List ℕ → Option ℕ
short_number word = option_and_then (λ n. if nat_lt n (2 ^ 16) then Some n else None) (number word)

-- a level
abbrev pub level_of : ℕ → Option Bool
level_of b = if b == level_char false then Some false else if b == level_char true then Some true else None

-- what each byte or word is, if each of them is something
abbrev pub each_of : {A B : Type 0} → (A → Option B) → List A → Option (List B)
each_of of [] = Some []
each_of of (x ∷ xs) = option_and_then (λ y. option_map (λ ys. y ∷ ys) (each_of of xs)) (of x)

-- the one word, or the one byte, that there is
abbrev pub only : {A : Type 0} → List A → Option A
only (x ∷ []) = Some x
only xs = None

-- the one level that the words say
abbrev pub one_level : List (List ℕ) → Option Bool
one_level ws = option_and_then level_of (option_and_then only (only ws))

-- ---- fields

-- Q: the numbers of fuses, pins and vectors; others are passed over
abbrev pub count_field : (kind : ℕ) → List ℕ → Option Field
count_field kind text =
    if kind == byte (codes "F") then option_map field.FuseCount (option_and_then short_number (only (words text)))
    else if kind == byte (codes "P") then option_map field.PinCount (option_and_then short_number (only (words text)))
    else if kind == byte (codes "V") then option_map (λ n. field.Passed) (option_and_then short_number (only (words text)))
    else Some field.Passed

-- the bytes from the first one on that is no blank
abbrev pub trimmed : List ℕ → List ℕ
trimmed [] = []
trimmed (b ∷ bs) = if is_blank b then trimmed bs else b ∷ bs

-- the kind of a Q field is its first letter
abbrev pub counts : List ℕ → Option Field
counts [] = Some field.Passed
counts (kind ∷ text) = count_field kind text

-- L: levels from a fuse on, each of them a fuse of the device; without levels the field names no fuse
abbrev pub levels_from : Table → ℕ → List Bool → Option Field
levels_from t first [] = Some field.Passed
levels_from t first (level ∷ levels) =
    if nat_le (first + length (level ∷ levels)) t.fuses then Some (field.Levels first (level ∷ levels)) else None

abbrev pub levels_field : Table → List (List ℕ) → Option Field
levels_field t [] = None
levels_field t (first ∷ rest) =
    option_and_then (λ n. option_and_then (levels_from t n) (each_of level_of (concat rest))) (number first)

-- P: each pin of the device once
abbrev pub is_each_pin : ℕ → List ℕ → Bool
is_each_pin pins order =
    length order == pins && list_all (is_among order) (range_with_len 1 pins)

abbrev pub order_field : Table → List (List ℕ) → Option Field
order_field t ws =
    option_and_then (λ order. if is_each_pin t.pins order then Some (field.PinOrder order) else None) (each_of number ws)

-- the characters of a test vector
abbrev pub is_test_char : ℕ → Bool
is_test_char = is_among (codes "01CKHLZXNF23456789BPUD")

-- V: a number from 1 on, and a character for each pin
abbrev pub vector_field : Table → List (List ℕ) → Option Field
vector_field t [] = None
vector_field t (first ∷ rest) =
    option_and_then
    (λ n. if not (n == 0) && (length (concat rest) == t.pins && list_all is_test_char (concat rest))
    then Some (field.Vector n (concat rest)) else None)
    (short_number first)

-- the letters of fields that are passed over: notes, and those of testers
abbrev pub is_passed_over : ℕ → Bool
is_passed_over = is_among (codes "NADEJRSTU")

-- the letters of all fields
abbrev pub is_field_letter : ℕ → Bool
is_field_letter = is_among (codes "QFLCGXPVNADEJRSTU")

-- what the field of this letter and text says, if it is one
unfoldable pub field_of : Table → (letter : ℕ) → List ℕ → Option Field
field_of t letter text =
    if letter == byte (codes "Q") then counts (trimmed text)
    else if letter == byte (codes "F") then option_map field.DefaultFuse (one_level (words text))
    else if letter == byte (codes "L") then levels_field t (words text)
    else if letter == byte (codes "C") then option_map field.FuseSum (option_and_then four_hex_value (only (words text)))
    else if letter == byte (codes "G") then option_map (λ level. field.Passed) (one_level (words text))
    else if letter == byte (codes "X") then option_map field.DefaultTest (one_level (words text))
    else if letter == byte (codes "P") then order_field t (words text)
    else if letter == byte (codes "V") then vector_field t (words text)
    else if is_passed_over letter then Some field.Passed
    else None
