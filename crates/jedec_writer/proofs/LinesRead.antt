-- What the lines of the canonical file say, from the one of pins to the last vector's.
use Rattle.std.proofs.Common.{◌≡◌, ℕ, zero, suc, ◌+◌, ◌-◌, ◌*◌, ◌^◌, ◌<◌, ◌≤◌, Bool, true, false, if◌then◌else◌, List, [], ◌∷◌, ◌++◌, length, map, drop, refl, arith, inl, inr, codes, slice_range}
use Rattle.jedec_writer.proofs.Common.{list_all, list_any, All, decimal, cases_Bool, length-take, length-drop, All-head, All-tail, Field, Table, space, four_digits, four_hex, level_char, line, is_test_char, levels_line, row_lines, control_line, line_with, vector_lines, control_levels, past, control_fuses}
use Rattle.jedec_file.specs.declared.field.Field.TheVariants as field
use Rattle.jedec_writer.proofs.Words.{IsWord, is_plain, word_is_plain, both_pass}
use Rattle.jedec_writer.proofs.Numerals.{decimal_is_word, four_digits_are_word, four_hex_is_word, levels_are_word, chars_are_word}
use Rattle.jedec_writer.proofs.FieldsRead.{says_pins, says_fuses, says_vectors, says_default, says_security, says_test_level, says_levels, says_sum, says_vector}
use Rattle.jedec_writer.proofs.SaidBack.{Says, says_nothing, says_both, says_line}

-- ---- one line each

plain_words : (first second : List ℕ) → IsWord first → IsWord second → list_all is_plain (first ++ space ∷ second) ≡ true
plain_words first second is also =
    both_pass is_plain first (space ∷ second) (word_is_plain first is.bytes) (word_is_plain second also.bytes)

pub pins_line : (t : Table) (n : ℕ) → n < 2 ^ 16 → Says t (line (codes "QP" ++ decimal n)) (field.PinCount n ∷ [])
pins_line t n short = says_line t 81 (80 ∷ decimal n) (field.PinCount n) refl (word_is_plain (decimal n) (decimal_is_word n short).bytes) (says_pins t n short)

pub fuses_line : (t : Table) (n : ℕ) → n < 2 ^ 16 → Says t (line (codes "QF" ++ decimal n)) (field.FuseCount n ∷ [])
fuses_line t n short = says_line t 81 (70 ∷ decimal n) (field.FuseCount n) refl (word_is_plain (decimal n) (decimal_is_word n short).bytes) (says_fuses t n short)

count_line : (t : Table) (n : ℕ) → n < 2 ^ 16 → Says t (line (codes "QV" ++ decimal n)) (field.Passed ∷ [])
count_line t n short = says_line t 81 (86 ∷ decimal n) field.Passed refl (word_is_plain (decimal n) (decimal_is_word n short).bytes) (says_vectors t n short)

pub default_line : (t : Table) → Says t (line (codes "F0")) (field.DefaultFuse false ∷ [])
default_line t = says_line t 70 (48 ∷ []) (field.DefaultFuse false) refl refl (says_default t)

pub security_line : (t : Table) → Says t (line (codes "G0")) (field.Passed ∷ [])
security_line t = says_line t 71 (48 ∷ []) field.Passed refl refl (says_security t)

pub sum_line : (t : Table) (n : ℕ) → n < 2 ^ 16 → Says t (line (codes "C" ++ four_hex n)) (field.FuseSum n ∷ [])
sum_line t n short = says_line t 67 (four_hex n) (field.FuseSum n) refl (word_is_plain (four_hex n) (four_hex_is_word n).bytes) (says_sum t n short)

-- ---- lines that only a file with vectors has

abbrev pub fields_with : List (List ℕ) → Field → List Field
fields_with [] said = []
fields_with (vector ∷ vectors) said = said ∷ []

says_with : (t : Table) (vectors : List (List ℕ)) (text : List ℕ) (said : Field) → Says t (line text) (said ∷ []) → Says t (line_with vectors text) (fields_with vectors said)
says_with t [] text said says = says_nothing t
says_with t (vector ∷ vectors) text said says = says

pub count_lines : (t : Table) (vectors : List (List ℕ)) → length vectors < 2 ^ 16 → Says t (line_with vectors (codes "QV" ++ decimal (length vectors))) (fields_with vectors field.Passed)
count_lines t vectors short = says_with t vectors (codes "QV" ++ decimal (length vectors)) field.Passed (count_line t (length vectors) short)

pub test_level_lines : (t : Table) (vectors : List (List ℕ)) → Says t (line_with vectors (codes "X0")) (fields_with vectors (field.DefaultTest false))
test_level_lines t vectors = says_with t vectors (codes "X0") (field.DefaultTest false) (says_line t 88 (48 ∷ []) (field.DefaultTest false) refl refl (says_test_level t))

-- ---- levels

abbrev pub levels_fields : ℕ → List Bool → List Field
levels_fields first levels = if list_any (λ level. level) levels then field.Levels first levels ∷ [] else []

abbrev pub row_fields : ℕ → List Bool → ℕ → List Field
row_fields columns fuses zero = []
row_fields columns fuses (suc rows) =
    row_fields columns fuses rows ++ levels_fields (columns * rows) (slice_range fuses (columns * rows) (columns * rows + columns))

some_levels : (t : Table) (first : ℕ) (levels : List Bool) → list_any (λ level. level) levels ≡ true → first < 10000 → first + length levels ≤ t.fuses → Says t (line (codes "L" ++ four_digits first ++ space ∷ map level_char levels)) (field.Levels first levels ∷ [])
some_levels t first [] any small fits = absurd cc
some_levels t first (level ∷ levels) any small fits =
    says_line t 76 (four_digits first ++ space ∷ map level_char (level ∷ levels)) (field.Levels first (level ∷ levels)) refl
    (plain_words (four_digits first) (map level_char (level ∷ levels)) (four_digits_are_word first) (levels_are_word level levels))
    (says_levels t first level levels small fits)

pub levels_lines : (t : Table) (first : ℕ) (levels : List Bool) → first < 10000 → first + length levels ≤ t.fuses → Says t (levels_line first levels) (levels_fields first levels)
levels_lines t first levels small fits = elim (cases_Bool (list_any (λ level. level) levels)) [
  | inl any ↦ rw any (some_levels t first levels any small fits)
  | inr none ↦ rw none (says_nothing t)
]

-- a part of the fuses ends at their end
pub part_ends : (fuses : List Bool) (from to : ℕ) → from ≤ length fuses → from + length (slice_range fuses from to) ≤ length fuses
part_ends fuses from to within = omega (arith, length-take (to - from) (drop from fuses), length-drop from fuses)

pub row_lines_say : (t : Table) (fuses : List Bool) (rows : ℕ) → length fuses ≡ t.fuses → t.fuses ≤ 9999 → t.columns * rows ≤ t.fuses → Says t (row_lines t.columns fuses rows) (row_fields t.columns fuses rows)
unfolding row_lines
row_lines_say t fuses zero long high fits = says_nothing t
row_lines_say t fuses (suc rows) long high fits =
    let first : t.columns * rows ≤ t.fuses = omega arith in
    let past = part_ends fuses (t.columns * rows) (t.columns * rows + t.columns) (omega arith) in
    says_both
    (row_lines_say t fuses rows long high first)
    (levels_lines t (t.columns * rows) (slice_range fuses (t.columns * rows) (t.columns * rows + t.columns)) (omega arith) (omega arith))

pub control_line_says : (t : Table) (fuses : List Bool) → length fuses ≡ t.fuses → t.fuses ≤ 9999 → t.columns * t.rows ≤ t.fuses → Says t (control_line t fuses) (levels_fields (t.columns * t.rows) (control_levels t fuses))
control_line_says t fuses long high fits =
    let end = part_ends fuses (t.columns * t.rows) (past (control_fuses t)) (omega arith) in
    levels_lines t (t.columns * t.rows) (control_levels t fuses) (omega arith) (omega arith)

-- ---- vectors

abbrev pub vector_fields : ℕ → List (List ℕ) → List Field
vector_fields n [] = []
vector_fields n (vector ∷ vectors) = field.Vector n vector ∷ vector_fields (suc n) vectors

-- the characters of a vector of the device
pub record IsVectorText (t : Table) (vector : List ℕ) : Type 0 where
  pub long : length vector ≡ t.pins
  pub chars : list_all is_test_char vector ≡ true

vector_line : (t : Table) (n : ℕ) (chars : List ℕ) → 1 ≤ t.pins → 1 ≤ n → n < 10000 → IsVectorText t chars → Says t (line (codes "V" ++ four_digits n ++ space ∷ chars)) (field.Vector n chars ∷ [])
vector_line t n chars some low small is =
    says_line t 86 (four_digits n ++ space ∷ chars) (field.Vector n chars) refl
    (plain_words (four_digits n) chars (four_digits_are_word n) (chars_are_word chars is.chars (omega arith)))
    (says_vector t n chars low small is.long some is.chars)

pub vector_lines_say : (t : Table) (n : ℕ) (vectors : List (List ℕ)) → 1 ≤ t.pins → 1 ≤ n → n + length vectors ≤ 10000 → All (IsVectorText t) vectors → Says t (vector_lines n vectors) (vector_fields n vectors)
vector_lines_say t n [] some low few each = says_nothing t
vector_lines_say t n (vector ∷ vectors) some low few each =
    says_both
    (vector_line t n vector some low (omega arith) (All-head (IsVectorText t) vector vectors each))
    (vector_lines_say t (suc n) vectors some (omega arith) (omega arith) (All-tail (IsVectorText t) vector vectors each))
