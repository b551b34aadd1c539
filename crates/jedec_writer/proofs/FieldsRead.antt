-- What the field of each line of the canonical file says. Letters are as bytes: C 67, F 70, G 71, L 76, P 80, Q
-- 81, V 86, X 88.
use Rattle.std.proofs.Common.{◌≡◌, ℕ, ◌+◌, ◌^◌, ◌<◌, ◌≤◌, Bool, true, false, List, [], ◌∷◌, ◌++◌, length, map, Some, refl, arith, append-nil, ◌==◌}
use Rattle.jedec_writer.proofs.Common.{list_all, decimal, le-leb, eq-eqb, ne_eqb, Table, space, four_digits, four_hex, level_char, is_test_char, each_of, level_of, field_of}
use Rattle.jedec_file.specs.declared.field.Field.TheVariants as field
use Rattle.jedec_writer.proofs.Words.{IsWord, one_word, two_words}
use Rattle.jedec_writer.proofs.Numerals.{decimal_is_word, short_number-decimal, four_digits_are_word, number-four_digits, short_number-four_digits, four_hex_is_word, four_hex_value-four_hex, levels_are_word, each_of-levels, chars_are_word}

-- ---- counts

pub says_pins : (t : Table) (n : ℕ) → n < 2 ^ 16 → field_of t 81 (80 ∷ decimal n) ≡ Some (field.PinCount n)
unfolding field_of
says_pins t n short = rw (one_word (decimal n) (decimal_is_word n short), short_number-decimal n short) refl

pub says_fuses : (t : Table) (n : ℕ) → n < 2 ^ 16 → field_of t 81 (70 ∷ decimal n) ≡ Some (field.FuseCount n)
unfolding field_of
says_fuses t n short = rw (one_word (decimal n) (decimal_is_word n short), short_number-decimal n short) refl

pub says_vectors : (t : Table) (n : ℕ) → n < 2 ^ 16 → field_of t 81 (86 ∷ decimal n) ≡ Some field.Passed
unfolding field_of
says_vectors t n short = rw (one_word (decimal n) (decimal_is_word n short), short_number-decimal n short) refl

-- ---- single levels

pub says_default : (t : Table) → field_of t 70 (48 ∷ []) ≡ Some (field.DefaultFuse false)
unfolding field_of
says_default t = refl

pub says_security : (t : Table) → field_of t 71 (48 ∷ []) ≡ Some field.Passed
unfolding field_of
says_security t = refl

pub says_test_level : (t : Table) → field_of t 88 (48 ∷ []) ≡ Some (field.DefaultTest false)
unfolding field_of
says_test_level t = refl

-- ---- levels, the sum, vectors

says_level_chars : (t : Table) (first : ℕ) (chars : List ℕ) (level : Bool) (levels : List Bool) → IsWord chars → each_of level_of chars ≡ Some (level ∷ levels)
    → first < 10000 → first + length (level ∷ levels) ≤ t.fuses → field_of t 76 (four_digits first ++ space ∷ chars) ≡ Some (field.Levels first (level ∷ levels))
unfolding field_of
says_level_chars t first chars level levels is read small fits =
    let parts = two_words (four_digits first) chars (four_digits_are_word first) is in
    let whole : chars ++ [] ≡ chars = append-nil chars in
    rw (parts, number-four_digits first small, whole, read, le-leb (first + length (level ∷ levels)) t.fuses fits) refl

pub says_levels : (t : Table) (first : ℕ) (level : Bool) (levels : List Bool) → first < 10000 → first + length (level ∷ levels) ≤ t.fuses
    → field_of t 76 (four_digits first ++ space ∷ map level_char (level ∷ levels)) ≡ Some (field.Levels first (level ∷ levels))
says_levels t first level levels small fits =
    says_level_chars t first (map level_char (level ∷ levels)) level levels (levels_are_word level levels) (each_of-levels (level ∷ levels)) small fits

pub says_sum : (t : Table) (n : ℕ) → n < 2 ^ 16 → field_of t 67 (four_hex n) ≡ Some (field.FuseSum n)
unfolding field_of
says_sum t n short = rw (one_word (four_hex n) (four_hex_is_word n), four_hex_value-four_hex n short) refl

pub says_vector : (t : Table) (n : ℕ) (chars : List ℕ) → 1 ≤ n → n < 10000 → length chars ≡ t.pins → 1 ≤ t.pins → list_all is_test_char chars ≡ true
    → field_of t 86 (four_digits n ++ space ∷ chars) ≡ Some (field.Vector n chars)
unfolding field_of
says_vector t n chars low small long some test =
    let parts = two_words (four_digits n) chars (four_digits_are_word n) (chars_are_word chars test (omega arith)) in
    let whole : chars ++ [] ≡ chars = append-nil chars in
    let apart : (n == 0) ≡ false = ne_eqb n 0 (λ e. omega arith) in
    rw (parts, short_number-four_digits n small, whole, apart, eq-eqb (length chars) t.pins long, test) refl
