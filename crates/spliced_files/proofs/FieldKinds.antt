-- What a field that is kept says, and what one says that is not.
use Rattle.std.proofs.Common.{◌≡◌, ℕ, ◌+◌, ◌==◌, nat_le, Bool, true, false, not, ◌&&◌, ◌||◌, if◌then◌else◌, List, [], ◌∷◌, length, Option, None, Some, option_and_then, option_map, refl, inl, inr, arith, codes}
use Rattle.std.proofs.lemmas.Bool.{cases_Bool, not-true, or_parts}
use Rattle.std.proofs.lemmas.Bool.Decides.{nat_tests}
use Rattle.std.specs.List.{concat, list_all}
use Rattle.jedec_file.specs.declared.field.Field.{Field}
use Rattle.jedec_file.specs.declared.field.Field.TheVariants as field
use Rattle.jedec_file.specs.Fields.{counts, each_of, is_among, is_each_pin, is_passed_over, is_test_char, level_of, levels_field, levels_from, number, one_level, only, order_field, short_number, trimmed, vector_field, words}
unfoldable use Rattle.jedec_file.specs.Fields.{field_of}
use Rattle.jedec_file.specs.Frame.{four_hex_value}
use Rattle.pld_device.specs.Table.{Table}
use Rattle.spliced_files.specs.Kept.{counts_fuses, is_kept}

-- a field says nothing of fuses
abbrev pub is_quiet : Field → Bool
is_quiet (field.FuseCount n) = false
is_quiet (field.PinCount n) = false
is_quiet (field.DefaultFuse level) = false
is_quiet (field.Levels first levels) = false
is_quiet (field.FuseSum n) = false
is_quiet (field.DefaultTest level) = true
is_quiet (field.PinOrder order) = true
is_quiet (field.Vector n chars) = true
is_quiet field.Passed = true

-- a field says something of tests
abbrev pub is_test : Field → Bool
is_test (field.FuseCount n) = false
is_test (field.PinCount n) = false
is_test (field.DefaultFuse level) = false
is_test (field.Levels first levels) = false
is_test (field.FuseSum n) = false
is_test (field.DefaultTest level) = true
is_test (field.PinOrder order) = true
is_test (field.Vector n chars) = true
is_test field.Passed = false

-- the field that there may be passes a test
abbrev pub Passes : (Field → Bool) → Option Field → Type 0
Passes test None = Unit {0}
Passes test (Some said) = test said ≡ true

passes_map : {X : Type 0} (test : Field → Bool) (f : X → Field) (o : Option X) → ((x : X) → test (f x) ≡ true) → Passes test (option_map f o)
passes_map test f None each = tt
passes_map test f (Some x) each = each x

passes_then : {X : Type 0} (test : Field → Bool) (f : X → Option Field) (o : Option X) → ((x : X) → Passes test (f x)) → Passes test (option_and_then f o)
passes_then test f None each = tt
passes_then test f (Some x) each = each x

passes_either : (test : Field → Bool) (b : Bool) (one other : Option Field) → Passes test one → Passes test other → Passes test (if b then one else other)
passes_either test true one other this that = this
passes_either test false one other this that = that

passes_if : (test : Field → Bool) (b : Bool) (said : Field) → test said ≡ true → Passes test (if b then Some said else None)
passes_if test true said pass = pass
passes_if test false said pass = tt

-- it says nothing of tests
abbrev pub no_test : Field → Bool
no_test said = not (is_test said)

-- ---- fields that are kept

count_quiet : (text : List ℕ) → counts_fuses text ≡ false → Passes is_quiet (counts text)
count_quiet [] kept = refl
count_quiet (kind ∷ text) kept =
    let other = or_parts (kind == 70) (kind == 80) kept in
    rw (other.0, other.1)
    (passes_either is_quiet (kind == 86) _ _ (passes_map is_quiet (λ n. field.Passed) (option_and_then short_number (only (words text))) (λ n. refl)) refl)

order_quiet : (t : Table) (ws : List (List ℕ)) → Passes is_quiet (order_field t ws)
order_quiet t ws = passes_then is_quiet _ (each_of number ws) (λ order. passes_if is_quiet (is_each_pin t.pins order) (field.PinOrder order) refl)

vector_quiet : (t : Table) (ws : List (List ℕ)) → Passes is_quiet (vector_field t ws)
vector_quiet t [] = tt
vector_quiet t (first ∷ rest) =
    passes_then is_quiet _ (short_number first)
    (λ n. passes_if is_quiet (not (n == 0) && (length (concat rest) == t.pins && list_all is_test_char (concat rest))) (field.Vector n (concat rest)) refl)

-- the letter is none of those of fuses
record IsOther (letter : ℕ) : Type 0 where
  pub default : (letter == 70) ≡ false
  pub levels : (letter == 76) ≡ false
  pub total : (letter == 67) ≡ false

other_letter : (letter : ℕ) → not (is_among (codes "FLCGEU") letter) ≡ true → IsOther letter
other_letter letter kept = record {
  default = grind (arith, nat_tests);
  levels = grind (arith, nat_tests);
  total = grind (arith, nat_tests);
}

pub kept_quiet : (t : Table) (letter : ℕ) (text : List ℕ) → is_kept (letter ∷ text) ≡ true → Passes is_quiet (field_of t letter text)
unfolding field_of
kept_quiet t letter text kept = elim (cases_Bool (letter == 81)) [
  | inl counts_some ↦ rw counts_some (count_quiet (trimmed text) (not-true (counts_fuses (trimmed text)) (rw counts_some at kept)))
  | inr other ↦
      let is = other_letter letter (rw other at kept) in
      rw (other, is.default, is.levels, is.total)
      (passes_either is_quiet (letter == 71) _ _ (passes_map is_quiet (λ level. field.Passed) (one_level (words text)) (λ n. refl))
      (passes_either is_quiet (letter == 88) _ _ (passes_map is_quiet field.DefaultTest (one_level (words text)) (λ level. refl))
      (passes_either is_quiet (letter == 80) _ _ (order_quiet t (words text))
      (passes_either is_quiet (letter == 86) _ _ (vector_quiet t (words text))
      (passes_if is_quiet (is_passed_over letter) field.Passed refl)))))
]

-- another device with as many pins reads it alike
pub kept_alike : (f t : Table) → f.pins ≡ t.pins → (letter : ℕ) (text : List ℕ) → is_kept (letter ∷ text) ≡ true → field_of t letter text ≡ field_of f letter text
unfolding field_of
kept_alike f t pins letter text kept = elim (cases_Bool (letter == 81)) [
  | inl counts_some ↦ rw counts_some refl
  | inr other ↦
      let is = other_letter letter (rw other at kept) in
      rw (other, is.default, is.levels, is.total, pins) refl
]

-- ---- fields that are not

count_dropped : (text : List ℕ) → Passes no_test (counts text)
count_dropped [] = refl
count_dropped (kind ∷ text) =
    let said = option_and_then short_number (only (words text)) in
    passes_either no_test (kind == 70) _ _ (passes_map no_test field.FuseCount said (λ n. refl))
    (passes_either no_test (kind == 80) _ _ (passes_map no_test field.PinCount said (λ n. refl))
    (passes_either no_test (kind == 86) _ _ (passes_map no_test (λ n. field.Passed) said (λ n. refl)) refl))

levels_dropped_from : (t : Table) (first : ℕ) (levels : List Bool) → Passes no_test (levels_from t first levels)
levels_dropped_from t first [] = refl
levels_dropped_from t first (level ∷ levels) =
    passes_if no_test (nat_le (first + length (level ∷ levels)) t.fuses) (field.Levels first (level ∷ levels)) refl

levels_dropped : (t : Table) (ws : List (List ℕ)) → Passes no_test (levels_field t ws)
levels_dropped t [] = tt
levels_dropped t (first ∷ rest) =
    passes_then no_test _ (number first) (λ n. passes_then no_test (levels_from t n) (each_of level_of (concat rest)) (levels_dropped_from t n))

-- the letter is one of fuses, so none of tests
record IsOfFuses (letter : ℕ) : Type 0 where
  pub default : (letter == 88) ≡ false
  pub order : (letter == 80) ≡ false
  pub vector : (letter == 86) ≡ false

fuse_letter : (letter : ℕ) → is_among (codes "FLCGEU") letter ≡ true → IsOfFuses letter
fuse_letter letter among = record {
  default = grind (arith, nat_tests);
  order = grind (arith, nat_tests);
  vector = grind (arith, nat_tests);
}

not_false : (b : Bool) → not b ≡ false → b ≡ true
not_false true is = refl
not_false false is = absurd cc

pub dropped_no_test : (t : Table) (letter : ℕ) (text : List ℕ) → is_kept (letter ∷ text) ≡ false → Passes no_test (field_of t letter text)
unfolding field_of
dropped_no_test t letter text dropped = elim (cases_Bool (letter == 81)) [
  | inl counts_some ↦ rw counts_some (count_dropped (trimmed text))
  | inr other ↦
      let is = fuse_letter letter (not_false (is_among (codes "FLCGEU") letter) (rw other at dropped)) in
      rw (other, is.default, is.order, is.vector)
      (passes_either no_test (letter == 70) _ _ (passes_map no_test field.DefaultFuse (one_level (words text)) (λ level. refl))
      (passes_either no_test (letter == 76) _ _ (levels_dropped t (words text))
      (passes_either no_test (letter == 67) _ _ (passes_map no_test field.FuseSum (option_and_then four_hex_value (only (words text))) (λ n. refl))
      (passes_either no_test (letter == 71) _ _ (passes_map no_test (λ level. field.Passed) (one_level (words text)) (λ n. refl))
      (passes_if no_test (is_passed_over letter) field.Passed refl)))))
]
