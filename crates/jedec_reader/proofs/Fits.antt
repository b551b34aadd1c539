-- Each field that a text says fits its device.
use Rattle.std.proofs.Common.{◌≡◌, ℕ, ◌+◌, ◌-◌, ◌≤◌, ◌==◌, nat_le, Bool, true, false, not, ◌&&◌, List, [], ◌∷◌, length, Option, Some, None, Result, Ok, Err, IfOk, option_map, option_and_then, if◌then◌else◌, inl, inr, arith}
use Rattle.std.specs.Prelude.{⊤}
use Rattle.jedec_reader.proofs.Common.{All, list_all, concat, cases_Bool, nat_tests, All-cons, Field, JedecFault, trimmed, words, only, short_number, number, one_level, level_of, each_of, counts, levels_from, levels_field, is_each_pin, is_test_char, vector_field, is_passed_over, is_field_letter, field_of, field_at, no_field, fields_from, behind_design, four_hex_value, Read, Gives, ◌>>=◌, some_or, Table, FieldFits}
use Rattle.jedec_file.specs.declared.field.Field.TheVariants as field
use Rattle.jedec_file.specs.declared.jedec_fault.JedecFault.TheVariants as fault

-- ---- one field

abbrev MayFit : Table → Option Field → Type 0
MayFit t None = ⊤
MayFit t (Some f) = FieldFits t f

either_fits : (t : Table) (test : Bool) (one other : Option Field) → MayFit t one → MayFit t other → MayFit t (if test then one else other)
either_fits t true one other this that = this
either_fits t false one other this that = that

number_fits : (t : Table) (make : ℕ → Field) → ((n : ℕ) → FieldFits t (make n)) → (found : Option ℕ) → MayFit t (option_map make found)
number_fits t make each None = tt
number_fits t make each (Some n) = each n

level_fits : (t : Table) (make : Bool → Field) → ((level : Bool) → FieldFits t (make level)) → (found : Option Bool) → MayFit t (option_map make found)
level_fits t make each None = tt
level_fits t make each (Some level) = each level

counts_fit : (t : Table) (text : List ℕ) → MayFit t (counts text)
counts_fit t [] = tt
counts_fit t (kind ∷ text) =
    let said = option_and_then short_number (only (words text)) in
    either_fits t (kind == 70) _ _ (number_fits t field.FuseCount (λ n. tt) said)
    (either_fits t (kind == 80) _ _ (number_fits t field.PinCount (λ n. tt) said)
    (either_fits t (kind == 86) _ _ (number_fits t (λ n. field.Passed) (λ n. tt) said) tt))

levels_from_fits : (t : Table) (first : ℕ) (levels : Option (List Bool)) → MayFit t (option_and_then (levels_from t first) levels)
levels_from_fits t first None = tt
levels_from_fits t first (Some []) = tt
levels_from_fits t first (Some (level ∷ levels)) = elim (cases_Bool (nat_le (first + length (level ∷ levels)) t.fuses)) [
  | inl below ↦ rw below (grind (arith, nat_tests))
  | inr past ↦ rw past tt
]

levels_fit : (t : Table) (ws : List (List ℕ)) → MayFit t (levels_field t ws)
levels_fit t [] = tt
levels_fit t (first ∷ rest) = numbered (number first) where
  numbered : (n : Option ℕ) → MayFit t (option_and_then (λ n. option_and_then (levels_from t n) (each_of level_of (concat rest))) n)
  numbered None = tt
  numbered (Some n) = levels_from_fits t n (each_of level_of (concat rest))

order_fits : (t : Table) (order : Option (List ℕ)) → MayFit t (option_and_then (λ order. if is_each_pin t.pins order then Some (field.PinOrder order) else None) order)
order_fits t None = tt
order_fits t (Some order) = elim (cases_Bool (is_each_pin t.pins order)) [
  | inl each ↦ rw each each
  | inr other ↦ rw other tt
]

vector_is : (n len pins : ℕ) (rest : Bool) → (not (n == 0) && (len == pins && rest)) ≡ true → (1 ≤ n) × (len ≡ pins)
vector_is n len pins rest is = elim (cases_Bool (n == 0)) [
  | inl none ↦ absurd (let no_vector = rw none at is in cc)
  | inr some ↦ elim (cases_Bool (len == pins)) [
    | inl same ↦ (grind (arith, nat_tests), grind (arith, nat_tests))
    | inr other ↦ absurd (let no_vector = rw (some, other) at is in cc)
  ]
]

vector_fits : (t : Table) (chars : List ℕ) (n : Option ℕ) → MayFit t (option_and_then (λ n. if not (n == 0) && (length chars == t.pins && list_all is_test_char chars) then Some (field.Vector n chars) else None) n)
vector_fits t chars None = tt
vector_fits t chars (Some n) = elim (cases_Bool (not (n == 0) && (length chars == t.pins && list_all is_test_char chars))) [
  | inl is ↦ rw is (vector_is n (length chars) t.pins (list_all is_test_char chars) is)
  | inr other ↦ rw other tt
]

vectors_fit : (t : Table) (ws : List (List ℕ)) → MayFit t (vector_field t ws)
vectors_fit t [] = tt
vectors_fit t (first ∷ rest) = vector_fits t (concat rest) (short_number first)

field_fits : (t : Table) (letter : ℕ) (text : List ℕ) → MayFit t (field_of t letter text)
unfolding field_of
field_fits t letter text =
    either_fits t (letter == 81) _ _ (counts_fit t (trimmed text))
    (either_fits t (letter == 70) _ _ (level_fits t field.DefaultFuse (λ level. tt) (one_level (words text)))
    (either_fits t (letter == 76) _ _ (levels_fit t (words text))
    (either_fits t (letter == 67) _ _ (number_fits t field.FuseSum (λ n. tt) (option_and_then four_hex_value (only (words text))))
    (either_fits t (letter == 71) _ _ (level_fits t (λ level. field.Passed) (λ level. tt) (one_level (words text)))
    (either_fits t (letter == 88) _ _ (level_fits t field.DefaultTest (λ level. tt) (one_level (words text)))
    (either_fits t (letter == 80) _ _ (order_fits t (each_of number (words text)))
    (either_fits t (letter == 86) _ _ (vectors_fit t (words text))
    (either_fits t (is_passed_over letter) _ _ tt tt))))))))

-- ---- all fields

abbrev OneFits : Table → Read Field → Type 0
OneFits t (Ok f) = FieldFits t f
OneFits t (Err e) = ⊤

abbrev AllFit : Table → Read (List Field) → Type 0
AllFit t (Ok fs) = All (FieldFits t) fs
AllFit t (Err e) = ⊤

none_fit : (t : Table) → All (FieldFits t) []
none_fit t k d low = absurd (omega (arith, low))

said_fits : (t : Table) (e : JedecFault) (found : Option Field) → MayFit t found → OneFits t (some_or e found)
said_fits t e None fits = tt
said_fits t e (Some f) fits = fits

field_at_fits : (t : Table) (at : ℕ) (text : List ℕ) → OneFits t (field_at t at text)
unfolding field_at
field_at_fits t at [] = tt
field_at_fits t at (letter ∷ text) = elim (cases_Bool (letter == 75)) [
  | inl unsupported ↦ rw unsupported tt
  | inr other ↦ rw other (said_fits t (fault.BadField at) (field_of t letter text) (field_fits t letter text))
]

no_field_fits : (t : Table) (at ends : ℕ) (text : List ℕ) → AllFit t (no_field at ends text)
unfolding no_field
no_field_fits t at ends [] = none_fit t
no_field_fits t at ends (letter ∷ text) = elim (cases_Bool (letter == 75)) [
  | inl unsupported ↦ rw unsupported tt
  | inr other ↦ elim (cases_Bool (is_field_letter letter)) [ inl known ↦ rw (other, known) tt | inr unknown ↦ rw (other, unknown) tt ]
]

both_fit : (t : Table) (first : Read Field) (rest : Read (List Field)) → OneFits t first → AllFit t rest → AllFit t (first >>= λ f. rest >>= λ fs. Ok (f ∷ fs))
both_fit t (Err e) rest one all = tt
both_fit t (Ok f) (Err e) one all = tt
both_fit t (Ok f) (Ok fs) one all = All-cons (FieldFits t) f fs one all

fields_fit : (t : Table) (at : ℕ) (parts : List (List ℕ)) → AllFit t (fields_from t at parts)
unfolding fields_from
fields_fit t at [] = none_fit t
fields_fit t at (piece ∷ []) = no_field_fits t (at + (length piece - length (trimmed piece))) (at + length piece) (trimmed piece)
fields_fit t at (piece ∷ next ∷ rest) =
    both_fit t _ _ (field_at_fits t (at + (length piece - length (trimmed piece))) (trimmed piece)) (fields_fit t (at + length piece + 1) (next ∷ rest))

behind_design_fits : (t : Table) (at : ℕ) (parts : List (List ℕ)) → AllFit t (behind_design t at parts)
unfolding behind_design
behind_design_fits t at [] = none_fit t
behind_design_fits t at (design ∷ []) = tt
behind_design_fits t at (design ∷ next ∷ rest) = fields_fit t (at + length design + 1) (next ∷ rest)

all_fit : (t : Table) (fields : List Field) (said : Read (List Field)) → said ≡ Ok fields → AllFit t said → All (FieldFits t) fields
all_fit t fields said is fits = rw is at fits

-- what a call that gives the fields answers
pub given_fit : {X : Type 0} (t : Table) (view : X → List Field) (result : Result X JedecFault) (at : ℕ) (parts : List (List ℕ)) → Gives view result (behind_design t at parts) → IfOk result (λ x. All (FieldFits t) (view x))
given_fit t view (Ok x) at parts is = all_fit t (view x) (behind_design t at parts) is (behind_design_fits t at parts)
given_fit t view (Err e) at parts is = tt
