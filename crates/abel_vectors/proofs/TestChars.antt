-- The characters of vectors are those that a fuse file may have.
use Rattle.std.proofs.Common.{◌≡◌, ℕ, ◌==◌, Bool, true, false, ◌&&◌, ◌||◌, if◌then◌else◌, Option, None, Some, List, [], ◌∷◌, map, refl, sym, ap, ap₂, ◌∙◌, All}
use Rattle.abel_vectors.proofs.Common.{list_all, range_with_len, Vector, Table, IsTestVector, all_chars, chars_of, Kind, APin, RowTree, SectionTree, SomeVectors, Context, name_at, Mark, Level, Pulsed, Released, marks_of, targets_of, Term, term_of, char_by, input_char, output_char, given_to, first_char, char_given, char_or_plain, pin_char, row_chars, section_vectors, sections_vectors}
use Rattle.std.proofs.lemmas.List.Folds.{list_all-append, list_all-map}
use Rattle.std.proofs.lemmas.List.Sums.{AllPass-from_list_all}
use Rattle.pld_device.specs.Macrocells.{complement_if}
use Rattle.jedec_file.specs.Fields.{is_test_char}

-- a character that may be there is one of these
abbrev IsTestIf : Option ℕ → Type 0
IsTestIf None = Unit {0}
IsTestIf (Some c) = is_test_char c ≡ true

by_level : (b : Bool) (low high : ℕ) → is_test_char low ≡ true → is_test_char high ≡ true → is_test_char (char_by b low high) ≡ true
by_level true low high l h = h
by_level false low high l h = l

input_tests : (negated : Bool) (m : Mark) → IsTestIf (input_char negated m)
input_tests negated (Level on) = by_level (complement_if negated on) 48 49 refl refl
input_tests negated Pulsed = by_level negated 67 75 refl refl
input_tests negated _ = tt

output_tests : (negated : Bool) (m : Mark) → IsTestIf (output_char negated m)
output_tests negated (Level on) = by_level (complement_if negated on) 76 72 refl refl
output_tests negated Released = refl
output_tests negated _ = tt

if_tests : (b : Bool) (o : Option ℕ) → IsTestIf o → IsTestIf (if b then o else None)
if_tests true o h = h
if_tests false o h = tt

given_tests : (pin : ℕ) (char : Bool → Mark → Option ℕ) (k : Kind) (m : Mark) → ((b : Bool) (n : Mark) → IsTestIf (char b n)) → IsTestIf (given_to pin char k m)
given_tests pin char (APin other negated) m h = if_tests (other == pin) (char negated m) (h negated m)
given_tests pin char _ m h = tt

first_tests : (a b : Option ℕ) → IsTestIf a → IsTestIf b → IsTestIf (first_char a b)
first_tests None b h k = k
first_tests (Some c) b h k = h

side_tests : (d : Context) (pin : ℕ) (char : Bool → Mark → Option ℕ) (ss : List (Option ℕ)) (ms : List Mark) → ((b : Bool) (n : Mark) → IsTestIf (char b n)) → IsTestIf (char_given d pin char ss ms)
side_tests d pin char (None ∷ ss) (m ∷ ms) h = side_tests d pin char ss ms h
side_tests d pin char (Some s ∷ ss) (m ∷ ms) h =
    first_tests (given_to pin char (name_at d s).kind m) (char_given d pin char ss ms) (given_tests pin char (name_at d s).kind m h) (side_tests d pin char ss ms h)
side_tests d pin char _ _ h = tt

plain_by : (b : Bool) → is_test_char (if b then 78 else 88) ≡ true
plain_by true = refl
plain_by false = refl

plain_tests : (t : Table) (pin : ℕ) (o : Option ℕ) → IsTestIf o → is_test_char (char_or_plain t pin o) ≡ true
plain_tests t pin None h = plain_by (pin == t.ground_pin || pin == t.pins)
plain_tests t pin (Some c) h = h

pin_tests : (d : Context) (h k : Term) (r : RowTree) (pin : ℕ) → is_test_char (pin_char d h k r pin) ≡ true
pin_tests d h k r pin =
    let given = char_given d pin input_char (targets_of h) (marks_of d h (term_of d.known r.inputs)) in
    let tested = char_given d pin output_char (targets_of k) (marks_of d k (term_of d.known r.outputs)) in
    plain_tests d.device pin (first_char given tested)
    (first_tests given tested
    (side_tests d pin input_char (targets_of h) (marks_of d h (term_of d.known r.inputs)) input_tests)
    (side_tests d pin output_char (targets_of k) (marks_of d k (term_of d.known r.outputs)) output_tests))

-- ---- texts

-- all that a function gives passes
mapped_pass : {X Y : Type 0} (p : X → Bool) (f : Y → X) (ys : List Y) → ((y : Y) → p (f y) ≡ true) → list_all p (map f ys) ≡ true
mapped_pass p f [] h = refl
mapped_pass p f (y ∷ ys) h = ap₂ (λ a b. a && b) (h y) (mapped_pass p f ys h)

abbrev pub are_test_texts : List (List ℕ) → Bool
are_test_texts css = list_all (λ cs. list_all is_test_char cs) css

pub section_test : (d : Context) (s : SectionTree) → are_test_texts (section_vectors d s) ≡ true
section_test d (SomeVectors _ p a b rs) =
    let h = term_of d.known a in
    let k = term_of d.known b in
    mapped_pass (λ cs. list_all is_test_char cs) (row_chars d h k) rs (λ r. mapped_pass is_test_char (pin_char d h k r) (range_with_len 1 d.device.pins) (pin_tests d h k r))
section_test d _ = refl

pub sections_test : (d : Context) (ss : List SectionTree) → are_test_texts (sections_vectors d ss) ≡ true
sections_test d [] = refl
sections_test d (s ∷ ss) = list_all-append (λ cs. list_all is_test_char cs) (section_vectors d s) (sections_vectors d ss) ∙ ap₂ (λ a b. a && b) (section_test d s) (sections_test d ss)

-- vectors of such texts
pub all_test : (t : Table) (vs : List Vector) (css : List (List ℕ)) → all_chars t vs ≡ css → are_test_texts css ≡ true → All (IsTestVector t) vs
all_test t vs css e h = AllPass-from_list_all (λ v. list_all is_test_char (chars_of t v)) vs (sym (list_all-map (λ cs. list_all is_test_char cs) (chars_of t) vs) ∙ ap are_test_texts e ∙ h)
