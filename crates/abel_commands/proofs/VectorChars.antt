-- All characters of a source's test vectors are simulated.
use Rattle.std.proofs.Common.{◌≡◌, ℕ, ◌<◌, suc, arith, get_or, length, ◌==◌, Bool, true, false, ◌||◌, if◌then◌else◌, List, [], ◌∷◌, ◌++◌, map, position, Option, Some, None, refl}
use Rattle.abel_commands.proofs.Common.{get_or-map, length-map, range_with_len, Table}
use Rattle.jedec_reader.proofs.Positions.{position_none}
use Rattle.std.specs.List.{All}
use Rattle.std.proofs.lemmas.List.Elements.{All-append, All-cons, All-head, All-nil, All-tail}
use Rattle.abel_tree.specs.Entries.{Kind, APin, ANode, AConstant, ADeviceName}
use Rattle.abel_tree.specs.Tree.{ModuleTree, RowTree, SectionTree, SomeVectors}
use Rattle.abel_meaning.specs.Designs.{Context, design_of, name_at}
use Rattle.abel_meaning.specs.Rows.{Mark, Level, Unknown, Pulsed, Released, marks_of}
use Rattle.abel_meaning.specs.Targets.{targets_of}
use Rattle.abel_meaning.specs.Terms.{Term, term_of}
use Rattle.abel_meaning.specs.Vectors.{char_given, char_or_plain, first_char, given_to, input_char, output_char, pin_char, plain_char, row_chars, section_vectors, sections_vectors, source_vectors}
use Rattle.device_sim.specs.Simulated.{first_unsupported, is_unsupported}

-- ---- a character

abbrev IsSupported : ℕ → Type 0
IsSupported c = is_unsupported c ≡ false

abbrev MayBeSupported : Option ℕ → Type 0
MayBeSupported (Some c) = IsSupported c
MayBeSupported None = Unit {0}

input : (negated : Bool) (m : Mark) → MayBeSupported (input_char negated m)
input true (Level true) = refl
input true (Level false) = refl
input false (Level true) = refl
input false (Level false) = refl
input true Pulsed = refl
input false Pulsed = refl
input negated Unknown = tt
input negated Released = tt

output : (negated : Bool) (m : Mark) → MayBeSupported (output_char negated m)
output true (Level true) = refl
output true (Level false) = refl
output false (Level true) = refl
output false (Level false) = refl
output negated Released = refl
output negated Unknown = tt
output negated Pulsed = tt

either : (this : Bool) (c : Option ℕ) → MayBeSupported c → MayBeSupported (if this then c else None)
either true c is = is
either false c is = tt

first : (c other : Option ℕ) → MayBeSupported c → MayBeSupported other → MayBeSupported (first_char c other)
first (Some c) other is also = is
first None other is also = also

-- ---- a pin

module _ (pin : ℕ) (char : Bool → Mark → Option ℕ) (is : (negated : Bool) (m : Mark) → MayBeSupported (char negated m)) where
  of_kind : (kind : Kind) (m : Mark) → MayBeSupported (given_to pin char kind m)
  of_kind (APin other negated) m = either (other == pin) (char negated m) (is negated m)
  of_kind (ANode number) m = tt
  of_kind (AConstant value) m = tt
  of_kind ADeviceName m = tt

  given : (d : Context) (ss : List (Option ℕ)) (marks : List Mark) → MayBeSupported (char_given d pin char ss marks)
  given d [] marks = tt
  given d (s ∷ ss) [] = tt
  given d (None ∷ ss) (m ∷ marks) = given d ss marks
  given d (Some s ∷ ss) (m ∷ marks) = first _ _ (of_kind (name_at d s).kind m) (given d ss marks)

plain_if : (this : Bool) → IsSupported (if this then 78 else 88)
plain_if true = refl
plain_if false = refl

or_plain : (t : Table) (pin : ℕ) (c : Option ℕ) → MayBeSupported c → IsSupported (char_or_plain t pin c)
or_plain t pin (Some c) is = is
or_plain t pin None is = plain_if (pin == t.ground_pin || pin == t.pins)

at_pin : (d : Context) (inputs outputs : Term) (row : RowTree) (pin : ℕ) → IsSupported (pin_char d inputs outputs row pin)
at_pin d inputs outputs row pin =
    or_plain d.device pin _
    (first _ _
    (given pin input_char input d (targets_of inputs) (marks_of d inputs (term_of d.known row.inputs)))
    (given pin output_char output d (targets_of outputs) (marks_of d outputs (term_of d.known row.outputs))))

-- ---- vectors

none_among : (f : ℕ → ℕ) (pins : List ℕ) → ((pin : ℕ) → IsSupported (f pin)) → position is_unsupported (map f pins) ≡ None
none_among f pins all = position_none is_unsupported (map f pins) (f 0) (λ k low.
    let size = length-map pins f in
    let within : k < length pins = omega (arith, low, size) in
    rw (get_or-map f pins k 0 (f 0) within) (all (get_or pins k 0)))

abbrev AreSupported : List ℕ → Type 0
AreSupported chars = position is_unsupported chars ≡ None

in_rows : (d : Context) (inputs outputs : Term) (rows : List RowTree) → All AreSupported (map (row_chars d inputs outputs) rows)
in_rows d inputs outputs [] = All-nil AreSupported
in_rows d inputs outputs (row ∷ rows) =
    All-cons AreSupported (row_chars d inputs outputs row) (map (row_chars d inputs outputs) rows)
    (none_among (pin_char d inputs outputs row) (range_with_len 1 d.device.pins) (at_pin d inputs outputs row)) (in_rows d inputs outputs rows)

in_section : (d : Context) (s : SectionTree) → All AreSupported (section_vectors d s)
in_section d (SomeVectors _ place inputs outputs rows) = in_rows d (term_of d.known inputs) (term_of d.known outputs) rows
in_section d s = All-nil AreSupported

in_sections : (d : Context) (ss : List SectionTree) → All AreSupported (sections_vectors d ss)
in_sections d [] = All-nil AreSupported
in_sections d (s ∷ ss) = All-append AreSupported (section_vectors d s) (sections_vectors d ss) (in_section d s) (in_sections d ss)

none_first : (n : ℕ) (vectors : List (List ℕ)) → All AreSupported vectors → first_unsupported n vectors ≡ None
none_first n [] all = refl
none_first n (chars ∷ vectors) all = rw (All-head AreSupported chars vectors all, none_first (suc n) vectors (All-tail AreSupported chars vectors all)) refl

pub all_supported : (t : Table) (m : ModuleTree) → first_unsupported 1 (source_vectors t m) ≡ None
all_supported t m = none_first 1 (source_vectors t m) (in_sections (design_of t m).context (design_of t m).sections)
