-- The test vectors of a module, as the characters of its pins (ABEL-HDL Reference Manual, test vectors; JESD3-C, test
-- vector field; what a pin has that no entry speaks of is this project's rule).
use Rattle.std.specs.Prelude.{ℕ, ◌==◌, Bool, true, false, ◌||◌, Option, None, Some, if◌then◌else◌, List, [], ◌∷◌, ◌++◌, map, get_or, codes}
use Rattle.abel_meaning.specs.Prelude.{range_with_len, complement_if, Table, Kind, APin, RowTree, SectionTree, SomeVectors, ModuleTree}
use Rattle.abel_meaning.specs.Terms.{Term, term_of}
use Rattle.abel_meaning.specs.Targets.{targets_of}
use Rattle.abel_meaning.specs.Designs.{Context, Design, design_of, name_at}
use Rattle.abel_meaning.specs.Rows.{Mark, Level, Unknown, Pulsed, Released, marks_of}

-- the one character of a text
abbrev pub char_of : List ℕ → ℕ
char_of text = get_or text 0 0

-- one of two characters
abbrev pub char_by : Bool → (low high : ℕ) → ℕ
char_by false low high = low
char_by true low high = high

-- the character of an input at its pin, whose name is its complement or not; none if it isn't driven
abbrev pub input_char : (negated : Bool) → Mark → Option ℕ
input_char negated (Level on) = Some (char_by (complement_if negated on) (char_of (codes "0")) (char_of (codes "1")))
input_char negated Pulsed = Some (char_by negated (char_of (codes "C")) (char_of (codes "K")))
input_char negated Unknown = None
input_char negated Released = None

-- the character of an output at its pin; none if it isn't tested
abbrev pub output_char : (negated : Bool) → Mark → Option ℕ
output_char negated (Level on) = Some (char_by (complement_if negated on) (char_of (codes "L")) (char_of (codes "H")))
output_char negated Released = Some (char_of (codes "Z"))
output_char negated Unknown = None
output_char negated Pulsed = None

-- the character that is given to a pin by a position of a header
abbrev pub given_to : (pin : ℕ) → (Bool → Mark → Option ℕ) → Kind → Mark → Option ℕ
given_to pin char (APin other negated) mark = if other == pin then char negated mark else None
given_to pin char _ mark = None

-- the first that is there
abbrev pub first_char : Option ℕ → Option ℕ → Option ℕ
first_char (Some c) other = Some c
first_char None other = other

-- the character that the positions of a header give to a pin, the first of them
abbrev pub char_given : Context → (pin : ℕ) → (Bool → Mark → Option ℕ) → List (Option ℕ) → List Mark
    → Option ℕ
char_given d pin char [] marks = None
char_given d pin char (s ∷ ss) [] = None
char_given d pin char (None ∷ ss) (m ∷ marks) = char_given d pin char ss marks
char_given d pin char (Some s ∷ ss) (m ∷ marks) =
    first_char (given_to pin char (name_at d s).kind m) (char_given d pin char ss marks)

-- the character of a pin that no entry speaks of
abbrev pub plain_char : Table → (pin : ℕ) → ℕ
plain_char t pin = if pin == t.ground_pin || pin == t.pins then char_of (codes "N") else char_of (codes "X")

-- a character that may be there, else the pin's plain one
abbrev pub char_or_plain : Table → (pin : ℕ) → Option ℕ → ℕ
char_or_plain t pin (Some c) = c
char_or_plain t pin None = plain_char t pin

-- the character of a pin in a row under a header
abbrev pub pin_char : Context → (inputs outputs : Term) → RowTree → (pin : ℕ) → ℕ
pin_char d inputs outputs row pin =
    char_or_plain d.device pin
    (first_char
    (char_given d pin input_char (targets_of inputs) (marks_of d inputs (term_of d.known row.inputs)))
    (char_given d pin output_char (targets_of outputs) (marks_of d outputs (term_of d.known row.outputs))))

-- the characters of a row, from pin 1 to the last one
abbrev pub row_chars : Context → (inputs outputs : Term) → RowTree → List ℕ
row_chars d inputs outputs row = map (pin_char d inputs outputs row) (range_with_len 1 d.device.pins)

-- the vectors of a section
abbrev pub section_vectors : Context → SectionTree → List (List ℕ)
section_vectors d (SomeVectors _ place inputs outputs rows) =
    map (row_chars d (term_of d.known inputs) (term_of d.known outputs)) rows
section_vectors d _ = []

-- the vectors of sections
abbrev pub sections_vectors : Context → List SectionTree → List (List ℕ)
sections_vectors d [] = []
sections_vectors d (s ∷ ss) = section_vectors d s ++ sections_vectors d ss

-- all vectors of a design, in order of the source
abbrev pub design_vectors : Design → List (List ℕ)
design_vectors d = sections_vectors d.context d.sections

-- those of a module for a device
abbrev pub source_vectors : Table → ModuleTree → List (List ℕ)
source_vectors t m = design_vectors (design_of t m)
