-- What is refused of test vectors (ABEL-HDL Reference Manual, test vectors; JESD3-C, test vector field; one character for
-- each pin, and the limit, are this project's rules).
use Rattle.std.specs.Prelude.{ℕ, suc, ◌==◌, nat_lt, Bool, true, false, not, ◌&&◌, ◌||◌, Option, None, Some, List, [], ◌∷◌, ◌++◌, get_or, filter_map, option_map, zip, if◌then◌else◌}
use Rattle.abel_vectors.specs.Prelude.{list_all, list_any, Place, Entry, Kind, APin, ANode, AConstant, ADeviceName, Tree, RowTree, SectionTree, SomeVectors, Context, no_name, Mark, Pulsed, marks_of, targets_of, Term, term_of, input_char, output_char, SectionFault, unless_met, entry_refused, expression_found}
use Rattle.set_expr.specs.declared.fault.SectionFault.TheVariants.{BadVector}
use Rattle.std.specs.Option.{is_none, is_some}
use Rattle.truth_tables.specs.HeaderSignals.{names_positions}
use Rattle.truth_tables.specs.TableUnits.{if_none}

-- ---- headers

-- the pin of a name, and whether the name is its complement; none if it is no pin's
abbrev pub pin_of : Kind → Option (ℕ × Bool)
pin_of (APin pin negated) = Some (pin, negated)
pin_of (ANode number) = None
pin_of (AConstant value) = None
pin_of ADeviceName = None

-- the same of the name at a position of a header; none at X too
abbrev pub pin_at : List Entry → Option ℕ → Option (ℕ × Bool)
pin_at es None = None
pin_at es (Some s) = pin_of (get_or es s no_name).kind

abbrev pub is_pin_or_unknown : List Entry → Option ℕ → Bool
is_pin_or_unknown es s = is_none s || is_some (pin_at es s)

-- each position is a pin without extension, or X
abbrev pub names_pins : Context → Term → Bool
names_pins d t = names_positions t && list_all (is_pin_or_unknown d.names) (targets_of t)

-- a side of the header that is at this place
abbrev pub side_refused : Context → Place → Tree → List SectionFault
side_refused d p t =
    unless_met (expression_found d.names t).refusals (BadVector p) (names_pins d (term_of d.known t))

abbrev pub header_refused : Context → Place → (inputs outputs : Tree) → List SectionFault
header_refused d p inputs outputs = side_refused d p inputs ++ side_refused d p outputs

-- ---- rows

-- the character that a position gives to a pin, and those of a side
abbrev pub char_for : Option (ℕ × Bool) → (Bool → Mark → Option ℕ) → Mark → Option (ℕ × ℕ)
char_for None char mark = None
char_for (Some x) char mark = option_map (λ c. (x.0, c)) (char x.1 mark)

abbrev pub position_gives : List Entry → (Bool → Mark → Option ℕ) → Option ℕ → Mark → Option (ℕ × ℕ)
position_gives es char s mark = char_for (pin_at es s) char mark

abbrev pub chars_for : List Entry → (Bool → Mark → Option ℕ) → List (Option ℕ) → List Mark → List (ℕ × ℕ)
chars_for es char ss marks = filter_map (λ (x : Option ℕ × Mark). position_gives es char x.0 x.1) (zip ss marks)

-- some pin has another character than this one
abbrev pub gives_another : ℕ × ℕ → ℕ × ℕ → Bool
gives_another x y = (x.0 == y.0) && not (x.1 == y.1)

-- some pin gets two characters that differ: two levels, or one to drive and one to test
abbrev pub disagree : List (ℕ × ℕ) → Bool
disagree [] = false
disagree (x ∷ xs) = list_any (gives_another x) xs || disagree xs

-- `.C.` at a pin that is tested
abbrev pub position_pulses : Option ℕ → Mark → Bool
position_pulses None mark = false
position_pulses (Some s) Pulsed = true
position_pulses (Some s) mark = false

abbrev pub tests_pulse : List (Option ℕ) → List Mark → Bool
tests_pulse ss marks = list_any (λ (x : Option ℕ × Mark). position_pulses x.0 x.1) (zip ss marks)

-- all characters of a row under a header with these positions
abbrev pub all_given : List Entry → (inputs : List (Option ℕ)) → List Mark → (outputs : List (Option ℕ)) → List Mark → List (ℕ × ℕ)
all_given es ss given ts tested = chars_for es input_char ss given ++ chars_for es output_char ts tested

-- the marks of a row are no vector's
abbrev pub is_no_vector : List Entry → (inputs : List (Option ℕ)) → List Mark → (outputs : List (Option ℕ)) → List Mark → Bool
is_no_vector es ss given ts tested = tests_pulse ts tested || disagree (all_given es ss given ts tested)

-- what is refused of a row whose entries meet the header
abbrev pub marks_refused : Context → (inputs outputs : Term) → RowTree → List SectionFault
marks_refused d inputs outputs row =
    if is_no_vector d.names
    (targets_of inputs) (marks_of d inputs (term_of d.known row.inputs))
    (targets_of outputs) (marks_of d outputs (term_of d.known row.outputs))
    then BadVector row.place ∷ [] else []

-- what is refused of a row
abbrev pub entries_refused : Context → (inputs outputs : Term) → RowTree → List SectionFault
entries_refused d inputs outputs row =
    entry_refused d (BadVector row.place) inputs row.inputs ++ entry_refused d (BadVector row.place) outputs row.outputs

abbrev pub row_refused : Context → (inputs outputs : Term) → RowTree → List SectionFault
row_refused d inputs outputs row =
    if_none (entries_refused d inputs outputs row) (marks_refused d inputs outputs row)

-- a source has at most 9,999 vectors
abbrev pub one_too_many : (before : ℕ) → Place → List SectionFault
one_too_many before p = if nat_lt before 9999 then [] else BadVector p ∷ []

-- rows after so many vectors
abbrev pub rows_refused : Context → (before : ℕ) → (inputs outputs : Term) → List RowTree → List SectionFault
rows_refused d before inputs outputs [] = []
rows_refused d before inputs outputs (row ∷ rows) =
    one_too_many before row.place ++ (row_refused d inputs outputs row ++ rows_refused d (suc before) inputs outputs rows)

-- ---- sections

-- what is refused of a section after so many vectors; rows meet no header that is refused
abbrev pub vectors_refused : Context → (before : ℕ) → SectionTree → List SectionFault
vectors_refused d before (SomeVectors _ place inputs outputs rows) =
    if_none (header_refused d place inputs outputs)
    (rows_refused d before (term_of d.known inputs) (term_of d.known outputs) rows)
vectors_refused d before _ = []
