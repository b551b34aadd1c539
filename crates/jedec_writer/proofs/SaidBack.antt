-- Parts of a fuse file's text that are read as fields, one after another.
use Rattle.std.proofs.Common.{◌≡◌, ℕ, ◌+◌, Bool, true, false, not, ◌&&◌, List, [], ◌∷◌, ◌++◌, length, Some, Ok, refl, sym, ap, ◌∙◌, subst, arith, append-nil, append_assoc, ◌==◌, codes}
use Rattle.jedec_writer.proofs.Common.{list_all, onto_first, All, and_parts, not-true, nat_tests, slice_split_at, All-nil, All-cons, Field, Table, line, is_blank, field_of, pieces, field_at, no_field, fields_from, behind_design, fields_of}
use Rattle.jedec_writer.proofs.Words.{is_plain, both_pass}

-- it doesn't end the text
abbrev pub is_inner : ℕ → Bool
is_inner b = not (b == 3)

-- after the end of a line (13, 10), wherever it is, this text is read as these fields
abbrev pub Gives : Table → List ℕ → List Field → Type 0
Gives t text fields = (at : ℕ) → fields_from t at (pieces (13 ∷ 10 ∷ text)) ≡ Ok fields

-- lines that don't end the text and are read as these fields, before whatever follows them
pub record Says (t : Table) (lines : List ℕ) (fields : List Field) : Type 0 where
  pub inner : list_all is_inner lines ≡ true
  pub before : (rest : List ℕ) (more : List Field) → Gives t rest more → Gives t (lines ++ rest) (fields ++ more)

-- nothing, and one part after another
pub says_nothing : (t : Table) → Says t [] []
says_nothing t = record { inner = refl; before = λ rest more gives. gives }

pub says_both : {t : Table} {a b : List ℕ} {fs gs : List Field} → Says t a fs → Says t b gs → Says t (a ++ b) (fs ++ gs)
says_both {t = t} {a = a} {b = b} {fs = fs} {gs = gs} first second = record {
  inner = both_pass is_inner a b first.inner second.inner;
  before = λ rest more gives. rw (append_assoc a b rest, append_assoc fs gs more) (first.before (b ++ rest) (gs ++ more) (second.before rest more gives));
}

-- ---- a line

no_star : (bs : List ℕ) → list_all is_plain bs ≡ true → All (λ b. (b == 42) ≡ false) bs
no_star [] test = All-nil (λ b. (b == 42) ≡ false)
no_star (b ∷ bs) test =
    let parts = and_parts (is_plain b) (list_all is_plain bs) test in
    All-cons (λ b. (b == 42) ≡ false) b bs (star_not_plain b parts.0) (no_star bs parts.1)
  where
    star_not_plain : (b : ℕ) → is_plain b ≡ true → (b == 42) ≡ false
    star_not_plain b test = grind (arith, nat_tests)

pub inner_plain : (bs : List ℕ) → list_all is_plain bs ≡ true → list_all is_inner bs ≡ true
inner_plain [] test = refl
inner_plain (b ∷ bs) test =
    let parts = and_parts (is_plain b) (list_all is_plain bs) test in
    rw (plain_is_inner b parts.0, inner_plain bs parts.1) refl
  where
    plain_is_inner : (b : ℕ) → is_plain b ≡ true → is_inner b ≡ true
    plain_is_inner b test = grind (arith, nat_tests)

-- a text and its asterisk are a piece
piece_first : (text rest : List ℕ) → list_all is_plain text ≡ true → pieces (text ++ 42 ∷ rest) ≡ text ∷ pieces rest
piece_first text rest test = slice_split_at (λ b. b == 42) text 42 rest (no_star text test) refl

inner_line : (text : List ℕ) → list_all is_plain text ≡ true → list_all is_inner (line text) ≡ true
inner_line text test = both_pass is_inner text (codes "*\r\n") (inner_plain text test) refl

pub line_before : (text rest : List ℕ) → line text ++ rest ≡ text ++ 42 ∷ 13 ∷ 10 ∷ rest
line_before text rest = append_assoc text (codes "*\r\n") rest

-- a field's letter: no blank, and not K (75), whose field is refused
abbrev pub begins_field : ℕ → Bool
begins_field b = not (is_blank b) && not (b == 75)

letter_not_blank : (b : ℕ) → begins_field b ≡ true → is_blank b ≡ false
letter_not_blank b begins = not-true (is_blank b) ((and_parts (not (is_blank b)) (not (b == 75)) begins).0)

letter_read : (b : ℕ) → begins_field b ≡ true → (b == 75) ≡ false
letter_read b begins = not-true (b == 75) ((and_parts (not (is_blank b)) (not (b == 75)) begins).1)

-- the first field of pieces, of which more follow
piece_read : (t : Table) (at letter : ℕ) (text : List ℕ) (said : Field) (next : List ℕ) (rest : List (List ℕ)) (more : List Field) → begins_field letter ≡ true → field_of t letter text ≡ Some said
    → fields_from t (at + length (13 ∷ 10 ∷ letter ∷ text) + 1) (next ∷ rest) ≡ Ok more → fields_from t at ((13 ∷ 10 ∷ letter ∷ text) ∷ next ∷ rest) ≡ Ok (said ∷ more)
unfolding fields_from field_at
piece_read t at letter text said next rest more begins says follows =
    rw (letter_not_blank letter begins, letter_read letter begins, says, follows) refl

-- there always is a first piece
onto_some : (b : ℕ) (parts : List (List ℕ)) → (next : List ℕ) × (rest : List (List ℕ)) × (onto_first b parts ≡ next ∷ rest)
onto_some b [] = (b ∷ [], [], refl)
onto_some b (part ∷ parts) = (b ∷ part, parts, refl)

-- a field's text, its asterisk (42) and the line's end
line_read : (t : Table) (letter : ℕ) (text : List ℕ) (said : Field) (rest : List ℕ) (more : List Field) → begins_field letter ≡ true → list_all is_plain (letter ∷ text) ≡ true → field_of t letter text ≡ Some said
    → Gives t rest more → Gives t (letter ∷ text ++ 42 ∷ 13 ∷ 10 ∷ rest) (said ∷ more)
line_read t letter text said rest more begins plain says gives at =
    let first = piece_first (13 ∷ 10 ∷ letter ∷ text) (13 ∷ 10 ∷ rest) plain in
    let some = onto_some 13 (pieces (10 ∷ rest)) in
    let follows : fields_from t (at + length (13 ∷ 10 ∷ letter ∷ text) + 1) (some.0 ∷ some.1) ≡ Ok more =
    rw (← some.2) (gives (at + length (13 ∷ 10 ∷ letter ∷ text) + 1)) in
    ap (fields_from t at) (first ∙ ap (λ (ps : List (List ℕ)). (13 ∷ 10 ∷ letter ∷ text) ∷ ps) some.2)
    ∙ piece_read t at letter text said some.0 some.1 more begins says follows

-- a line whose text is plain says what its field says
pub says_line : (t : Table) (letter : ℕ) (text : List ℕ) (said : Field) → begins_field letter ≡ true → list_all is_plain (letter ∷ text) ≡ true → field_of t letter text ≡ Some said → Says t (line (letter ∷ text)) (said ∷ [])
says_line t letter text said begins plain says = record {
  inner = inner_line (letter ∷ text) plain;
  before = λ rest more gives. subst (λ (bs : List ℕ). Gives t bs (said ∷ more)) (sym (line_before (letter ∷ text) rest)) (line_read t letter text said rest more begins plain says gives);
}

-- ---- all lines

ends : (t : Table) → Gives t [] []
unfolding fields_from no_field
ends t at = refl

all_read : (t : Table) (lines : List ℕ) (fields : List Field) → Says t lines fields → Gives t lines fields
all_read t lines fields says at =
    let read = says.before [] [] (ends t) at in
    let text : lines ++ [] ≡ lines = append-nil lines in
    let said : fields ++ [] ≡ fields = append-nil fields in
    ap (λ (bs : List ℕ). fields_from t at (pieces (13 ∷ 10 ∷ bs))) (sym text) ∙ read ∙ ap (λ (fs : List Field). Ok fs) said

-- the design text and its line's end, and the lines after them
pub fields_read : (t : Table) (at : ℕ) (design lines : List ℕ) (fields : List Field) → list_all is_plain design ≡ true → Says t lines fields
    → fields_of t (record { at = at; text = design ++ 42 ∷ 13 ∷ 10 ∷ lines }) ≡ Ok fields
unfolding behind_design
fields_read t at design lines fields plain says =
    let first = piece_first design (13 ∷ 10 ∷ lines) plain in
    let some = onto_some 13 (pieces (10 ∷ lines)) in
    let follows : fields_from t (at + length design + 1) (some.0 ∷ some.1) ≡ Ok fields =
    rw (← some.2) (all_read t lines fields says (at + length design + 1)) in
    ap (behind_design t at) (first ∙ ap (λ (ps : List (List ℕ)). design ∷ ps) some.2) ∙ follows
