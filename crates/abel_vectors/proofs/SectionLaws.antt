-- A section by its header and its rows, sections one after another, and how many vectors they have.
use Rattle.std.proofs.Common.{◌≡◌, ℕ, suc, ◌+◌, ◌-◌, ◌<◌, ◌≤◌, nat_lt, Bool, true, false, if◌then◌else◌, List, [], ◌∷◌, ◌++◌, length, map, Result, Ok, Err, IfOk, refl, sym, ap, ◌∙◌, subst, length-append, arith, All}
use Rattle.abel_vectors.proofs.Common.{length-map, Place, Vector, Table, IsTestVector, all_chars, chars_of, Section, RowTree, SectionTree, SomeVectors, view, view_section, view_vector_row, Context, Term, term_of, row_chars, section_vectors, sections_vectors, SectionFault, BadVector, Found, Finds, FindsSection, view_vectors, refused_behind, IsAnswer, header_refused, if_none, one_too_many, row_refused, rows_refused, vectors_refused}
use Rattle.set_expr.proofs.SummedUp.{left_empty, right_empty}
use Rattle.std.specs.Global.{Vec}
use Rattle.std.proofs.lemmas.Bool.Decides.{nat_tests}
use Rattle.abel_tree.specs.declared.sections.Section.TheVariants as section
use Rattle.abel_tree.specs.declared.tables.Vectors.{Vectors}
use Rattle.abel_vectors.proofs.FoundLaws.{finds_none, finds_then}
use Rattle.abel_vectors.proofs.TestChars.{all_test, are_test_texts}

-- ---- sections

-- the room after a section of vectors
pub section_found : (d : Context) (n room left long : ℕ) (v : Vectors) (old new : Found) → room ≡ 9999 - n → left ≡ room - long → long ≡ length v.rows
    → Finds d.device (vectors_refused d n (view_vectors v)) (section_vectors d (view_vectors v)) old new → FindsSection d n (view_vectors v) left old new
section_found d n room left long v old new r l k finds =
    let rows = length-map (map view_vector_row v.rows) (row_chars d (term_of d.known (view v.inputs)) (term_of d.known (view v.outputs))) in
    let views = length-map v.rows view_vector_row in
    record { room = omega arith; finds = finds }

-- another section has no vectors
pub other_found : (d : Context) (n room : ℕ) (s : Section) (found : Found) → ((v : Vectors) → s ≡ section.Vectors v → ⊥) → room ≡ 9999 - n → FindsSection d n (view_section s) room found found
other_found d n room (section.Vectors v) found other r = absurd (other v refl)
other_found d n room _ found other r = record { room = omega arith; finds = finds_none d.device found }

-- one before others
pub sections_behind : (d : Context) (n left : ℕ) (s : SectionTree) (all rest : List SectionTree) (old new later : Found) → all ≡ s ∷ rest → FindsSection d n s left old new
    → Finds d.device (refused_behind d (n + length (section_vectors d s)) rest) (sections_vectors d rest) new later → Finds d.device (refused_behind d n all) (sections_vectors d all) old later
sections_behind d n left s all rest old new later same a b =
    subst (λ ss. Finds d.device (refused_behind d n ss) (sections_vectors d ss) old later) (sym same)
    (finds_then d.device (vectors_refused d n s) (refused_behind d (n + length (section_vectors d s)) rest) (section_vectors d s) (sections_vectors d rest) old new later a.finds b)

-- ---- a source has room for vectors of which nothing is refused

room_for : (n : ℕ) (p : Place) → one_too_many n p ≡ [] → n < 9999
room_for n p e = by_test (nat_lt n 9999) refl e
  where
    by_test : (b : Bool) → nat_lt n 9999 ≡ b → ◌≡◌ {A = List SectionFault} (if b then [] else BadVector p ∷ []) [] → n < 9999
    by_test true q h = grind (arith, nat_tests)
    by_test false q h = absurd cc

rows_few : (d : Context) (n : ℕ) (h k : Term) (rs : List RowTree) → n ≤ 9999 → rows_refused d n h k rs ≡ [] → n + length rs ≤ 9999
rows_few d n h k [] le e = omega arith
rows_few d n h k (r ∷ rs) le e =
    let later = rows_refused d (suc n) h k rs in
    let room : n < 9999 = room_for n r.place (left_empty (one_too_many n r.place) (row_refused d h k r ++ later) e) in
    let rest = right_empty (row_refused d h k r) later (right_empty (one_too_many n r.place) (row_refused d h k r ++ later) e) in
    let more : suc n + length rs ≤ 9999 = rows_few d (suc n) h k rs (omega arith) rest in
    omega arith

none_behind : (xs ys : List SectionFault) → if_none xs ys ≡ [] → ys ≡ []
none_behind [] ys e = e
none_behind (x ∷ xs) ys e = absurd cc

pub section_few : (d : Context) (n : ℕ) (s : SectionTree) → n ≤ 9999 → vectors_refused d n s ≡ [] → n + length (section_vectors d s) ≤ 9999
section_few d n (SomeVectors _ p a b rs) le e =
    let rows : n + length rs ≤ 9999 = rows_few d n (term_of d.known a) (term_of d.known b) rs le (none_behind (header_refused d p a b) (rows_refused d n (term_of d.known a) (term_of d.known b) rs) e) in
    let mapped = length-map rs (row_chars d (term_of d.known a) (term_of d.known b)) in
    omega arith
section_few d n _ le e = omega (arith, le)

pub all_few : (d : Context) (n : ℕ) (ss : List SectionTree) → n ≤ 9999 → refused_behind d n ss ≡ [] → n + length (sections_vectors d ss) ≤ 9999
all_few d n [] le e = omega (arith, le)
all_few d n (s ∷ ss) le e =
    let later = refused_behind d (n + length (section_vectors d s)) ss in
    let here = section_few d n s le (left_empty (vectors_refused d n s) later e) in
    let rest : (n + length (section_vectors d s)) + length (sections_vectors d ss) ≤ 9999 = all_few d (n + length (section_vectors d s)) ss here (right_empty (vectors_refused d n s) later e) in
    let both = length-append (section_vectors d s) (sections_vectors d ss) in
    omega arith

-- as many vectors as there are texts of them
count : (t : Table) (vs : List Vector) (css : List (List ℕ)) → all_chars t vs ≡ css → length vs ≡ length css
count t vs css e = sym (length-map vs (chars_of t)) ∙ ap length e

pub answer_few : (t : Table) (rs : List SectionFault) (texts : List (List ℕ)) (n : ℕ) (r : Result (Vec Vector) SectionFault) → (rs ≡ [] → n + length texts ≤ 9999) → IsAnswer t rs texts r → IfOk r (λ list. n + length list.items ≤ 9999)
answer_few t rs texts n (Err f) room h = tt
answer_few t rs texts n (Ok list) room h = let same = count t list.items texts h.chars in let fits = room h.accepted in omega arith

pub answer_test : (t : Table) (rs : List SectionFault) (texts : List (List ℕ)) (r : Result (Vec Vector) SectionFault) → are_test_texts texts ≡ true → IsAnswer t rs texts r → IfOk r (λ list. All (IsTestVector t) list.items)
answer_test t rs texts (Err f) all h = tt
answer_test t rs texts (Ok list) all h = all_test t list.items texts h.chars all
