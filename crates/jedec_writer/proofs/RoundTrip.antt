-- The canonical file, read as a fuse file, says just the fuses and vectors that were written.
use Rattle.std.proofs.Common.{◌≡◌, ℕ, ◌*◌, ◌≤◌, Bool, false, List, length, take, get_or, Ok, refl, arith, unwrap_or}
use Rattle.jedec_writer.proofs.Common.{All, eq-eqb, take_all, length-take-le, length-map, All-map, Vector, Field, Table, IsDevice, IsIntactPastLines, fuse_sum_of, IsTestVector, all_chars, chars_of, IsPlainName, canonical_file, Framed, frame_of, fields_of, FuseFile, last_of, default_test, size_of, default_of, fuses_said, fuse_sum_read, vectors_of, contents_of, file_of}
use Rattle.jedec_writer.proofs.LinesRead.{IsVectorText}
use Rattle.jedec_writer.proofs.TextRead.{written_fields, written_text, lines_say, text_found, fields_found}
use Rattle.jedec_writer.proofs.LastSaid.{fuse_count_said, pin_count_said, default_fuse_said, fuse_sum_said, default_test_said}
use Rattle.jedec_writer.proofs.LevelsEnd.{all_end}
use Rattle.jedec_writer.proofs.LevelsTold.{levels_told}
use Rattle.jedec_writer.proofs.VectorsTold.{vectors_told}

-- ---- from the fields to the file

size_said : (t : Table) (fuses : List Bool) (vectors : List (List ℕ)) → length fuses ≡ t.fuses → t.columns * t.rows ≤ t.fuses → size_of t (written_fields t fuses vectors) ≡ Ok t.fuses
unfolding size_of
size_said t fuses vectors long fits =
    rw (fuse_count_said t fuses vectors, pin_count_said t fuses vectors, eq-eqb t.fuses t.fuses refl, eq-eqb t.pins t.pins refl, all_end t fuses vectors long fits) refl

default_level_said : (t : Table) (fuses : List Bool) (vectors : List (List ℕ)) (listed : ℕ) → default_of (written_fields t fuses vectors) listed ≡ Ok false
unfolding default_of
default_level_said t fuses vectors listed = rw (default_fuse_said t fuses vectors) refl

sum_said_right : (t : Table) (fuses : List Bool) (vectors : List (List ℕ)) → length fuses ≡ t.fuses → fuse_sum_read (written_fields t fuses vectors) t.fuses fuses ≡ Ok (fuse_sum_of fuses)
unfolding fuse_sum_read
sum_said_right t fuses vectors long =
    let all : take t.fuses fuses ≡ fuses = take_all t.fuses fuses (omega arith) in
    rw (fuse_sum_said t fuses vectors, all, eq-eqb (fuse_sum_of fuses) (fuse_sum_of fuses) refl) refl

contents_by_steps : (t : Table) (fields : List Field) (listed sum : ℕ) (fuses : List Bool) (vectors : List (List ℕ)) → size_of t fields ≡ Ok listed → default_of fields listed ≡ Ok false
    → fuses_said t fields listed false ≡ fuses → fuse_sum_read fields listed fuses ≡ Ok sum → vectors_of t fields ≡ vectors → unwrap_or (last_of default_test fields) false ≡ false
    → contents_of t fields ≡ Ok (record { fuses = fuses; listed = listed; vectors = vectors; default_level = false })
unfolding contents_of
contents_by_steps t fields listed sum fuses vectors size default levels sums told level =
    rw (size, default, levels, sums, told, level) refl

file_by_steps : (t : Table) (bytes : List ℕ) (framed : Framed) (fields : List Field) (file : FuseFile) → frame_of bytes ≡ Ok framed → fields_of t framed ≡ Ok fields → contents_of t fields ≡ Ok file → file_of t bytes ≡ Ok file
unfolding file_of
file_by_steps t bytes framed fields file frame read says = rw (frame, read, says) refl

pub reads_back : (t : Table) → IsDevice t → (name : List ℕ) → IsPlainName name → (fuses : List Bool) → length fuses ≡ t.fuses → IsIntactPastLines t fuses
    → (vectors : List (List ℕ)) → length vectors ≤ 9999 → All (IsVectorText t) vectors
    → file_of t (canonical_file t name fuses vectors) ≡ Ok (record { fuses = fuses; listed = t.fuses; vectors = vectors; default_level = false })
reads_back t is name plain fuses long intact vectors few each =
    let says = lines_say t is fuses long vectors few each in
    let fields = written_fields t fuses vectors in
    let contents = contents_by_steps t fields t.fuses (fuse_sum_of fuses) fuses vectors
    (size_said t fuses vectors long is.sizes.array_fits) (default_level_said t fuses vectors t.fuses)
    (levels_told t is fuses long intact vectors) (sum_said_right t fuses vectors long)
    (vectors_told t fuses vectors (omega arith) each) (default_test_said t fuses vectors) in
    file_by_steps t (canonical_file t name fuses vectors) (record { at = 1; text = written_text t name fuses vectors }) fields
    (record { fuses = fuses; listed = t.fuses; vectors = vectors; default_level = false })
    (text_found t name plain fuses vectors says) (fields_found t name plain fuses vectors says) contents

-- ---- vectors as they are given, with a place for each pin of the largest device

texts_of_vectors : (t : Table) → t.pins ≤ 24 → (vectors : List Vector) → All (λ (vector : Vector). length vector.chars ≡ 24) vectors → All (IsTestVector t) vectors → All (IsVectorText t) (all_chars t vectors)
texts_of_vectors t few vectors wide tests =
    All-map (IsVectorText t) (chars_of t) vectors
    (λ k d within. record { long = length-take-le t.pins (get_or vectors k d).chars (omega (arith, wide k d within)); chars = tests k d within })

pub vectors_read_back : (t : Table) → IsDevice t → (name : List ℕ) → IsPlainName name → (fuses : List Bool) → length fuses ≡ t.fuses → IsIntactPastLines t fuses
    → (vectors : List Vector) → length vectors ≤ 9999 → All (λ (vector : Vector). length vector.chars ≡ 24) vectors → All (IsTestVector t) vectors
    → file_of t (canonical_file t name fuses (all_chars t vectors)) ≡ Ok (record { fuses = fuses; listed = t.fuses; vectors = all_chars t vectors; default_level = false })
vectors_read_back t is name plain fuses long intact vectors few wide tests =
    reads_back t is name plain fuses long intact (all_chars t vectors) (omega (arith, length-map vectors (chars_of t)))
    (texts_of_vectors t is.sizes.pins_high vectors wide tests)
