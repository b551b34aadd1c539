-- What the fields of the canonical file say last.
use Rattle.std.proofs.Common.{◌≡◌, ℕ, zero, suc, ◌+◌, ◌*◌, Bool, false, List, [], ◌∷◌, ◌++◌, Option, Some, None, refl, sym, ap, ◌∙◌, inl, inr, slice_range, unwrap_or}
use Rattle.jedec_writer.proofs.Common.{list_any, cases_Bool, Field, Table, fuse_sum_of, control_levels, last_of, fuse_count, pin_count, default_fuse, sum_said, default_test, pin_order, vector_at}
use Rattle.std.specs.Option.{option_or}
use Rattle.jedec_file.specs.declared.field.Field.TheVariants as field
use Rattle.jedec_writer.proofs.LinesRead.{levels_fields, row_fields, vector_fields, fields_with}
use Rattle.jedec_writer.proofs.TextRead.{written_fields}

-- ---- the last one of two lists

pub or_none : {A : Type 0} (o : Option A) → option_or o None ≡ o
or_none None = refl
or_none (Some x) = refl

or_assoc : {A : Type 0} (o p q : Option A) → option_or (option_or o p) q ≡ option_or o (option_or p q)
or_assoc None p q = refl
or_assoc (Some x) p q = refl

last_of-append : {A : Type 0} (says : Field → Option A) (fs gs : List Field) → last_of says (fs ++ gs) ≡ option_or (last_of says gs) (last_of says fs)
last_of-append says [] gs = sym (or_none (last_of says gs))
last_of-append says (f ∷ fs) gs = rw (last_of-append says fs gs) (or_assoc (last_of says gs) (last_of says fs) (says f))

pub last_of_first : {A : Type 0} (says : Field → Option A) (fs gs : List Field) → last_of says gs ≡ None → last_of says (fs ++ gs) ≡ last_of says fs
last_of_first says fs gs none = last_of-append says fs gs ∙ ap (λ o. option_or o (last_of says fs)) none

pub last_of_second : {A : Type 0} (says : Field → Option A) (fs gs : List Field) → last_of says fs ≡ None → last_of says (fs ++ gs) ≡ last_of says gs
last_of_second says fs gs none = last_of-append says fs gs ∙ ap (λ o. option_or (last_of says gs) o) none ∙ or_none (last_of says gs)

-- ---- fields of levels and of vectors, if nothing is said of them

abbrev PassesLevels : {A : Type 0} → (Field → Option A) → Type 0
PassesLevels says = (first : ℕ) (levels : List Bool) → says (field.Levels first levels) ≡ None

abbrev PassesVectors : {A : Type 0} → (Field → Option A) → Type 0
PassesVectors says = (n : ℕ) (chars : List ℕ) → says (field.Vector n chars) ≡ None

levels_passed : {A : Type 0} (says : Field → Option A) → PassesLevels says → (first : ℕ) (levels : List Bool) → last_of says (levels_fields first levels) ≡ None
levels_passed says passes first levels = elim (cases_Bool (list_any (λ level. level) levels)) [
  | inl any ↦ rw (any, passes first levels) refl
  | inr none ↦ rw none refl
]

rows_passed : {A : Type 0} (says : Field → Option A) → PassesLevels says → (columns : ℕ) (fuses : List Bool) (rows : ℕ) → last_of says (row_fields columns fuses rows) ≡ None
rows_passed says passes columns fuses zero = refl
rows_passed says passes columns fuses (suc rows) =
    let row = levels_fields (columns * rows) (slice_range fuses (columns * rows) (columns * rows + columns)) in
    last_of_first says (row_fields columns fuses rows) row (levels_passed says passes (columns * rows) (slice_range fuses (columns * rows) (columns * rows + columns)))
    ∙ rows_passed says passes columns fuses rows

pub vectors_passed : {A : Type 0} (says : Field → Option A) → PassesVectors says → (n : ℕ) (vectors : List (List ℕ)) → last_of says (vector_fields n vectors) ≡ None
vectors_passed says passes n [] = refl
vectors_passed says passes n (vector ∷ vectors) = rw (vectors_passed says passes (suc n) vectors, passes n vector) refl

-- ---- what precedes the levels

abbrev pub head_fields : Table → List (List ℕ) → List Field
head_fields t vectors =
    (field.PinCount t.pins ∷ [])
    ++ (field.FuseCount t.fuses ∷ [])
    ++ fields_with vectors field.Passed
    ++ (field.DefaultFuse false ∷ [])
    ++ (field.Passed ∷ [])
    ++ fields_with vectors (field.DefaultTest false)

-- what is said before the levels, by the sum, and by the vectors
last_written : {A : Type 0} (says : Field → Option A) → PassesLevels says → (t : Table) (fuses : List Bool) (vectors : List (List ℕ))
    → last_of says (written_fields t fuses vectors) ≡ option_or (last_of says (vector_fields 1 vectors)) (option_or (says (field.FuseSum (fuse_sum_of fuses))) (last_of says (head_fields t vectors)))
last_written says passes t fuses vectors =
    let rows = row_fields t.columns fuses t.rows in
    let controls = levels_fields (t.columns * t.rows) (control_levels t fuses) in
    let heads = head_fields t vectors in
    let total = field.FuseSum (fuse_sum_of fuses) ∷ [] in
    let levels : last_of says (heads ++ rows ++ controls) ≡ last_of says heads =
    last_of_first says (heads ++ rows) controls (levels_passed says passes (t.columns * t.rows) (control_levels t fuses))
    ∙ last_of_first says heads rows (rows_passed says passes t.columns fuses t.rows) in
    last_of-append says (heads ++ rows ++ controls ++ total) (vector_fields 1 vectors)
    ∙ ap (λ o. option_or (last_of says (vector_fields 1 vectors)) o)
    (last_of-append says (heads ++ rows ++ controls) total ∙ ap (λ o. option_or (says (field.FuseSum (fuse_sum_of fuses))) o) levels)

-- the same where vectors say nothing
last_before_vectors : {A : Type 0} (says : Field → Option A) → PassesLevels says → PassesVectors says → (t : Table) (fuses : List Bool) (vectors : List (List ℕ))
    → last_of says (written_fields t fuses vectors) ≡ option_or (says (field.FuseSum (fuse_sum_of fuses))) (last_of says (head_fields t vectors))
last_before_vectors says levels passes t fuses vectors =
    last_written says levels t fuses vectors
    ∙ ap (λ o. option_or o (option_or (says (field.FuseSum (fuse_sum_of fuses))) (last_of says (head_fields t vectors)))) (vectors_passed says passes 1 vectors)

-- ---- each thing that is said

pub fuse_count_said : (t : Table) (fuses : List Bool) (vectors : List (List ℕ)) → last_of fuse_count (written_fields t fuses vectors) ≡ Some t.fuses
fuse_count_said t fuses vectors = last_before_vectors fuse_count (λ _ _. refl) (λ _ _. refl) t fuses vectors ∙ head vectors
  where
    head : (vectors : List (List ℕ)) → last_of fuse_count (head_fields t vectors) ≡ Some t.fuses
    head [] = refl
    head (vector ∷ vectors) = refl

pub pin_count_said : (t : Table) (fuses : List Bool) (vectors : List (List ℕ)) → last_of pin_count (written_fields t fuses vectors) ≡ Some t.pins
pin_count_said t fuses vectors = last_before_vectors pin_count (λ _ _. refl) (λ _ _. refl) t fuses vectors ∙ head vectors
  where
    head : (vectors : List (List ℕ)) → last_of pin_count (head_fields t vectors) ≡ Some t.pins
    head [] = refl
    head (vector ∷ vectors) = refl

pub default_fuse_said : (t : Table) (fuses : List Bool) (vectors : List (List ℕ)) → last_of default_fuse (written_fields t fuses vectors) ≡ Some false
default_fuse_said t fuses vectors = last_before_vectors default_fuse (λ _ _. refl) (λ _ _. refl) t fuses vectors ∙ head vectors
  where
    head : (vectors : List (List ℕ)) → last_of default_fuse (head_fields t vectors) ≡ Some false
    head [] = refl
    head (vector ∷ vectors) = refl

pub fuse_sum_said : (t : Table) (fuses : List Bool) (vectors : List (List ℕ)) → last_of sum_said (written_fields t fuses vectors) ≡ Some (fuse_sum_of fuses)
fuse_sum_said t fuses vectors = last_before_vectors sum_said (λ _ _. refl) (λ _ _. refl) t fuses vectors

pub default_test_said : (t : Table) (fuses : List Bool) (vectors : List (List ℕ)) → unwrap_or (last_of default_test (written_fields t fuses vectors)) false ≡ false
default_test_said t fuses vectors = ap (λ o. unwrap_or o false) (last_before_vectors default_test (λ _ _. refl) (λ _ _. refl) t fuses vectors) ∙ head vectors
  where
    head : (vectors : List (List ℕ)) → unwrap_or (last_of default_test (head_fields t vectors)) false ≡ false
    head [] = refl
    head (vector ∷ vectors) = refl

pub no_pin_order : (t : Table) (fuses : List Bool) (vectors : List (List ℕ)) → last_of pin_order (written_fields t fuses vectors) ≡ None
no_pin_order t fuses vectors = last_before_vectors pin_order (λ _ _. refl) (λ _ _. refl) t fuses vectors ∙ head vectors
  where
    head : (vectors : List (List ℕ)) → last_of pin_order (head_fields t vectors) ≡ None
    head [] = refl
    head (vector ∷ vectors) = refl

pub vector_said : (t : Table) (fuses : List Bool) (vectors : List (List ℕ)) (n : ℕ) → last_of (vector_at n) (written_fields t fuses vectors) ≡ last_of (vector_at n) (vector_fields 1 vectors)
vector_said t fuses vectors n =
    last_written (vector_at n) (λ _ _. refl) t fuses vectors
    ∙ ap (λ o. option_or (last_of (vector_at n) (vector_fields 1 vectors)) o) (head vectors)
    ∙ or_none (last_of (vector_at n) (vector_fields 1 vectors))
  where
    head : (vectors : List (List ℕ)) → last_of (vector_at n) (head_fields t vectors) ≡ None
    head [] = refl
    head (vector ∷ vectors) = refl
