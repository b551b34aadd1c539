-- The fields of the canonical lines and of those that are kept say the new fuses, and of tests what the first file says.
use Rattle.std.proofs.Common.{◌≡◌, ℕ, ◌+◌, ◌*◌, ◌≤◌, nat_lt, nat_le, Bool, true, false, if◌then◌else◌, List, [], ◌∷◌, ◌++◌, filter, length, map, take, Option, None, Some, Ok, refl, sym, ap, ◌∙◌, subst, arith, unwrap_or, filter_map}
use Rattle.std.proofs.Math.Path.{fun_ext}
use Rattle.std.proofs.lemmas.Bool.{eq-eqb}
use Rattle.std.proofs.lemmas.List.{take_all}
use Rattle.std.proofs.lemmas.List.Folds.{list_all-append}
use Rattle.std.specs.List.{list_all, range_with_len}
use Rattle.std.specs.Option.{option_or}
use Rattle.jedec_file.specs.ControlLines.{IsIntactPastLines}
use Rattle.jedec_file.specs.declared.field.Field.{Field}
use Rattle.jedec_file.specs.declared.field.Field.TheVariants as field
use Rattle.jedec_file.specs.FuseFile.{FuseFile, by_pins, default_fuse, default_test, ends_by, fuse_count, last_of, level_at, order_of, pin_count, pin_order, sum_said, vector_at}
unfoldable use Rattle.jedec_file.specs.FuseFile.{contents_of, default_of, fuse_sum_read, fuses_said, size_of, vectors_of}
use Rattle.jedec_file.specs.FuseSums.{fuse_sum_of}
use Rattle.jedec_writer.proofs.LastSaid.{default_fuse_said, default_test_said, fuse_count_said, fuse_sum_said, last_of_first, last_of_second, no_pin_order, or_none, pin_count_said, vector_said}
use Rattle.jedec_writer.proofs.LevelsEnd.{all_end}
use Rattle.jedec_writer.proofs.LevelsTold.{levels_told}
use Rattle.jedec_writer.proofs.TextRead.{written_fields}
use Rattle.pld_device.specs.Laws.{IsDevice}
use Rattle.pld_device.specs.Table.{Table}
use Rattle.spliced_files.specs.Spliced.{with_fuses}
use Rattle.spliced_files.proofs.FieldKinds.{is_quiet, is_test}
use Rattle.spliced_files.proofs.KeptFields.{both_ok, by_quiet, by_tests, ok_same}

-- ---- what no quiet field says, and what only fields of tests say

quiet_count : (said : Field) → is_quiet said ≡ true → fuse_count said ≡ None
quiet_count (field.FuseCount n) quiet = absurd cc
quiet_count (field.PinCount n) quiet = absurd cc
quiet_count (field.DefaultFuse level) quiet = absurd cc
quiet_count (field.Levels first levels) quiet = absurd cc
quiet_count (field.FuseSum n) quiet = absurd cc
quiet_count (field.DefaultTest level) quiet = refl
quiet_count (field.PinOrder order) quiet = refl
quiet_count (field.Vector m chars) quiet = refl
quiet_count field.Passed quiet = refl

quiet_pins : (said : Field) → is_quiet said ≡ true → pin_count said ≡ None
quiet_pins (field.FuseCount n) quiet = absurd cc
quiet_pins (field.PinCount n) quiet = absurd cc
quiet_pins (field.DefaultFuse level) quiet = absurd cc
quiet_pins (field.Levels first levels) quiet = absurd cc
quiet_pins (field.FuseSum n) quiet = absurd cc
quiet_pins (field.DefaultTest level) quiet = refl
quiet_pins (field.PinOrder order) quiet = refl
quiet_pins (field.Vector m chars) quiet = refl
quiet_pins field.Passed quiet = refl

quiet_default : (said : Field) → is_quiet said ≡ true → default_fuse said ≡ None
quiet_default (field.FuseCount n) quiet = absurd cc
quiet_default (field.PinCount n) quiet = absurd cc
quiet_default (field.DefaultFuse level) quiet = absurd cc
quiet_default (field.Levels first levels) quiet = absurd cc
quiet_default (field.FuseSum n) quiet = absurd cc
quiet_default (field.DefaultTest level) quiet = refl
quiet_default (field.PinOrder order) quiet = refl
quiet_default (field.Vector m chars) quiet = refl
quiet_default field.Passed quiet = refl

quiet_sum : (said : Field) → is_quiet said ≡ true → sum_said said ≡ None
quiet_sum (field.FuseCount n) quiet = absurd cc
quiet_sum (field.PinCount n) quiet = absurd cc
quiet_sum (field.DefaultFuse level) quiet = absurd cc
quiet_sum (field.Levels first levels) quiet = absurd cc
quiet_sum (field.FuseSum n) quiet = absurd cc
quiet_sum (field.DefaultTest level) quiet = refl
quiet_sum (field.PinOrder order) quiet = refl
quiet_sum (field.Vector m chars) quiet = refl
quiet_sum field.Passed quiet = refl

quiet_level : (k : ℕ) (said : Field) → is_quiet said ≡ true → level_at k said ≡ None
quiet_level k (field.FuseCount n) quiet = absurd cc
quiet_level k (field.PinCount n) quiet = absurd cc
quiet_level k (field.DefaultFuse level) quiet = absurd cc
quiet_level k (field.Levels first levels) quiet = absurd cc
quiet_level k (field.FuseSum n) quiet = absurd cc
quiet_level k (field.DefaultTest level) quiet = refl
quiet_level k (field.PinOrder order) quiet = refl
quiet_level k (field.Vector m chars) quiet = refl
quiet_level k field.Passed quiet = refl

test_default : (said : Field) → is_test said ≡ false → default_test said ≡ None
test_default (field.FuseCount n) other = refl
test_default (field.PinCount n) other = refl
test_default (field.DefaultFuse level) other = refl
test_default (field.Levels first levels) other = refl
test_default (field.FuseSum n) other = refl
test_default (field.DefaultTest level) other = absurd cc
test_default (field.PinOrder order) other = absurd cc
test_default (field.Vector m chars) other = absurd cc
test_default field.Passed other = refl

test_order : (said : Field) → is_test said ≡ false → pin_order said ≡ None
test_order (field.FuseCount n) other = refl
test_order (field.PinCount n) other = refl
test_order (field.DefaultFuse level) other = refl
test_order (field.Levels first levels) other = refl
test_order (field.FuseSum n) other = refl
test_order (field.DefaultTest level) other = absurd cc
test_order (field.PinOrder order) other = absurd cc
test_order (field.Vector m chars) other = absurd cc
test_order field.Passed other = refl

test_vector : (k : ℕ) (said : Field) → is_test said ≡ false → vector_at k said ≡ None
test_vector k (field.FuseCount n) other = refl
test_vector k (field.PinCount n) other = refl
test_vector k (field.DefaultFuse level) other = refl
test_vector k (field.Levels first levels) other = refl
test_vector k (field.FuseSum n) other = refl
test_vector k (field.DefaultTest level) other = absurd cc
test_vector k (field.PinOrder order) other = absurd cc
test_vector k (field.Vector m chars) other = absurd cc
test_vector k field.Passed other = refl

quiet_ends : (k : ℕ) (fields : List Field) → list_all is_quiet fields ≡ true → list_all (ends_by k) fields ≡ true
quiet_ends k [] quiet = refl
quiet_ends k ((field.FuseCount n) ∷ fields) quiet = absurd cc
quiet_ends k ((field.PinCount n) ∷ fields) quiet = absurd cc
quiet_ends k ((field.DefaultFuse level) ∷ fields) quiet = absurd cc
quiet_ends k ((field.Levels first levels) ∷ fields) quiet = absurd cc
quiet_ends k ((field.FuseSum n) ∷ fields) quiet = absurd cc
quiet_ends k ((field.DefaultTest level) ∷ fields) quiet = quiet_ends k fields quiet
quiet_ends k ((field.PinOrder order) ∷ fields) quiet = quiet_ends k fields quiet
quiet_ends k ((field.Vector m chars) ∷ fields) quiet = quiet_ends k fields quiet
quiet_ends k (field.Passed ∷ fields) quiet = quiet_ends k fields quiet

-- ---- what fields say of tests

-- as a file with these tests and the fuses that are read
abbrev tests_of : Table → List Field → (fuses : List Bool) → (listed : ℕ) → FuseFile
tests_of f fields fuses listed = record {
  fuses = fuses;
  listed = listed;
  vectors = vectors_of f fields;
  default_level = unwrap_or (last_of default_test fields) false;
}

tests_read : (f : Table) (fields : List Field) (file : FuseFile) → contents_of f fields ≡ Ok file → tests_of f fields file.fuses file.listed ≡ file
unfolding contents_of
tests_read f fields file says =
    let size = both_ok (size_of f fields) _ file says in
    let level = both_ok (default_of fields size.0) _ file size.2 in
    let total = both_ok (fuse_sum_read fields size.0 (fuses_said f fields size.0 level.0)) _ file level.2 in
    let same = ok_same (tests_of f fields (fuses_said f fields size.0 level.0) size.0) file (Ok (tests_of f fields (fuses_said f fields size.0 level.0) size.0)) refl total.2 in
    subst (λ (x : FuseFile). tests_of f fields x.fuses x.listed ≡ x) same refl

-- ---- the last of two lists

last_of-append : {A : Type 0} (says : Field → Option A) (fs gs : List Field) → last_of says (fs ++ gs) ≡ option_or (last_of says gs) (last_of says fs)
last_of-append {A = A} says [] gs = sym (or_none (last_of says gs))
last_of-append {A = A} says (f ∷ fs) gs = rw (last_of-append says fs gs) (or_assoc (last_of says gs) (last_of says fs) (says f))
  where
    or_assoc : (o p q : Option A) → option_or (option_or o p) q ≡ option_or o (option_or p q)
    or_assoc None p q = refl
    or_assoc (Some x) p q = refl

-- ---- the canonical fields without vectors, and those that are kept

module _ (t : Table) (is : IsDevice t) (fuses : List Bool) (long : length fuses ≡ t.fuses) (intact : IsIntactPastLines t fuses)
    (kept : List Field) (quiet : list_all is_quiet kept ≡ true) where
  abbrev written : List Field
  written = written_fields t fuses []

  abbrev all : List Field
  all = written ++ kept

  first_of : {A : Type 0} (says : Field → Option A) → ((said : Field) → is_quiet said ≡ true → says said ≡ None) → last_of says all ≡ last_of says written
  first_of says alone = last_of_first says written kept (by_quiet says alone kept quiet)

  size_is : size_of t all ≡ Ok t.fuses
  unfolding size_of
  size_is =
      rw (
        first_of fuse_count quiet_count,
        fuse_count_said t fuses [],
        first_of pin_count quiet_pins,
        pin_count_said t fuses [],
        eq-eqb t.fuses t.fuses refl,
        eq-eqb t.pins t.pins refl,
        list_all-append (ends_by t.fuses) written kept,
        all_end t fuses [] long is.sizes.array_fits,
        quiet_ends t.fuses kept quiet,
      ) refl

  default_is : default_of all t.fuses ≡ Ok false
  unfolding default_of
  default_is = rw (first_of default_fuse quiet_default, default_fuse_said t fuses []) refl

  levels_are : fuses_said t all t.fuses false ≡ fuses
  unfolding fuses_said
  levels_are =
      ap (λ level. map (λ (n : ℕ). if nat_lt n t.fuses then unwrap_or (level n) false else false) (range_with_len 0 t.fuses)) (fun_ext (λ n. first_of (level_at n) (quiet_level n)))
      ∙ levels_told t is fuses long intact []

  sum_is : fuse_sum_read all t.fuses fuses ≡ Ok (fuse_sum_of fuses)
  unfolding fuse_sum_read
  sum_is =
      let whole : take t.fuses fuses ≡ fuses = take_all t.fuses fuses (omega arith) in
      rw (first_of sum_said quiet_sum, fuse_sum_said t fuses [], whole, eq-eqb (fuse_sum_of fuses) (fuse_sum_of fuses) refl) refl

  -- ---- of tests

  module _ (f : Table) (pins : f.pins ≡ t.pins) (fields : List Field) (tests : filter is_test kept ≡ filter is_test fields) where
    kept_says : {A : Type 0} (says : Field → Option A) → ((said : Field) → is_test said ≡ false → says said ≡ None) → last_of says kept ≡ last_of says fields
    kept_says says alone = by_tests says alone kept ∙ ap (last_of says) tests ∙ sym (by_tests says alone fields)

    order_is : last_of pin_order all ≡ last_of pin_order fields
    order_is = last_of_second pin_order written kept (no_pin_order t fuses []) ∙ kept_says pin_order test_order

    vector_is : (n : ℕ) → last_of (vector_at n) all ≡ last_of (vector_at n) fields
    vector_is n = last_of_second (vector_at n) written kept (vector_said t fuses [] n) ∙ kept_says (vector_at n) (test_vector n)

    vectors_are : vectors_of t all ≡ vectors_of f fields
    unfolding vectors_of
    vectors_are =
        ap (λ at. map (by_pins (order_of t all)) (filter_map at (range_with_len 1 65535))) (fun_ext vector_is)
        ∙ ap (λ order. map (by_pins order) (filter_map (λ n. last_of (vector_at n) fields) (range_with_len 1 65535)))
        (ap (λ o. unwrap_or o (range_with_len 1 t.pins)) order_is ∙ ap (λ n. unwrap_or (last_of pin_order fields) (range_with_len 1 n)) (sym pins))

    level_is : unwrap_or (last_of default_test all) false ≡ unwrap_or (last_of default_test fields) false
    level_is =
        ap (λ o. unwrap_or o false) (last_of-append default_test written kept)
        ∙ (after (last_of default_test kept) (last_of default_test written) (default_test_said t fuses [])
        ∙ ap (λ o. unwrap_or o false) (kept_says default_test test_default))
      where
        after : (o p : Option Bool) → unwrap_or p false ≡ false → unwrap_or (option_or o p) false ≡ unwrap_or o false
        after None p none = none
        after (Some x) p none = refl

    pub contents_are : (file : FuseFile) → contents_of f fields ≡ Ok file → contents_of t (written_fields t fuses [] ++ kept) ≡ Ok (with_fuses t fuses file)
    unfolding contents_of
    contents_are file says = by_steps ∙ ap (λ (rest : FuseFile). Ok (with_fuses t fuses rest)) (tests_read f fields file says)
      where
        by_steps : contents_of t all ≡ Ok (with_fuses t fuses (tests_of f fields file.fuses file.listed))
        by_steps = rw (size_is, default_is, levels_are, sum_is, vectors_are, level_is) refl
