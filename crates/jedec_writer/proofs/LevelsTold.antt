-- What the fields of the canonical file say of each fuse.
use Rattle.std.proofs.Common.{◌≡◌, ℕ, zero, suc, ◌+◌, ◌-◌, ◌*◌, ◌<◌, ◌≤◌, Bool, false, if◌then◌else◌, List, [], ◌∷◌, ◌++◌, length, drop, get_or, None, refl, sym, ap, subst, ◌∙◌, arith, inl, inr, length-drop, slice_range, unwrap_or, nat_lt}
use Rattle.jedec_writer.proofs.Common.{list_any, All, cases_Bool, cases_lt, le-leb, lt-leb, lt-ltb, le-ltb, or_parts, nat_tests, get_or-take, get_or-drop, length-take-le, All-head, All-tail, All-weaker, fill_by_all, Field, Table, IsDevice, IsControlFuse, control_levels, past, lines_end, IsIntactPastLines, control_fuses, fuse_sum_of, last_of, level_at, fuses_said}
use Rattle.std.proofs.lemmas.Option.{slice_get-get_or, slice_get_past}
use Rattle.jedec_file.specs.declared.field.Field.TheVariants as field
use Rattle.jedec_writer.proofs.LinesRead.{levels_fields, row_fields, vector_fields}
use Rattle.jedec_writer.proofs.TextRead.{written_fields}
use Rattle.jedec_writer.proofs.LastSaid.{last_of_first, last_of_second, vectors_passed, head_fields}

-- the fields say nothing of fuses but these, and of these the level at which it isn't 0
pub record Tells (fuses : List Bool) (low high : ℕ) (fields : List Field) : Type 0 where
  pub below : (n : ℕ) → n < low → last_of (level_at n) fields ≡ None
  pub above : (n : ℕ) → high ≤ n → last_of (level_at n) fields ≡ None
  pub within : (n : ℕ) → low ≤ n → n < high → unwrap_or (last_of (level_at n) fields) false ≡ get_or fuses n false

-- fields without levels, and one list after another
tells_none : {fuses : List Bool} (at : ℕ) (fields : List Field) → ((n : ℕ) → last_of (level_at n) fields ≡ None) → Tells fuses at at fields
tells_none at fields none = record {
  below = λ n _. none n;
  above = λ n _. none n;
  within = λ n low high. absurd (omega arith);
}

tells_both : {fuses : List Bool} (a b c : ℕ) (fs gs : List Field) → a ≤ b → b ≤ c → Tells fuses a b fs → Tells fuses b c gs → Tells fuses a c (fs ++ gs)
tells_both {fuses = fuses} a b c fs gs ab bc first second = record {
  below = λ n low. last_of_first (level_at n) fs gs (second.below n (omega arith)) ∙ first.below n low;
  above = λ n high. last_of_first (level_at n) fs gs (second.above n high) ∙ first.above n (omega arith);
  within = λ n low high. elim (cases_lt n b) [
    | inl here ↦ ap (λ o. unwrap_or o false) (last_of_first (level_at n) fs gs (second.below n here)) ∙ first.within n low here
    | inr there ↦ ap (λ o. unwrap_or o false) (last_of_second (level_at n) fs gs (first.above n there)) ∙ second.within n there high
  ];
}

-- ---- one line of levels

all_zero : (levels : List Bool) (k : ℕ) → list_any (λ level. level) levels ≡ false → get_or levels k false ≡ false
all_zero [] k none = refl
all_zero (level ∷ levels) zero none = (or_parts level (list_any (λ l. l) levels) none).0
all_zero (level ∷ levels) (suc k) none = all_zero levels k ((or_parts level (list_any (λ l. l) levels) none).1)

-- the levels of a part of the fuses, with a line and without one
line_told : (fuses : List Bool) (first last : ℕ) (levels : List Bool) → first + length levels ≡ last → ((k : ℕ) → k < length levels → get_or levels k false ≡ get_or fuses (first + k) false)
    → Tells fuses first last (field.Levels first levels ∷ [])
line_told fuses first last levels long same = record {
  below = λ n low. rw (lt-leb first n low) refl;
  above = λ n high. rw (le-leb first n (omega arith)) (slice_get_past levels (n - first) (omega arith));
  within = λ n low high. rw (le-leb first n low, slice_get-get_or levels (n - first) false (omega arith)) (same (n - first) (omega arith) ∙ ap (λ (m : ℕ). get_or fuses m false) (omega arith));
}

no_line_told : (fuses : List Bool) (first last : ℕ) (levels : List Bool) → first + length levels ≡ last → ((k : ℕ) → k < length levels → get_or levels k false ≡ get_or fuses (first + k) false)
    → list_any (λ level. level) levels ≡ false → Tells fuses first last []
no_line_told fuses first last levels long same none = record {
  below = λ n low. refl;
  above = λ n high. refl;
  within = λ n low high. sym (all_zero levels (n - first) none) ∙ same (n - first) (omega arith) ∙ ap (λ (m : ℕ). get_or fuses m false) (omega arith);
}

part_same : (fuses : List Bool) (from to k : ℕ) → k < to - from → get_or (slice_range fuses from to) k false ≡ get_or fuses (from + k) false
part_same fuses from to k within = get_or-take (to - from) (drop from fuses) k false within ∙ get_or-drop from fuses k false

part_length : (fuses : List Bool) (from to : ℕ) → to ≤ length fuses → length (slice_range fuses from to) ≡ to - from
part_length fuses from to within = length-take-le (to - from) (drop from fuses) (omega (arith, length-drop from fuses))

part_told : (fuses : List Bool) (from to : ℕ) → from ≤ to → to ≤ length fuses → Tells fuses from to (levels_fields from (slice_range fuses from to))
part_told fuses from to order within =
    let long = part_length fuses from to within in
    let same = λ (k : ℕ) (low : k < length (slice_range fuses from to)). part_same fuses from to k (omega arith) in
    elim (cases_Bool (list_any (λ level. level) (slice_range fuses from to))) [
      | inl any ↦ rw any (line_told fuses from to (slice_range fuses from to) (omega arith) same)
      | inr none ↦ rw none (no_line_told fuses from to (slice_range fuses from to) (omega arith) same none)
    ]

-- ---- all of them

rows_told : (fuses : List Bool) (columns rows : ℕ) → columns * rows ≤ length fuses → Tells fuses 0 (columns * rows) (row_fields columns fuses rows)
rows_told fuses columns zero fits =
    let here : Tells fuses 0 0 [] = tells_none 0 [] (λ n. refl) in
    let none : 0 ≡ columns * 0 = omega arith in
    subst (λ (m : ℕ). Tells fuses 0 m []) none here
rows_told fuses columns (suc rows) fits =
    let row = levels_fields (columns * rows) (slice_range fuses (columns * rows) (columns * rows + columns)) in
    let more : columns * rows + columns ≡ columns * suc rows = omega arith in
    subst (λ (m : ℕ). Tells fuses 0 m (row_fields columns fuses rows ++ row)) more
    (tells_both 0 (columns * rows) (columns * rows + columns) (row_fields columns fuses rows) row (omega arith) (omega arith)
    (rows_told fuses columns rows (omega arith))
    (part_told fuses (columns * rows) (columns * rows + columns) (omega arith) (omega arith)))

-- the later of two ends
abbrev later : ℕ → ℕ → ℕ
later from to = if nat_lt from to then to else from

later_is : (from to : ℕ) → from ≤ later from to
later_is from to = grind (arith, nat_tests)

end_told : (fuses : List Bool) (from to : ℕ) → from ≤ length fuses → to ≤ length fuses → Tells fuses from (later from to) (levels_fields from (slice_range fuses from to))
end_told fuses from to low high = elim (cases_lt from to) [
  | inl more ↦ rw (lt-ltb from to more) (part_told fuses from to (omega arith) high)
  | inr none ↦
      let nothing : to - from ≡ 0 = omega arith in
      rw (le-ltb from to none, nothing) (tells_none from [] (λ n. refl))
]

-- no control fuse is past the device's
past_within : (ns : List ℕ) (m : ℕ) → All (λ n. n < m) ns → past ns ≤ m
past_within [] m each = omega arith
past_within (n ∷ ns) m each =
    let first = All-head (λ k. k < m) n ns each in
    let rest = past_within ns m (All-tail (λ k. k < m) n ns each) in
    grind (arith, nat_tests)

all_told : (t : Table) → IsDevice t → (fuses : List Bool) → length fuses ≡ t.fuses → (vectors : List (List ℕ)) → Tells fuses 0 (lines_end t) (written_fields t fuses vectors)
all_told t is fuses long vectors =
    let fits : t.columns * t.rows ≤ t.fuses = is.sizes.array_fits in
    let high = past_within (control_fuses t) t.fuses (All-weaker (IsControlFuse t) (λ n. n < t.fuses) (λ n control. control.below) (control_fuses t) is.control_listed) in
    let order = later_is (t.columns * t.rows) (past (control_fuses t)) in
    let heads = head_fields t vectors in
    let rows = row_fields t.columns fuses t.rows in
    let controls = levels_fields (t.columns * t.rows) (control_levels t fuses) in
    let total = field.FuseSum (fuse_sum_of fuses) ∷ [] in
    let upto_rows = tells_both 0 0 (t.columns * t.rows) heads rows (omega arith) (omega arith)
    (tells_none 0 heads (heads_tell_none t vectors)) (rows_told fuses t.columns t.rows (omega arith)) in
    let upto_controls = tells_both 0 (t.columns * t.rows) (lines_end t) (heads ++ rows) controls (omega arith) order upto_rows
    (end_told fuses (t.columns * t.rows) (past (control_fuses t)) (omega arith) (omega arith)) in
    let upto_sum = tells_both 0 (lines_end t) (lines_end t) (heads ++ rows ++ controls) total (omega arith) (omega arith) upto_controls
    (tells_none (lines_end t) total (λ n. refl)) in
    tells_both 0 (lines_end t) (lines_end t) (heads ++ rows ++ controls ++ total) (vector_fields 1 vectors) (omega arith) (omega arith) upto_sum
    (tells_none (lines_end t) (vector_fields 1 vectors) (λ n. vectors_passed (level_at n) (λ _ _. refl) 1 vectors))
  where
    heads_tell_none : (t : Table) (vectors : List (List ℕ)) (n : ℕ) → last_of (level_at n) (head_fields t vectors) ≡ None
    heads_tell_none t [] n = refl
    heads_tell_none t (vector ∷ vectors) n = refl

-- each fuse of the device, also one that no line names
fuse_told : (t : Table) (fuses : List Bool) (fields : List Field) → IsIntactPastLines t fuses → Tells fuses 0 (lines_end t) fields → (n : ℕ) → get_or fuses n false ≡ unwrap_or (last_of (level_at n) fields) false
fuse_told t fuses fields intact told n = elim (cases_lt n (lines_end t)) [
  | inl here ↦ sym (told.within n (omega arith) here)
  | inr there ↦
      let zero_there = all_zero (drop (lines_end t) fuses) (n - lines_end t) intact in
      let place : lines_end t + (n - lines_end t) ≡ n = omega arith in
      rw (told.above n there) (sym (get_or-drop (lines_end t) fuses (n - lines_end t) false ∙ ap (λ (m : ℕ). get_or fuses m false) place) ∙ zero_there)
]

pub levels_told : (t : Table) → IsDevice t → (fuses : List Bool) → length fuses ≡ t.fuses → IsIntactPastLines t fuses → (vectors : List (List ℕ)) → fuses_said t (written_fields t fuses vectors) t.fuses false ≡ fuses
unfolding fuses_said
levels_told t is fuses long intact vectors =
    let fields = written_fields t fuses vectors in
    let told = all_told t is fuses long vectors in
    sym (fill_by_all (λ (n : ℕ). if nat_lt n t.fuses then unwrap_or (last_of (level_at n) fields) false else false) fuses t.fuses false long
    (λ n within. rw (lt-ltb n t.fuses within) (fuse_told t fuses fields intact told n)))
