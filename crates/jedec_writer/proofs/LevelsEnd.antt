-- No level that the canonical file says is past the fuses.
use Rattle.std.proofs.Common.{◌≡◌, ℕ, zero, suc, ◌+◌, ◌*◌, ◌≤◌, Bool, true, List, [], ◌∷◌, ◌++◌, length, refl, arith, inl, inr, slice_range}
use Rattle.jedec_writer.proofs.Common.{list_all, list_any, cases_Bool, le-leb, Table, fuse_sum_of, control_levels, past, control_fuses, ends_by}
use Rattle.jedec_file.specs.declared.field.Field.TheVariants as field
use Rattle.jedec_writer.proofs.Words.{both_pass}
use Rattle.jedec_writer.proofs.LinesRead.{levels_fields, row_fields, vector_fields, part_ends}
use Rattle.jedec_writer.proofs.TextRead.{written_fields}
use Rattle.jedec_writer.proofs.LastSaid.{head_fields}

levels_end : (n first : ℕ) (levels : List Bool) → first + length levels ≤ n → list_all (ends_by n) (levels_fields first levels) ≡ true
levels_end n first levels fits = elim (cases_Bool (list_any (λ level. level) levels)) [
  | inl any ↦ rw (any, le-leb (first + length levels) n fits) refl
  | inr none ↦ rw none refl
]

rows_end : (n columns : ℕ) (fuses : List Bool) (rows : ℕ) → length fuses ≡ n → columns * rows ≤ n → list_all (ends_by n) (row_fields columns fuses rows) ≡ true
rows_end n columns fuses zero long fits = refl
rows_end n columns fuses (suc rows) long fits =
    let first : columns * rows ≤ n = omega arith in
    let past = part_ends fuses (columns * rows) (columns * rows + columns) (omega arith) in
    both_pass (ends_by n) (row_fields columns fuses rows) (levels_fields (columns * rows) (slice_range fuses (columns * rows) (columns * rows + columns)))
    (rows_end n columns fuses rows long first)
    (levels_end n (columns * rows) (slice_range fuses (columns * rows) (columns * rows + columns)) (omega arith))

vectors_end : (n from : ℕ) (vectors : List (List ℕ)) → list_all (ends_by n) (vector_fields from vectors) ≡ true
vectors_end n from [] = refl
vectors_end n from (vector ∷ vectors) = vectors_end n (suc from) vectors

heads_end : (n : ℕ) (t : Table) (vectors : List (List ℕ)) → list_all (ends_by n) (head_fields t vectors) ≡ true
heads_end n t [] = refl
heads_end n t (vector ∷ vectors) = refl

pub all_end : (t : Table) (fuses : List Bool) (vectors : List (List ℕ)) → length fuses ≡ t.fuses → t.columns * t.rows ≤ t.fuses → list_all (ends_by t.fuses) (written_fields t fuses vectors) ≡ true
all_end t fuses vectors long fits =
    let past = part_ends fuses (t.columns * t.rows) (past (control_fuses t)) (omega arith) in
    let test = ends_by t.fuses in
    let rows = row_fields t.columns fuses t.rows in
    let controls = levels_fields (t.columns * t.rows) (control_levels t fuses) in
    let total = field.FuseSum (fuse_sum_of fuses) ∷ [] in
    let upto_rows = both_pass test (head_fields t vectors) rows (heads_end t.fuses t vectors) (rows_end t.fuses t.columns fuses t.rows long fits) in
    let upto_controls = both_pass test (head_fields t vectors ++ rows) controls upto_rows (levels_end t.fuses (t.columns * t.rows) (control_levels t fuses) (omega arith)) in
    let upto_sum = both_pass test (head_fields t vectors ++ rows ++ controls) total upto_controls refl in
    both_pass test (head_fields t vectors ++ rows ++ controls ++ total) (vector_fields 1 vectors) upto_sum (vectors_end t.fuses 1 vectors)
