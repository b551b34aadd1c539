-- A fuse file with fuses of another device in place of its own (fields and sums: JESD3-C; which lines there are, and in which
-- order, is this project's rule).
use Rattle.std.specs.Prelude.{◌≡◌, ◌==◌, not, true, ℕ, Bool, List, [], ◌∷◌, ◌++◌, codes, Ok}
use Rattle.std.specs.List.{list_all}
use Rattle.std.specs.Fmt.{decimal}
use Rattle.spliced_files.specs.Prelude.{control_line, device_text, ETX, four_hex, frame_of, FuseFile, fuse_sum_of, line, pieces, Read, row_lines, space, STX, Table, with_sum, ◌>>=◌}
use Rattle.spliced_files.specs.Header.{design_of, title_of}
use Rattle.spliced_files.specs.Kept.{behind_first, kept_lines}

-- no byte of the text ends it
abbrev pub HasNoEnd : List ℕ → Type 0
HasNoEnd text = list_all (λ b. not (b == ETX)) text ≡ true

-- the lines of the canonical file of a name and fuses, without vectors
abbrev pub head_of : Table → (name : List ℕ) → (fuses : List Bool) → List ℕ
head_of t name fuses =
    line (STX ∷ codes "ABEL-HDL " ++ name ++ space ∷ device_text t.name)
    ++ line (codes "QP" ++ decimal t.pins)
    ++ line (codes "QF" ++ decimal t.fuses)
    ++ line (codes "F0")
    ++ line (codes "G0")
    ++ row_lines t.columns fuses t.rows
    ++ control_line t fuses
    ++ line (codes "C" ++ four_hex (fuse_sum_of fuses))

-- the file of these lines and those of the text's fields that are kept
abbrev pub spliced_text : (f t : Table) → (fuses : List Bool) → (text : List ℕ) → List ℕ
spliced_text f t fuses text =
    with_sum (head_of t (title_of (design_of text) (device_text f.name)) fuses ++ kept_lines (behind_first (pieces text)) ++ ETX ∷ [])

-- the file of the bytes' text, or why they have none
abbrev pub spliced : (f t : Table) → (fuses : List Bool) → (bytes : List ℕ) → Read (List ℕ)
spliced f t fuses bytes = frame_of bytes >>= λ framed. Ok (spliced_text f t fuses framed.text)

-- what a file says with these fuses in place of its own
abbrev pub with_fuses : Table → (fuses : List Bool) → FuseFile → FuseFile
with_fuses t fuses file = record {
  fuses = fuses;
  listed = t.fuses;
  vectors = file.vectors;
  default_level = file.default_level;
}
