-- The canonical fuse file (fields and sums: JESD3-C; which lines there are, and in which order, is this
-- project's rule).
use Rattle.std.specs.Prelude.{◌≡◌, ◌==◌, ◌||◌, not, true, ℕ, zero, suc, ◌+◌, ◌*◌, ◌%◌, ◌^◌, Bool, if◌then◌else◌, List, [], ◌∷◌, ◌++◌, map, length, sum, slice_range, codes}
use Rattle.std.specs.List.{list_all, list_any}
use Rattle.std.specs.Fmt.{decimal}
use Rattle.pld_base.specs.DeviceNames.{device_text}
use Rattle.pld_device.specs.Table.{Table}
use Rattle.jedec_file.specs.ControlLines.{control_levels}
use Rattle.jedec_file.specs.FileText.{STX, ETX, space, asterisk, four_digits, four_hex, level_char, line}
use Rattle.jedec_file.specs.FuseSums.{fuse_sum_of}

-- the line of the levels from a fuse on; none if all are 0
abbrev pub levels_line : ℕ → List Bool → List ℕ
levels_line first levels =
    if list_any (λ level. level) levels
    then line (codes "L" ++ four_digits first ++ space ∷ map level_char levels)
    else []

-- the line of a row
abbrev pub row_line : ℕ → List Bool → ℕ → List ℕ
row_line columns fuses row = levels_line (columns * row) (slice_range fuses (columns * row) (columns * row + columns))

-- the lines of the first rows
unfoldable pub row_lines : ℕ → List Bool → ℕ → List ℕ
row_lines columns fuses zero = []
row_lines columns fuses (suc rows) = row_lines columns fuses rows ++ row_line columns fuses rows

-- the line of the control fuses
abbrev pub control_line : Table → List Bool → List ℕ
control_line t fuses = levels_line (t.columns * t.rows) (control_levels t fuses)

-- a line that only a file with vectors has
abbrev pub line_with : List (List ℕ) → List ℕ → List ℕ
line_with [] text = []
line_with (vector ∷ vectors) text = line text

-- the lines of the vectors, the first of which has this number
abbrev pub vector_lines : ℕ → List (List ℕ) → List ℕ
vector_lines n [] = []
vector_lines n (vector ∷ vectors) =
    line (codes "V" ++ four_digits n ++ space ∷ vector) ++ vector_lines (suc n) vectors

-- from the start byte up to the end byte
abbrev pub canonical_body : Table → (name : List ℕ) → (fuses : List Bool) → (vectors : List (List ℕ)) → List ℕ
canonical_body t name fuses vectors =
    line (STX ∷ codes "ABEL-HDL " ++ name ++ space ∷ device_text t.name)
    ++ line (codes "QP" ++ decimal t.pins)
    ++ line (codes "QF" ++ decimal t.fuses)
    ++ line_with vectors (codes "QV" ++ decimal (length vectors))
    ++ line (codes "F0")
    ++ line (codes "G0")
    ++ line_with vectors (codes "X0")
    ++ row_lines t.columns fuses t.rows
    ++ control_line t fuses
    ++ line (codes "C" ++ four_hex (fuse_sum_of fuses))
    ++ vector_lines 1 vectors
    ++ ETX ∷ []

-- a text with its transmission sum
abbrev pub with_sum : List ℕ → List ℕ
with_sum body = body ++ four_hex (sum body % 2 ^ 16)

-- the whole file; each vector is the list of its characters, from pin 1 to the last pin
abbrev pub canonical_file : Table → (name : List ℕ) → (fuses : List Bool) → (vectors : List (List ℕ)) → List ℕ
canonical_file t name fuses vectors = with_sum (canonical_body t name fuses vectors)

-- a name that ends neither its field nor the text
abbrev pub IsPlainName : List ℕ → Type 0
IsPlainName name = list_all (λ b. not (b == asterisk || b == ETX)) name ≡ true
