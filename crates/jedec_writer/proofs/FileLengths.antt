-- How long the canonical file of a device is at most.
use Rattle.std.proofs.Common.{◌≡◌, ℕ, zero, suc, ◌+◌, ◌-◌, ◌*◌, ◌%◌, ◌^◌, ◌≤◌, Bool, List, [], ◌∷◌, ◌++◌, length, map, drop, sum, refl, ap, arith, inl, inr, codes, slice_range}
use Rattle.jedec_writer.proofs.Common.{All, All-cons, All-head, All-nil, All-tail, decimal, list_any, cases_Bool, length-map, length-take, Table, IsDevice, Vector, all_chars, chars_of, control_fuses, control_levels, past, control_line, canonical_body, canonical_file, four_digits, four_hex, level_char, levels_line, line, line_with, row_line, row_lines, space, vector_lines, fuse_sum_of, STX, ETX}
use Rattle.std.proofs.lemmas.List.{length-append}
use Rattle.std.proofs.lemmas.Fmt.{length-decimal-le}
use Rattle.pld_base.proofs.EachDevice.{device_short}
use Rattle.pld_base.specs.DeviceNames.{device_text}
use Rattle.pld_device.specs.Laws.{HasSizes}
use Rattle.jedec_writer.proofs.LinesRead.{part_ends}

-- ---- one line

line_length : (text : List ℕ) → length (line text) ≡ length text + 3
line_length text = length-append text (codes "*\r\n")

levels_length : (first : ℕ) (levels : List Bool) → length (levels_line first levels) ≤ length levels + 9
levels_length first levels = elim (cases_Bool (list_any (λ level. level) levels)) [
  | inl any ↦
      let text : List ℕ = codes "L" ++ four_digits first ++ space ∷ map level_char levels in
      let long : length text ≡ suc (suc (suc (suc (suc (suc (length levels)))))) = ap (λ n. suc (suc (suc (suc (suc (suc n)))))) (length-map levels level_char) in
      rw any (omega (arith, line_length text, long))
  | inr none ↦ rw none (omega arith)
]

vector_length : (n : ℕ) (vector : List ℕ) → length (line (codes "V" ++ four_digits n ++ space ∷ vector)) ≡ length vector + 9
vector_length n vector =
    let text : List ℕ = codes "V" ++ four_digits n ++ space ∷ vector in
    let long : length text ≡ suc (suc (suc (suc (suc (suc (length vector)))))) = refl in
    omega (arith, line_length text, long)

with_length : (vectors : List (List ℕ)) (text : List ℕ) → length (line_with vectors text) ≤ length text + 3
with_length [] text = omega arith
with_length (vector ∷ vectors) text = omega (arith, line_length text)

-- ---- many lines

rows_length : (columns rows : ℕ) (fuses : List Bool) → length (row_lines columns fuses rows) ≤ columns * rows + 9 * rows
unfolding row_lines
rows_length columns zero fuses = omega arith
rows_length columns (suc rows) fuses =
    let before = rows_length columns rows fuses in
    let part : List Bool = slice_range fuses (columns * rows) (columns * rows + columns) in
    let own = levels_length (columns * rows) part in
    let width : length part ≤ columns = omega (arith, length-take (columns * rows + columns - columns * rows) (drop (columns * rows) fuses)) in
    omega (arith, before, own, width, length-append (row_lines columns fuses rows) (row_line columns fuses rows))

few_rows : (columns rows : ℕ) → 2 ≤ columns → 2 * rows ≤ columns * rows
few_rows columns zero wide = omega arith
few_rows columns (suc rows) wide = let before = few_rows columns rows wide in omega (arith, before, wide)

vectors_length : (pins n : ℕ) (vectors : List (List ℕ)) → pins ≤ 24 → All (λ (v : List ℕ). length v ≤ pins) vectors → length (vector_lines n vectors) ≤ 33 * length vectors
vectors_length pins n [] few each = omega arith
vectors_length pins n (vector ∷ vectors) few each =
    let own = vector_length n vector in
    let head = All-head (λ (v : List ℕ). length v ≤ pins) vector vectors each in
    let later = vectors_length pins (suc n) vectors few (All-tail (λ (v : List ℕ). length v ≤ pins) vector vectors each) in
    omega (arith, few, own, head, later, length-append (line (codes "V" ++ four_digits n ++ space ∷ vector)) (vector_lines (suc n) vectors))

-- ---- the file

-- a text of at most so many bytes
record HasAtMost (n : ℕ) (text : List ℕ) : Type 0 where
  few : length text ≤ n

joined : {a b : List ℕ} {m n : ℕ} → HasAtMost m a → HasAtMost n b → HasAtMost (m + n) (a ++ b)
joined {a} {b} first second = let x = first.few in let y = second.few in record { few = omega (arith, length-append a b, x, y) }

-- the line of such a text
one_line : {text : List ℕ} {n : ℕ} → HasAtMost n text → HasAtMost (n + 3) (line text)
one_line {text} has = let few = has.few in record { few = omega (arith, line_length text, few) }

header_length : (t : Table) (name : List ℕ) → length name ≤ 31 → HasAtMost 54 (line (STX ∷ codes "ABEL-HDL " ++ name ++ space ∷ device_text t.name))
header_length t name short =
    let start : HasAtMost 10 (STX ∷ codes "ABEL-HDL ") = record { few = omega arith } in
    let own : HasAtMost 31 name = record { few = short } in
    let device : HasAtMost 10 (space ∷ device_text t.name) = record { few = omega (arith, device_short t.name) } in
    one_line (joined (joined start own) device)

counted_length : (a b n : ℕ) → n ≤ 9999 → HasAtMost 9 (line (a ∷ b ∷ decimal n))
counted_length a b n low =
    let digits = length-decimal-le 4 n (omega arith) (omega (arith, low)) (omega (arith, low)) in
    let text : HasAtMost 6 (a ∷ b ∷ decimal n) = record { few = omega (arith, digits) } in
    one_line text

count_length : (vectors : List (List ℕ)) → length vectors ≤ 9999 → HasAtMost 9 (line_with vectors (codes "QV" ++ decimal (length vectors)))
count_length [] few = record { few = omega arith }
count_length (vector ∷ vectors) few = counted_length 81 86 (length (vector ∷ vectors)) few

-- the lines before those of levels
abbrev heads : Table → (name : List ℕ) → (vectors : List (List ℕ)) → List ℕ
heads t name vectors =
    line (STX ∷ codes "ABEL-HDL " ++ name ++ space ∷ device_text t.name)
    ++ line (codes "QP" ++ decimal t.pins)
    ++ line (codes "QF" ++ decimal t.fuses)
    ++ line_with vectors (codes "QV" ++ decimal (length vectors))
    ++ line (codes "F0")
    ++ line (codes "G0")
    ++ line_with vectors (codes "X0")

heads_length : (t : Table) (name : List ℕ) (vectors : List (List ℕ)) → HasSizes t → length name ≤ 31 → length vectors ≤ 9999 → HasAtMost 96 (heads t name vectors)
heads_length t name vectors sizes short few =
    let high = sizes.pins_high in
    let pins : HasAtMost 9 (line (codes "QP" ++ decimal t.pins)) = counted_length 81 80 t.pins (omega (arith, high)) in
    let fuses : HasAtMost 9 (line (codes "QF" ++ decimal t.fuses)) = counted_length 81 70 t.fuses sizes.fuses_high in
    let levels : HasAtMost 5 (line (codes "F0")) = record { few = omega arith } in
    let security : HasAtMost 5 (line (codes "G0")) = record { few = omega arith } in
    let tested : HasAtMost 5 (line_with vectors (codes "X0")) = record { few = with_length vectors (codes "X0") } in
    let counted = joined (joined (joined (header_length t name short) pins) fuses) (count_length vectors few) in
    joined (joined (joined counted levels) security) tested

-- the text up to its end byte
body_length : (t : Table) (name : List ℕ) (fuses : List Bool) (vectors : List (List ℕ)) → HasSizes t → length fuses ≡ t.fuses → length name ≤ 31
    → length vectors ≤ 9999 → All (λ (v : List ℕ). length v ≤ t.pins) vectors → HasAtMost 395080 (canonical_body t name fuses vectors)
body_length t name fuses vectors sizes long short few each =
    let fits = sizes.array_fits in
    let high = sizes.fuses_high in
    let narrow = few_rows t.columns t.rows sizes.columns_low in
    let within = part_ends fuses (t.columns * t.rows) (past (control_fuses t)) (omega (arith, long, fits)) in
    let rows : HasAtMost 55000 (row_lines t.columns fuses t.rows) = record { few = omega (arith, narrow, fits, high, rows_length t.columns t.rows fuses) } in
    let control : HasAtMost 10008 (control_line t fuses) =
    record { few = omega (arith, long, high, within, levels_length (t.columns * t.rows) (control_levels t fuses)) } in
    let total : HasAtMost 8 (line (codes "C" ++ four_hex (fuse_sum_of fuses))) = record { few = omega arith } in
    let tests : HasAtMost 329967 (vector_lines 1 vectors) = record { few = omega (arith, few, vectors_length t.pins 1 vectors sizes.pins_high each) } in
    let last : HasAtMost 1 (ETX ∷ []) = record { few = omega arith } in
    let levels = joined (joined (heads_length t name vectors sizes short few) rows) control in
    joined (joined (joined levels total) tests) last

narrow_vectors : (t : Table) (vectors : List Vector) → All (λ (v : List ℕ). length v ≤ t.pins) (all_chars t vectors)
narrow_vectors t [] = All-nil (λ (v : List ℕ). length v ≤ t.pins)
narrow_vectors t (vector ∷ vectors) =
    All-cons (λ (v : List ℕ). length v ≤ t.pins) (chars_of t vector) (all_chars t vectors) (omega (arith, length-take t.pins vector.chars)) (narrow_vectors t vectors)

-- a module's name has at most 31 bytes
pub file_is_short : (t : Table) (name : List ℕ) (fuses : List Bool) (vectors : List Vector) → IsDevice t → length fuses ≡ t.fuses → length vectors ≤ 9999
    → length name ≤ 31 → length (canonical_file t name fuses (all_chars t vectors)) ≤ 400000
file_is_short t name fuses vectors is long many short =
    let body = canonical_body t name fuses (all_chars t vectors) in
    let most = body_length t name fuses (all_chars t vectors) is.sizes long short (omega (arith, many, length-map vectors (chars_of t))) (narrow_vectors t vectors) in
    let few = most.few in
    omega (arith, few, length-append body (four_hex (sum body % 2 ^ 16)))
