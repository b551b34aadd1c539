-- The canonical file's text is found in it, and read as the fields that were written.
use Rattle.std.proofs.Common.{◌≡◌, ℕ, ◌*◌, ◌^◌, ◌<◌, ◌≤◌, Bool, true, false, List, [], ◌∷◌, ◌++◌, length, Ok, refl, ap, ◌∙◌, arith, append_assoc, codes}
use Rattle.jedec_writer.proofs.Common.{list_all, All, decimal, Field, Table, STX, ETX, space, four_hex, line, fuse_sum_of, control_levels, row_lines, control_line, line_with, vector_lines, canonical_body, canonical_file, with_sum, IsPlainName, IsDevice, frame_of, fields_of}
use Rattle.pld_base.specs.declared.device_name.DeviceName.{DeviceName}
use Rattle.pld_base.specs.DeviceNames.{device_text}
use Rattle.pld_base.proofs.EachDevice.{each_device}
use Rattle.jedec_file.specs.declared.field.Field.TheVariants as field
use Rattle.jedec_writer.proofs.FrameRead.{frame_read}
use Rattle.jedec_writer.proofs.Words.{is_plain, both_pass}
use Rattle.jedec_writer.proofs.SaidBack.{Says, says_both, is_inner, inner_plain, line_before, fields_read}
use Rattle.jedec_writer.proofs.LinesRead.{IsVectorText, levels_fields, row_fields, vector_fields, fields_with, pins_line, fuses_line, count_lines, default_line, security_line, test_level_lines, row_lines_say, control_line_says, sum_line, vector_lines_say}

-- ---- the design text

device_text_is_plain : (name : DeviceName) → list_all is_plain (device_text name) ≡ true
device_text_is_plain = each_device (λ name. list_all is_plain (device_text name)) refl

-- the design text of the canonical file
abbrev pub design_text : Table → List ℕ → List ℕ
design_text t name = codes "ABEL-HDL " ++ name ++ space ∷ device_text t.name

pub design_is_plain : (t : Table) (name : List ℕ) → IsPlainName name → list_all is_plain (design_text t name) ≡ true
design_is_plain t name plain = both_pass is_plain name (space ∷ device_text t.name) plain (device_text_is_plain t.name)

-- ---- the lines after it

abbrev pub written_lines : Table → List Bool → List (List ℕ) → List ℕ
written_lines t fuses vectors =
    line (codes "QP" ++ decimal t.pins)
    ++ line (codes "QF" ++ decimal t.fuses)
    ++ line_with vectors (codes "QV" ++ decimal (length vectors))
    ++ line (codes "F0")
    ++ line (codes "G0")
    ++ line_with vectors (codes "X0")
    ++ row_lines t.columns fuses t.rows
    ++ control_line t fuses
    ++ line (codes "C" ++ four_hex (fuse_sum_of fuses))
    ++ vector_lines 1 vectors

abbrev pub written_fields : Table → List Bool → List (List ℕ) → List Field
written_fields t fuses vectors =
    (field.PinCount t.pins ∷ [])
    ++ (field.FuseCount t.fuses ∷ [])
    ++ fields_with vectors field.Passed
    ++ (field.DefaultFuse false ∷ [])
    ++ (field.Passed ∷ [])
    ++ fields_with vectors (field.DefaultTest false)
    ++ row_fields t.columns fuses t.rows
    ++ levels_fields (t.columns * t.rows) (control_levels t fuses)
    ++ (field.FuseSum (fuse_sum_of fuses) ∷ [])
    ++ vector_fields 1 vectors

pub lines_say : (t : Table) → IsDevice t → (fuses : List Bool) → length fuses ≡ t.fuses → (vectors : List (List ℕ)) → length vectors ≤ 9999 → All (IsVectorText t) vectors → Says t (written_lines t fuses vectors) (written_fields t fuses vectors)
lines_say t is fuses long vectors few each =
    let pins : t.pins < 2 ^ 16 = omega (arith, is.sizes.pins_high) in
    let low : 1 ≤ t.pins = omega (arith, is.sizes.pins_low) in
    let high : t.fuses ≤ 9999 = is.sizes.fuses_high in
    let fits : t.columns * t.rows ≤ t.fuses = is.sizes.array_fits in
    let heads = says_both (says_both (says_both (says_both (pins_line t t.pins pins) (fuses_line t t.fuses (omega arith))) (count_lines t vectors (omega arith))) (default_line t)) (security_line t) in
    let levels = says_both (says_both (says_both heads (test_level_lines t vectors)) (row_lines_say t fuses t.rows long high fits)) (control_line_says t fuses long high fits) in
    says_both (says_both levels (sum_line t (fuse_sum_of fuses) (omega arith))) (vector_lines_say t 1 vectors low (omega arith) (omega arith) each)

-- ---- the whole text

regroup : (a b c d e f g h i j k l : List ℕ) → a ++ b ++ c ++ d ++ e ++ f ++ g ++ h ++ i ++ j ++ k ++ l ≡ (a ++ (b ++ c ++ d ++ e ++ f ++ g ++ h ++ i ++ j ++ k)) ++ l
regroup a b c d e f g h i j k l = simp append_assoc

abbrev pub written_text : Table → List ℕ → List Bool → List (List ℕ) → List ℕ
written_text t name fuses vectors = design_text t name ++ 42 ∷ 13 ∷ 10 ∷ written_lines t fuses vectors

body_is : (t : Table) (name : List ℕ) (fuses : List Bool) (vectors : List (List ℕ)) → canonical_body t name fuses vectors ≡ STX ∷ (written_text t name fuses vectors ++ ETX ∷ [])
body_is t name fuses vectors =
    regroup (line (STX ∷ design_text t name)) (line (codes "QP" ++ decimal t.pins)) (line (codes "QF" ++ decimal t.fuses))
    (line_with vectors (codes "QV" ++ decimal (length vectors))) (line (codes "F0")) (line (codes "G0")) (line_with vectors (codes "X0"))
    (row_lines t.columns fuses t.rows) (control_line t fuses) (line (codes "C" ++ four_hex (fuse_sum_of fuses))) (vector_lines 1 vectors) (ETX ∷ [])
    ∙ ap (λ (bs : List ℕ). bs ++ ETX ∷ []) (line_before (STX ∷ design_text t name) (written_lines t fuses vectors))

pub text_found : (t : Table) (name : List ℕ) → IsPlainName name → (fuses : List Bool) (vectors : List (List ℕ)) → Says t (written_lines t fuses vectors) (written_fields t fuses vectors)
    → frame_of (canonical_file t name fuses vectors) ≡ Ok (record { at = 1; text = written_text t name fuses vectors })
text_found t name plain fuses vectors says =
    let inner = both_pass is_inner (design_text t name) (42 ∷ 13 ∷ 10 ∷ written_lines t fuses vectors) (inner_plain (design_text t name) (design_is_plain t name plain)) says.inner in
    ap (λ (bs : List ℕ). frame_of (with_sum bs)) (body_is t name fuses vectors) ∙ frame_read (written_text t name fuses vectors) inner

pub fields_found : (t : Table) (name : List ℕ) → IsPlainName name → (fuses : List Bool) (vectors : List (List ℕ)) → Says t (written_lines t fuses vectors) (written_fields t fuses vectors)
    → fields_of t (record { at = 1; text = written_text t name fuses vectors }) ≡ Ok (written_fields t fuses vectors)
fields_found t name plain fuses vectors says =
    fields_read t 1 (design_text t name) (written_lines t fuses vectors) (written_fields t fuses vectors) (design_is_plain t name plain) says
