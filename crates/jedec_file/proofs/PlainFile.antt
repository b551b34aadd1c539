-- The canonical file of a device without control fuses, and without vectors.
use Rattle.std.proofs.Common.{◌≡◌, ℕ, Bool, List, [], ◌∷◌, ◌++◌, refl}
use Rattle.std.proofs.lemmas.List.{append-nil}
use Rattle.std.specs.Prelude.{codes}
use Rattle.std.specs.Fmt.{decimal}
use Rattle.pld_base.specs.DeviceNames.{device_text}
use Rattle.pld_device.specs.Table.{Table}
use Rattle.jedec_file.specs.FuseSums.{fuse_sum_of}
use Rattle.jedec_file.specs.FileText.{STX, ETX, space, line, four_hex}
use Rattle.jedec_file.specs.CanonicalFile.{row_lines, control_line, canonical_body}

-- from the start byte up to the end byte
abbrev pub plain_body : Table → List ℕ → List Bool → List ℕ
plain_body t name fuses =
    line (STX ∷ codes "ABEL-HDL " ++ name ++ space ∷ device_text t.name)
    ++ line (codes "QP" ++ decimal t.pins)
    ++ line (codes "QF" ++ decimal t.fuses)
    ++ line (codes "F0")
    ++ line (codes "G0")
    ++ row_lines t.columns fuses t.rows
    ++ line (codes "C" ++ four_hex (fuse_sum_of fuses))
    ++ ETX ∷ []

-- nothing the place of the lines of vectors and of control fuses
joined : (a b c d e f g h k : List ℕ) → h ≡ [] → (a ++ b ++ c ++ [] ++ d ++ e ++ [] ++ f ++ h ++ g ++ [] ++ k) ≡ (a ++ b ++ c ++ d ++ e ++ f ++ g ++ k)
joined a b c d e f g h k none =
    rw (none, append-nil (a ++ b ++ c), append-nil (a ++ b ++ c ++ d ++ e), append-nil (a ++ b ++ c ++ d ++ e ++ f), append-nil (a ++ b ++ c ++ d ++ e ++ f ++ g)) refl

pub canonical_body-plain : (t : Table) (name : List ℕ) (fuses : List Bool) → control_line t fuses ≡ [] → canonical_body t name fuses [] ≡ plain_body t name fuses
canonical_body-plain t name fuses none =
    joined (line (STX ∷ codes "ABEL-HDL " ++ name ++ space ∷ device_text t.name)) (line (codes "QP" ++ decimal t.pins)) (line (codes "QF" ++ decimal t.fuses))
    (line (codes "F0")) (line (codes "G0")) (row_lines t.columns fuses t.rows) (line (codes "C" ++ four_hex (fuse_sum_of fuses))) (control_line t fuses) (ETX ∷ []) none
