-- Bytes that are a fuse file once they are repaired (this project's rule).
use Rattle.std.specs.Prelude.{◌≡◌, ℕ, ◌⊎◌, All, Bool, false, List, [], ◌∷◌, ◌++◌, length, codes, Ok, ⊤}
use Rattle.fuse_forms.specs.Prelude.{ETX, STX, FuseFile, Table, contents, file_of, four_hex}
use Rattle.fuse_forms.specs.LineEnds.{with_line_ends}
use Rattle.fuse_forms.specs.declared.finding.Finding.{Finding}
use Rattle.fuse_forms.specs.declared.finding.Finding.TheVariants as finding
use Rattle.fuse_forms.specs.declared.repairs.RepairedFile.{RepairedFile}

-- an end byte is put into the text, and a sum of 0000, which counts for nothing, behind it
pub record HasEnd (old new : List ℕ) : Type 0 where
  pub front : List ℕ
  pub rest : List ℕ
  pub was : old ≡ front ++ rest
  pub is : new ≡ front ++ ETX ∷ rest ++ codes "0000"

-- the four bytes after a mark are replaced by the digits of this sum
pub record HasSum (mark found : ℕ) (old new : List ℕ) : Type 0 where
  pub front : List ℕ
  pub digits : List ℕ
  pub rest : List ℕ
  pub four : length digits ≡ 4
  pub was : old ≡ front ++ mark ∷ digits ++ rest
  pub is : new ≡ front ++ mark ∷ four_hex found ++ rest

-- so the fuse sum of a field C, and then maybe the transmission sum
abbrev pub HasFuseSum : (found : ℕ) → (old new : List ℕ) → Type 0
HasFuseSum found old new =
    (next : List ℕ) × HasSum 67 found old next × ((new ≡ next) ⊎ ((sum : ℕ) × HasSum ETX sum next new))

-- by what was found the text becomes this one
abbrev pub IsRepaired : Finding → (old new : List ℕ) → Type 0
IsRepaired finding.NoStart old new = new ≡ STX ∷ old
IsRepaired finding.NoEnd old new = HasEnd old new
IsRepaired finding.LineEnds old new = new ≡ with_line_ends old
IsRepaired (finding.FileSum read found) old new = HasSum ETX found old new
IsRepaired (finding.FuseSum read found) old new = HasFuseSum found old new

-- by one finding after another
abbrev pub AreRepaired : List Finding → (old new : List ℕ) → Type 0
AreRepaired [] old new = new ≡ old
AreRepaired (f ∷ fs) old new = (next : List ℕ) × IsRepaired f old next × AreRepaired fs next new

-- the bytes are then a fuse file that says this
abbrev pub IsReadAfter : Table → List Finding → (bytes : List ℕ) → FuseFile → Type 0
IsReadAfter t findings bytes file = (text : List ℕ) × AreRepaired findings bytes text × (file_of t text ≡ Ok file)

-- ---- sums are mended only if that is asked for

-- no sum is mended
abbrev pub IsHarmless : Finding → Type 0
IsHarmless finding.NoStart = ⊤
IsHarmless finding.NoEnd = ⊤
IsHarmless finding.LineEnds = ⊤
IsHarmless (finding.FileSum read found) = ⊥
IsHarmless (finding.FuseSum read found) = ⊥

-- by these findings, none of which mends a sum unless that is asked for, the bytes become a fuse file that says this
pub record IsMadeBy (t : Table) (mends : Bool) (findings : List Finding) (bytes : List ℕ) (file : FuseFile) : Type 0 where
  pub allowed : mends ≡ false → All IsHarmless findings
  pub read : IsReadAfter t findings bytes file

-- so a file as the code keeps it, with a level for each fuse
abbrev pub IsRepairedFile : Table → (mends : Bool) → (bytes : List ℕ) → RepairedFile → Type 0
IsRepairedFile t mends bytes it =
    IsMadeBy t mends it.findings.items bytes (contents t it.file) × (length it.file.fuses ≡ t.fuses)
