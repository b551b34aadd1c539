-- The fields of a fuse file's text, one after another, each up to its asterisk (JESD3-C, the design
-- specification field and the fields after it; the place of a refusal is this project's rule).
use Rattle.std.specs.Prelude.{ℕ, ◌+◌, ◌-◌, ◌==◌, if◌then◌else◌, List, [], ◌∷◌, length, codes, Ok, Err}
use Rattle.std.specs.List.{slice_split}
use Rattle.jedec_file.specs.declared.field.Field.{Field}
use Rattle.jedec_file.specs.declared.jedec_fault.JedecFault.TheVariants as fault
use Rattle.pld_device.specs.Table.{Table}
use Rattle.jedec_file.specs.Fields.{trimmed, field_of, is_field_letter}
use Rattle.jedec_file.specs.FileText.{byte, asterisk}
use Rattle.jedec_file.specs.Frame.{Framed}
use Rattle.jedec_file.specs.Refusals.{Read, ◌>>=◌, some_or}

-- what asterisks part
abbrev pub pieces : List ℕ → List (List ℕ)
pieces = slice_split (λ b. b == asterisk)

-- the field whose letter is at the offset
unfoldable pub field_at : Table → ℕ → List ℕ → Read Field
field_at t at [] = Err (fault.BadField at)
field_at t at (letter ∷ text) =
    if letter == byte (codes "K") then Err (fault.UnsupportedField at)
    else some_or (fault.BadField at) (field_of t letter text)

-- after the last asterisk are only blanks; a field there has none, which is refused at the end of the text,
-- unless its letter is refused already
unfoldable pub no_field : (at : ℕ) → (ends : ℕ) → List ℕ → Read (List Field)
no_field at ends [] = Ok []
no_field at ends (letter ∷ text) =
    if letter == byte (codes "K") then Err (fault.UnsupportedField at)
    else if is_field_letter letter then Err (fault.BadField ends)
    else Err (fault.BadField at)

-- the fields of the pieces, of which the first one begins at the offset
unfoldable pub fields_from : Table → ℕ → List (List ℕ) → Read (List Field)
fields_from t at [] = Ok []
fields_from t at (piece ∷ []) = no_field (at + (length piece - length (trimmed piece))) (at + length piece) (trimmed piece)
fields_from t at (piece ∷ next ∷ rest) =
    field_at t (at + (length piece - length (trimmed piece))) (trimmed piece) >>= λ field.
    fields_from t (at + length piece + 1) (next ∷ rest) >>= λ fields.
    Ok (field ∷ fields)

-- the fields after the design text, which has its asterisk
unfoldable pub behind_design : Table → ℕ → List (List ℕ) → Read (List Field)
behind_design t at [] = Ok []
behind_design t at (design ∷ []) = Err (fault.BadField (at + length design))
behind_design t at (design ∷ next ∷ rest) = fields_from t (at + length design + 1) (next ∷ rest)

-- the fields of a file's text
abbrev pub fields_of : Table → Framed → Read (List Field)
fields_of t framed = behind_design t framed.at (pieces framed.text)
