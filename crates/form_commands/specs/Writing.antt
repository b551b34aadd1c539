-- `write DEVICE IN OUT FORM [sign TEXT] [secured]`: how it ends (this project's rule).
use Rattle.std.specs.Prelude.{◌≡◌, ◌≢◌, ℕ, ◌⊎◌, List, ◌++◌, length, codes, Bool, Option, Some, None, option_map}
use Rattle.form_commands.specs.Prelude.{Ending, Form, FuseFile, IsFileOf, IsGoodFile, IsInForm, IsRefusedFile, Table, contents, decimal, device_text, ends, relisted, signature_of, signed}
use Rattle.form_commands.specs.Reading.{puts}
use Rattle.form_commands.specs.declared.wanted.Wanted as code
use Rattle.fuse_forms.specs.declared.forms.Form.TheVariants as form
use Rattle.jedec_reader.specs.declared.fuse_file.FuseFile as kept

-- what is to be written: a form, the text of the signature if one is given, and whether reading the chip is to be forbidden
pub record Wanted : Type 0 where
  pub form : Form
  pub signature : Option (List ℕ)
  pub secured : Bool

abbrev pub wanted_seen : code.Wanted → Wanted
wanted_seen w = record { form = w.form; signature = option_map (λ text. text.now) w.signature; secured = w.secured }

-- ---- lines

abbrev pub form_text : Form → List ℕ
form_text form.Jed = codes "jed"
form_text form.Jed5828 = codes "jed5828"
form_text form.Jed5893 = codes "jed5893"
form_text form.Bin = codes "bin"

-- the form, and how many bytes it has
abbrev pub wrote_line : Form → (count : ℕ) → List ℕ
wrote_line it count = codes "wrote " ++ form_text it ++ codes " bytes " ++ decimal count ++ codes "\n"

-- the form can't hold the device's file
abbrev pub no_form_line : Table → Form → List ℕ
no_form_line t it = codes "error NoForm " ++ form_text it ++ codes " " ++ device_text t.name ++ codes "\n"

-- the device has no signature
abbrev pub no_signature_line : Table → List ℕ
no_signature_line t = codes "error NoSignature " ++ device_text t.name ++ codes "\n"

-- ---- the file

-- the file that is written: the one that was read, or the same with the text in the device's signature
abbrev pub IsSigned : Table → Option (List ℕ) → (read file : FuseFile) → Type 0
IsSigned t None read file = file ≡ read
IsSigned t (Some text) read file =
    (first : ℕ) × (signature_of t.name ≡ Some first) × (file ≡ relisted read (signed text first read.fuses) read.listed)

-- the bytes are a fuse file of the device, and this is that file, signed as is wanted
abbrev pub IsWanted : Table → Wanted → (bytes : List ℕ) → FuseFile → Type 0
IsWanted t wanted bytes file = (read : FuseFile) × IsFileOf t bytes read × IsSigned t wanted.signature read file

-- the bytes that are written are that file in the form that is wanted
pub record IsWritten (t : Table) (wanted : Wanted) (bytes written : List ℕ) : Type 0 where
  pub file : kept.FuseFile
  pub is : IsWanted t wanted bytes (contents t file)
  pub in_form : IsInForm t wanted.form file written

-- ---- endings

-- IN is a fuse file of the device, which has no signature, though a text for it is given
abbrev pub HasNoSignature : Table → Wanted → (bytes : List ℕ) → Type 0
HasNoSignature t wanted bytes = IsGoodFile t bytes × (wanted.signature ≢ None) × (signature_of t.name ≡ None)

-- how it ends: such bytes are written; IN is no fuse file of the device; it has no signature; or no bytes of this form
abbrev pub WriteEnds : Table → Wanted → (output bytes : List ℕ) → Ending → Type 0
WriteEnds t wanted output bytes e =
    ((written : List ℕ) × IsWritten t wanted bytes written × (e ≡ puts (wrote_line wanted.form (length written)) output written))
    ⊎ (((report : List ℕ) × IsRefusedFile t bytes report × (e ≡ ends 4 report))
    ⊎ ((HasNoSignature t wanted bytes × (e ≡ ends 3 (no_signature_line t)))
    ⊎ (IsGoodFile t bytes × (e ≡ ends 3 (no_form_line t wanted.form)))))
