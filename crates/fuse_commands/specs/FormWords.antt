-- The words after the files of `read` and `write` (this project's rule).
use Rattle.std.specs.Prelude.{ℕ, nat_le, nat_lt, ◌&&◌, length, Bool, true, false, List, [], ◌∷◌, Option, Some, None, option_and_then, option_map, if◌then◌else◌, codes}
use Rattle.std.specs.Str.{bytes_eq}
use Rattle.std.specs.List.{list_all}
use Rattle.form_commands.specs.Writing.{Wanted}
use Rattle.fuse_forms.specs.declared.forms.Form.{Form}
use Rattle.fuse_forms.specs.declared.forms.Form.TheVariants as form

-- ---- [mend]

-- whether sums are to be mended
abbrev pub mends_of : (options : List (List ℕ)) → Option Bool
mends_of [] = Some false
mends_of (word ∷ []) = if bytes_eq word (codes "mend") then Some true else None
mends_of _ = None

-- ---- FORM [sign TEXT] [secured]

abbrev pub form_of : List ℕ → Option Form
form_of word =
    if bytes_eq word (codes "jed") then Some form.Jed
    else if bytes_eq word (codes "jed5828") then Some form.Jed5828
    else if bytes_eq word (codes "jed5893") then Some form.Jed5893
    else if bytes_eq word (codes "bin") then Some form.Bin
    else None

abbrev pub is_printable : ℕ → Bool
is_printable byte = nat_le 32 byte && nat_le byte 126

-- one to eight printable characters
abbrev pub is_signature : List ℕ → Bool
is_signature text = nat_lt 0 (length text) && (nat_lt (length text) 9 && list_all is_printable text)

abbrev pub signature_of : (sign text : List ℕ) → Option (List ℕ)
signature_of sign text = if bytes_eq sign (codes "sign") && is_signature text then Some text else None

-- the binary form has no field that forbids reading
abbrev pub is_securable : Form → Bool
is_securable form.Bin = false
is_securable other = true

abbrev pub wanted : Form → (signature : Option (List ℕ)) → (secured : Bool) → Wanted
wanted it signature secured = record { form = it; signature = signature; secured = secured }

abbrev pub secured : Form → (signature : Option (List ℕ)) → (word : List ℕ) → Option Wanted
secured it signature word = if bytes_eq word (codes "secured") && is_securable it then Some (wanted it signature true) else None

-- what is to be written in a form, by the words after it
abbrev pub wanted_in : Form → (options : List (List ℕ)) → Option Wanted
wanted_in it [] = Some (wanted it None false)
wanted_in it (word ∷ []) = secured it None word
wanted_in it (sign ∷ text ∷ []) = option_map (λ text. wanted it (Some text) false) (signature_of sign text)
wanted_in it (sign ∷ text ∷ word ∷ []) = option_and_then (λ text. secured it (Some text) word) (signature_of sign text)
wanted_in it _ = None

abbrev pub wanted_of : (word : List ℕ) → (options : List (List ℕ)) → Option Wanted
wanted_of word options = option_and_then (λ it. wanted_in it options) (form_of word)
