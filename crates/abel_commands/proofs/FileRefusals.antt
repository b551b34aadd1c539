-- Reading a fuse file is never refused for lack of memory: that is no refusal.
use Rattle.std.proofs.Common.{◌≡◌, ◌≢◌, ℕ, ◌+◌, ◌-◌, ◌==◌, Bool, true, false, cond, ◌||◌, List, [], ◌∷◌, length, take, drop, Option, Some, None, Ok, Err, refl, sym, ap, ◌∙◌, subst, codes, position, sum, ◌%◌, ◌^◌}
use Rattle.abel_commands.proofs.Common.{true≢false, Field, JedecFault, behind_design, field_at, fields_from, fields_of, no_field, pieces, ETX, STX, byte, check_sum, four_hex_value, frame_of, length_of, start_of, sum_at, FuseFile, contents_of, default_fuse, default_of, default_said, file_of, first_unlisted, fuse_count, fuse_sum_read, fuses_said, is_size, last_of, none_unlisted, size_of, size_said, sum_agrees, sum_said, fuse_sum_of, Read, ◌>>=◌, some_or, Table}
use Rattle.jedec_file.specs.declared.jedec_fault.JedecFault.TheVariants as fault
use Rattle.jedec_file.specs.Fields.{field_of, is_field_letter, trimmed}

-- a refusal is for the bytes, and not for lack of memory
abbrev is_refusal : JedecFault → Bool
is_refusal fault.NoStart = true
is_refusal fault.NoEnd = true
is_refusal (fault.FileSum read found) = true
is_refusal (fault.BadField at) = true
is_refusal (fault.UnsupportedField at) = true
is_refusal fault.WrongSize = true
is_refusal (fault.Unlisted fuse) = true
is_refusal (fault.FuseSum read found) = true
is_refusal fault.OutOfMemory = false

abbrev Refuses : {A : Type 0} → Read A → Type 0
Refuses (Ok x) = Unit {0}
Refuses (Err e) = is_refusal e ≡ true

behind : {A B : Type 0} (first : Read A) (next : A → Read B) → Refuses first → ((x : A) → Refuses (next x)) → Refuses (first >>= next)
behind (Ok x) next one all = all x
behind (Err e) next one all = one

of_either : {A : Type 0} (b : Bool) (x y : Read A) → Refuses x → Refuses y → Refuses (cond b x y)
of_either true x y one other = one
of_either false x y one other = other

of_option : {A : Type 0} (e : JedecFault) (o : Option A) → is_refusal e ≡ true → Refuses (some_or e o)
of_option e (Some x) is = tt
of_option e None is = is

-- ---- the frame

of_start : (bytes : List ℕ) → Refuses (start_of bytes)
unfolding start_of
of_start bytes = of_option fault.NoStart (position (λ b. b == STX) bytes) refl

of_length : (bytes : List ℕ) → Refuses (length_of bytes)
unfolding length_of
of_length bytes = of_option fault.NoEnd (position (λ b. b == ETX) bytes) refl

of_digits : (bytes : List ℕ) → Refuses (sum_at bytes)
unfolding sum_at
of_digits bytes = of_option fault.NoEnd (four_hex_value (take 4 bytes)) refl

of_sum : (read : ℕ) (bytes : List ℕ) → Refuses (check_sum read bytes)
unfolding check_sum
of_sum read bytes =
    of_either (sum bytes % 2 ^ 16 == read || read == 0) (Ok read) (Err (fault.FileSum read (sum bytes % 2 ^ 16))) tt refl

of_frame : (bytes : List ℕ) → Refuses (frame_of bytes)
unfolding frame_of
of_frame bytes =
    behind (start_of bytes) _ (of_start bytes) (λ start.
    behind (length_of (drop (start + 1) bytes)) _ (of_length (drop (start + 1) bytes)) (λ len.
    behind (sum_at (drop (start + len + 2) bytes)) _ (of_digits (drop (start + len + 2) bytes)) (λ read.
    behind (check_sum read (take (len + 2) (drop start bytes))) _ (of_sum read (take (len + 2) (drop start bytes))) (λ checked. tt))))

-- ---- the fields

of_field : (t : Table) (at : ℕ) (piece : List ℕ) → Refuses (field_at t at piece)
unfolding field_at
of_field t at [] = refl
of_field t at (letter ∷ text) =
    of_either (letter == byte (codes "K")) (Err (fault.UnsupportedField at)) (some_or (fault.BadField at) (field_of t letter text))
    refl (of_option (fault.BadField at) (field_of t letter text) refl)

of_last : (at ends : ℕ) (piece : List ℕ) → Refuses (no_field at ends piece)
unfolding no_field
of_last at ends [] = tt
of_last at ends (letter ∷ text) =
    of_either (letter == byte (codes "K")) (Err (fault.UnsupportedField at)) (cond (is_field_letter letter) (Err (fault.BadField ends)) (Err (fault.BadField at)))
    refl (of_either (is_field_letter letter) (Err (fault.BadField ends)) (Err (fault.BadField at)) refl refl)

of_fields : (t : Table) (at : ℕ) (pieces : List (List ℕ)) → Refuses (fields_from t at pieces)
unfolding fields_from
of_fields t at [] = tt
of_fields t at (piece ∷ []) = of_last (at + (length piece - length (trimmed piece))) (at + length piece) (trimmed piece)
of_fields t at (piece ∷ next ∷ rest) =
    behind (field_at t (at + (length piece - length (trimmed piece))) (trimmed piece)) _ (of_field t (at + (length piece - length (trimmed piece))) (trimmed piece)) (λ field.
    behind (fields_from t (at + length piece + 1) (next ∷ rest)) _ (of_fields t (at + length piece + 1) (next ∷ rest)) (λ fields. tt))

of_design : (t : Table) (at : ℕ) (pieces : List (List ℕ)) → Refuses (behind_design t at pieces)
unfolding behind_design
of_design t at [] = tt
of_design t at (design ∷ []) = refl
of_design t at (design ∷ next ∷ rest) = of_fields t (at + length design + 1) (next ∷ rest)

-- ---- the file

of_size : (t : Table) (fields : List Field) (said : Option ℕ) → Refuses (size_said t fields said)
of_size t fields None = refl
of_size t fields (Some n) = of_either (is_size t fields n) (Ok n) (Err fault.WrongSize) tt refl

of_unlisted : (first : Option ℕ) → Refuses (none_unlisted first)
of_unlisted None = tt
of_unlisted (Some n) = refl

of_default : (fields : List Field) (listed : ℕ) (said : Option Bool) → Refuses (default_said fields listed said)
of_default fields listed (Some level) = tt
of_default fields listed None = of_unlisted (first_unlisted fields listed)

of_fuse_sum : (said : Option ℕ) (found : ℕ) → Refuses (sum_agrees said found)
of_fuse_sum None found = tt
of_fuse_sum (Some read) found = of_either (read == found) (Ok found) (Err (fault.FuseSum read found)) tt refl

of_contents : (t : Table) (fields : List Field) → Refuses (contents_of t fields)
unfolding contents_of size_of default_of fuse_sum_read
of_contents t fields =
    behind (size_of t fields) _ (of_size t fields (last_of fuse_count fields)) (λ listed.
    behind (default_of fields listed) _ (of_default fields listed (last_of default_fuse fields)) (λ default.
    behind (fuse_sum_read fields listed (fuses_said t fields listed default)) _ (of_fuse_sum (last_of sum_said fields) (fuse_sum_of (take listed (fuses_said t fields listed default)))) (λ said. tt)))

of_file : (t : Table) (bytes : List ℕ) → Refuses (file_of t bytes)
unfolding file_of
of_file t bytes =
    behind (frame_of bytes) _ (of_frame bytes) (λ framed.
    behind (fields_of t framed) _ (of_design t framed.at (pieces framed.text)) (λ fields. of_contents t fields))

pub never_memory : (t : Table) (bytes : List ℕ) (e : JedecFault) → file_of t bytes ≡ Err e → e ≢ fault.OutOfMemory
never_memory t bytes e is memory = true≢false (sym (subst (λ (r : Read FuseFile). Refuses r) (is ∙ ap (λ (x : JedecFault). Err x) memory) (of_file t bytes)))
