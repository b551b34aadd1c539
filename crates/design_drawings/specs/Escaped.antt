-- Bytes as text of an HTML page (HTML standard, named and numeric character references; that control bytes are shown by
-- their pictures is this project's rule).
use Rattle.std.specs.Prelude.{ℕ, ◌+◌, ◌==◌, ◌||◌, nat_lt, Bool, if◌then◌else◌, List, [], ◌∷◌, ◌++◌, codes, flat_map}
use Rattle.std.specs.Fmt.{decimal}

-- the first of Unicode's pictures of control characters, that of 0
abbrev pub first_picture : ℕ
first_picture = 9216

-- the picture of the byte 127
abbrev pub delete_picture : ℕ
delete_picture = 9249

-- a character by its number
abbrev pub reference : ℕ → List ℕ
reference n = codes "&#" ++ decimal n ++ codes ";"

-- the picture of a control byte
abbrev pub picture : (byte : ℕ) → List ℕ
picture byte = reference (first_picture + byte)

-- tabs and line feeds are as they are
abbrev pub is_blank : (byte : ℕ) → Bool
is_blank byte = byte == 9 || byte == 10

-- a byte that is no markup: a control byte's picture, or itself
abbrev pub plain_byte : (byte : ℕ) → List ℕ
plain_byte byte =
    if is_blank byte then byte ∷ []
    else (if nat_lt byte 32 then picture byte else (if byte == 127 then reference delete_picture else byte ∷ []))

-- a byte as text of a page
abbrev pub escaped_byte : (byte : ℕ) → List ℕ
escaped_byte byte =
    if byte == 60 then codes "&lt;"
    else (if byte == 62 then codes "&gt;"
    else (if byte == 38 then codes "&amp;"
    else (if byte == 34 then codes "&quot;"
    else (if byte == 39 then codes "&#39;" else plain_byte byte))))

-- bytes as text of a page
abbrev pub escaped : List ℕ → List ℕ
escaped bytes = flat_map escaped_byte bytes
