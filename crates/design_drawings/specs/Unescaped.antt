-- What a reader of the page gets back (HTML standard, character references).
use Rattle.std.specs.Prelude.{ℕ, ◌≡◌, ◌≢◌, List, [], ◌∷◌, ◌++◌, All}
use Rattle.design_drawings.specs.Escaped.{escaped, escaped_byte}

-- a page's text reads as these bytes: each is escaped, one after the other
abbrev pub ReadsAs : (text bytes : List ℕ) → Type 0
ReadsAs text [] = text ≡ []
ReadsAs text (byte ∷ bytes) = (rest : List ℕ) × (text ≡ escaped_byte byte ++ rest) × ReadsAs rest bytes

-- a byte that no text of a page has: it would begin or end a tag, or end an attribute
abbrev pub IsNoMarkup : ℕ → Type 0
IsNoMarkup byte = (byte ≢ 60) × (byte ≢ 62) × (byte ≢ 34) × (byte ≢ 39)

-- the text between tags has no markup of its own, and reads as just the bytes that were escaped
abbrev pub EscapedTextsReadBack : Type 0
EscapedTextsReadBack =
    (bytes : List ℕ) → All IsNoMarkup (escaped bytes) × ReadsAs (escaped bytes) bytes
    × ((others : List ℕ) → ReadsAs (escaped bytes) others → others ≡ bytes)
