-- Line ends of CR LF, which a copy as text may have changed to LF (this project's rule).
use Rattle.std.specs.Prelude.{ℕ, ◌==◌, ◌&&◌, not, if◌then◌else◌, List, [], ◌∷◌, ◌++◌}

abbrev pub CR : ℕ
CR = 13

abbrev pub LF : ℕ
LF = 10

-- a byte after another one, with a CR before it if it is an LF that has none
abbrev pub ended : (previous byte : ℕ) → List ℕ
ended previous byte = if byte == LF && not (previous == CR) then CR ∷ LF ∷ [] else byte ∷ []

-- the bytes after this one so
abbrev pub line_ends_after : (previous : ℕ) → List ℕ → List ℕ
line_ends_after previous [] = []
line_ends_after previous (b ∷ bs) = ended previous b ++ line_ends_after b bs

-- all bytes so
abbrev pub with_line_ends : List ℕ → List ℕ
with_line_ends = line_ends_after 0
