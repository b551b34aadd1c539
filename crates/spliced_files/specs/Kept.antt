-- Which fields of a fuse file are kept when its fuses are replaced (JESD3-C, the fields of each letter: F, L and C are the
-- fuses and their sum, G the security fuse, E and U further fuses, Q their number; that all others are kept is this project's
-- rule).
use Rattle.std.specs.Prelude.{ℕ, ◌==◌, ◌||◌, not, if◌then◌else◌, Bool, false, List, [], ◌∷◌, ◌++◌, codes}
use Rattle.spliced_files.specs.Prelude.{byte, is_among, line, trimmed}

-- a Q field counts fuses or pins, by the text after its letter
abbrev pub counts_fuses : List ℕ → Bool
counts_fuses [] = false
counts_fuses (kind ∷ text) = kind == byte (codes "F") || kind == byte (codes "P")

-- a field, which begins with its letter, doesn't speak of fuses
abbrev pub is_kept : List ℕ → Bool
is_kept [] = false
is_kept (letter ∷ text) =
    if letter == byte (codes "Q") then not (counts_fuses (trimmed text)) else not (is_among (codes "FLCGEU") letter)

-- its line if it is kept
abbrev pub kept_line : List ℕ → List ℕ
kept_line field = if is_kept field then line field else []

-- the lines of the fields between asterisks that are kept, in their order
abbrev pub kept_lines : List (List ℕ) → List ℕ
kept_lines [] = []
kept_lines (piece ∷ rest) = kept_line (trimmed piece) ++ kept_lines rest

-- what follows the first of the pieces
abbrev pub behind_first : List (List ℕ) → List (List ℕ)
behind_first [] = []
behind_first (piece ∷ rest) = rest
