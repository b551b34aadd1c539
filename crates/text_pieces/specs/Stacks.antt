-- Texts that are in pieces.
use Rattle.std.specs.Prelude.{ℕ, List, [], ◌∷◌, ◌++◌, drop}

-- the text of pieces, the first piece first
abbrev pub joined : List (List ℕ) → List ℕ
joined [] = []
joined (p ∷ ps) = p ++ joined ps

-- the text of a stack of pieces, the last piece first
abbrev pub stacked : List (List ℕ) → List ℕ
stacked [] = []
stacked (p ∷ ps) = stacked ps ++ p

-- a text that is looked at: the whole of it, and how much was passed
pub record Look : Type 0 where
  pub whole : List ℕ
  pub passed : ℕ

-- what is ahead
abbrev pub ahead : Look → List ℕ
ahead l = drop l.passed l.whole

-- all but the first byte
abbrev pub rest_of : List ℕ → List ℕ
rest_of [] = []
rest_of (b ∷ bs) = bs
