-- Cubes: products of literals as sets of points (sum-of-products form; which numbers represent a cube is this
-- project's rule). A point is a list of levels, variable 0 first.
use Rattle.std.specs.Prelude.{ℕ, suc, ◌==◌, ◌<◌, ◌≤◌, ◌^◌, Bool, true, false, not, ◌&&◌, List, [], ◌∷◌, bit_and, bit_or, All}
use Rattle.std.specs.Int.{bit_at, bit_not, w32}
use Rattle.std.specs.List.{list_any}
use Rattle.covers.specs.declared.cube.Cube.{Cube}

-- a level is what two bits ask of it: the first asks 1, the second 0
abbrev pub fits : ℕ → ℕ → Bool → Bool
fits asks_one asks_zero true = asks_zero == 0
fits asks_one asks_zero false = asks_one == 0

-- the point, whose first level is that of variable v, is in the cube
abbrev pub has_from : ℕ → Cube → List Bool → Bool
has_from v c [] = true
has_from v c (x ∷ xs) = fits (bit_at c.yes v) (bit_at c.no v) x && has_from (suc v) c xs

-- the point is in the cube: each variable has the level that the cube asks
abbrev pub has_point : Cube → List Bool → Bool
has_point c p = has_from 0 c p

-- the point is in some cube of the list: the OR of the products is 1
abbrev pub covers : List Cube → List Bool → Bool
covers cubes p = list_any (λ c. has_point c p) cubes

-- the cube asks some variable at both levels, so it has no point
abbrev pub is_empty : Cube → Bool
is_empty c = not (bit_and c.yes c.no == 0)

-- the first asks all that the second asks, so each of its points is in the second
abbrev pub lies_in : Cube → Cube → Bool
lies_in c d = bit_and c.yes d.yes == d.yes && bit_and c.no d.no == d.no

-- no literal of the first is the opposite of one of the second
abbrev pub meets : Cube → Cube → Bool
meets c d = bit_and c.yes d.no == 0 && bit_and c.no d.yes == 0

-- the cube that asks nothing
abbrev pub full_cube : Cube
full_cube = record { yes = 0; no = 0 }

-- it is that cube
abbrev pub is_full : Cube → Bool
is_full c = c.yes == 0 && c.no == 0

-- the cube of one literal: this variable at this level
abbrev pub literal_cube : ℕ → Bool → Cube
literal_cube v true = record { yes = 2 ^ v; no = 0 }
literal_cube v false = record { yes = 0; no = 2 ^ v }

-- the cube has this literal
abbrev pub asks : ℕ → Bool → Cube → Bool
asks v true c = bit_at c.yes v == 1
asks v false c = bit_at c.no v == 1

-- all literals of two cubes: its points are those of both
abbrev pub union : Cube → Cube → Cube
union c d = record { yes = bit_or c.yes d.yes; no = bit_or c.no d.no }

-- the second cube without the literals of the first
abbrev pub without : Cube → Cube → Cube
without c d = record { yes = bit_and d.yes (bit_not w32 c.yes); no = bit_and d.no (bit_not w32 c.no) }

-- each literal of the second at the first variables is one of the first: the second has all points of the first
abbrev pub Grows : ℕ → Cube → Cube → Type 0
Grows vars c d = (v : ℕ) → v < vars → (bit_at d.yes v ≤ bit_at c.yes v) × (bit_at d.no v ≤ bit_at c.no v)

-- the cube asks no variable at or past the number
abbrev pub AsksBelow : ℕ → Cube → Type 0
AsksBelow vars c = (c.yes < 2 ^ vars) × (c.no < 2 ^ vars)

-- no cube of the list does
abbrev pub AllAskBelow : ℕ → List Cube → Type 0
AllAskBelow vars cubes = All (AsksBelow vars) cubes
