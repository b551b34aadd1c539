-- Unate and binate variables of a cover: asked at one level alone, or at both (unate recursion of two-level logic).
use Rattle.std.specs.Prelude.{ℕ, Bool, zero, suc, ◌+◌, List, [], ◌∷◌, bit_and}
use Rattle.std.specs.Int.{bit_at, bit_not, w32}
use Rattle.covers.specs.declared.cube.Cube.{Cube}
use Rattle.covers.specs.Cubes.{full_cube, literal_cube, union}

-- all literals of a cover
unfoldable pub asked_of : List Cube → Cube
asked_of [] = full_cube
asked_of (c ∷ cubes) = union c (asked_of cubes)

-- the variables that are asked at both levels
abbrev pub binate_of : Cube → ℕ
binate_of asked = bit_and asked.yes asked.no

-- each unate variable at the level that is not asked
abbrev pub opposite_of : Cube → Cube
opposite_of asked = record { yes = bit_and asked.no (bit_not w32 asked.yes); no = bit_and asked.yes (bit_not w32 asked.no) }

-- those and one level of a binate variable: the cube of one branch of the recursion
abbrev pub branch_of : Cube → ℕ → Bool → Cube
branch_of asked v level = union (opposite_of asked) (literal_cube v level)

-- how many of the first bits are 1
unfoldable pub ones : ℕ → ℕ → ℕ
ones zero n = 0
ones (suc k) n = ones k n + bit_at n k

-- how often a cover can be split by a binate variable
abbrev pub splits : ℕ → List Cube → ℕ
splits vars cubes = ones vars (binate_of (asked_of cubes))
