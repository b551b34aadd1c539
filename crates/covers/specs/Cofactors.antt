-- Cofactors of covers and complements of cubes (the Shannon cofactor and De Morgan's law of two-level logic).
use Rattle.std.specs.Prelude.{ℕ, zero, suc, ◌≡◌, Bool, true, false, if◌then◌else◌, List, [], ◌∷◌, ◌++◌, length, map, filter}
use Rattle.pld_base.specs.Bits.{is_on}
use Rattle.covers.specs.declared.cube.Cube.{Cube}
use Rattle.covers.specs.Cubes.{asks, covers, literal_cube, meets, without}

-- the cofactor by a cube: the cubes that meet it, without its literals
abbrev pub cofactor_of : Cube → List Cube → List Cube
cofactor_of c cubes = map (without c) (filter (meets c) cubes)

-- the second cover says of the points with this level of the variable what the first says
abbrev pub IsCofactor : List Cube → ℕ → Bool → ℕ → List Cube → Type 0
IsCofactor cubes v level vars part = (p : List Bool) → length p ≡ vars → is_on p v ≡ level → covers part p ≡ covers cubes p

-- the opposites of the cube's literals of one variable, each as a cube of its own
abbrev pub opposites_at : Cube → ℕ → List Cube
opposites_at c v = (if asks v true c then literal_cube v false ∷ [] else []) ++ (if asks v false c then literal_cube v true ∷ [] else [])

-- the complement: of each literal of the first variables its opposite, in the order of variables
unfoldable pub complement_of : Cube → ℕ → List Cube
complement_of c zero = []
complement_of c (suc n) = complement_of c n ++ opposites_at c n
