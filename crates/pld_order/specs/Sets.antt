-- Sets of vertices, a truth value for each number, and the graph of vertices that each read a set.
use Rattle.std.specs.Prelude.{◌≡◌, ℕ, ◌<◌, Bool, true, ◌||◌, ◌==◌, List, [], ◌++◌, get_or}
use Rattle.pld_base.specs.Bits.{bits, is_on}

-- the truth values of two numbers of 128 bits, one after the other
abbrev pub members : (low high : ℕ) → List Bool
members low high = bits 128 low ++ bits 128 high

-- the second set is the first with this vertex
abbrev pub IsWith : List Bool → ℕ → List Bool → Type 0
IsWith old vertex new = (v : ℕ) → is_on new v ≡ ((v == vertex) || is_on old v)

-- each vertex of the first set is in the second
abbrev pub IsWithin : List Bool → List Bool → Type 0
IsWithin xs ys = (v : ℕ) → v < 256 → is_on xs v ≡ true → is_on ys v ≡ true

-- no vertex is in both
abbrev pub AreApart : List Bool → List Bool → Type 0
AreApart xs ys = (v : ℕ) → v < 256 → is_on xs v ≡ true → is_on ys v ≡ true → ⊥

-- whether one vertex reads another, if each reads the set at its place
abbrev pub reads_of : List (List Bool) → ℕ → ℕ → Bool
reads_of sets from to = is_on (get_or sets from []) to
