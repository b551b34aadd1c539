-- Orders of the vertices of a graph, and loops and paths in it (graph theory: topological order, directed cycle,
-- directed walk).
use Rattle.std.specs.Prelude.{◌≡◌, ◌≢◌, ℕ, ◌<◌, ◌≤◌, Bool, true, false, ◌==◌, eqb, List, [], ◌∷◌, ◌++◌, length, get_or}
use Rattle.std.specs.List.{IsDistinct}
pub use Rattle.pld_order.specs.Members.{has}

-- all vertices, each once, none of which reads itself or one that follows it
pub record IsOrder (count : ℕ) (reads : ℕ → ℕ → Bool) (order : List ℕ) : Type 0 where
  pub inside : (v : ℕ) → has order v ≡ true → v < count
  pub each : (v : ℕ) → v < count → has order v ≡ true
  pub once : IsDistinct eqb order
  pub earlier : (i j : ℕ) → i ≤ j → j < length order → reads (get_or order i 0) (get_or order j 0) ≡ false

-- each of the list reads the next one, and the last reads `end`
abbrev pub IsChain : (ℕ → ℕ → Bool) → List ℕ → ℕ → Type 0
IsChain reads [] end = Unit {0}
IsChain reads (v ∷ rest) end = (reads v (get_or rest 0 end) ≡ true) × IsChain reads rest end

-- some vertices, each once: each reads the next one, and the last reads the first
pub record IsLoop (count : ℕ) (reads : ℕ → ℕ → Bool) (chain : List ℕ) : Type 0 where
  pub some : chain ≢ []
  pub inside : (v : ℕ) → has chain v ≡ true → v < count
  pub once : IsDistinct eqb chain
  pub returns : IsChain reads chain (get_or chain 0 0)

-- a loop whose first is the least of all vertices that lie on loops (this project's rule)
pub record IsLeastLoop (count : ℕ) (reads : ℕ → ℕ → Bool) (chain : List ℕ) : Type 0 where
  pub is_loop : IsLoop count reads chain
  pub least : (other : List ℕ) → IsLoop count reads other
      → (v : ℕ) → has other v ≡ true → get_or chain 0 0 ≤ v

-- no list of vertices is a loop
abbrev pub HasNoLoop : ℕ → (ℕ → ℕ → Bool) → Type 0
HasNoLoop count reads = (chain : List ℕ) → IsLoop count reads chain → ⊥

-- no list of vertices is an order
abbrev pub HasNoOrder : ℕ → (ℕ → ℕ → Bool) → Type 0
HasNoOrder count reads = (order : List ℕ) → IsOrder count reads order → ⊥

-- there is an order
abbrev pub HasOrder : ℕ → (ℕ → ℕ → Bool) → Type 0
HasOrder count reads = (order : List ℕ) × IsOrder count reads order

-- there is a loop
abbrev pub HasLoop : ℕ → (ℕ → ℕ → Bool) → Type 0
HasLoop count reads = (chain : List ℕ) × IsLoop count reads chain

-- one or more vertices: the first is a start, each reads the next one, and the last is an end
pub record IsPath (count : ℕ) (reads : ℕ → ℕ → Bool) (starts ends : ℕ → Bool) (path : List ℕ) : Type 0 where
  pub before : List ℕ
  pub last : ℕ
  pub is : path ≡ before ++ last ∷ []
  pub inside : (v : ℕ) → has path v ≡ true → v < count
  pub begins : starts (get_or path 0 0) ≡ true
  pub leads : IsChain reads before last
  pub arrives : ends last ≡ true

-- no list of vertices is a path
abbrev pub HasNoPath : ℕ → (ℕ → ℕ → Bool) → (starts ends : ℕ → Bool) → Type 0
HasNoPath count reads starts ends = (path : List ℕ) → IsPath count reads starts ends path → ⊥
