-- Private: what the searches for an order, a loop and a path keep and answer (this project's rule).
use Rattle.std.specs.Prelude.{◌≡◌, ◌⊎◌, ℕ, ◌<◌, Bool, true, false, eqb, List, [], ◌≤◌, length, take, get_or}
use Rattle.std.specs.List.{IsDistinct}
use Rattle.pld_base.specs.Bits.{is_on}
use Rattle.pld_order.specs.Graphs.{has, IsLoop}
use Rattle.pld_order.specs.Sets.{IsWithin, AreApart}

-- some vertices, each once and after all that it reads
pub record IsOrderSoFar (count : ℕ) (reads : ℕ → ℕ → Bool) (order : List ℕ) : Type 0 where
  pub inside : (v : ℕ) → has order v ≡ true → v < count
  pub once : IsDistinct eqb order
  pub behind : (i w : ℕ) → i < length order → w < count → reads (get_or order i 0) w ≡ true → has (take i order) w ≡ true

-- v isn't done, and all that it reads is
pub record IsReady (count : ℕ) (reads : ℕ → ℕ → Bool) (done : List ℕ) (v : ℕ) : Type 0 where
  pub inside : v < count
  pub waits : has done v ≡ false
  pub met : (w : ℕ) → w < count → reads v w ≡ true → has done w ≡ true

-- v reads one that isn't done
abbrev pub WaitsForOther : ℕ → (ℕ → ℕ → Bool) → List ℕ → ℕ → Type 0
WaitsForOther count reads done v = (w : ℕ) × (w < count) × (reads v w ≡ true) × (has done w ≡ false)

-- each vertex that isn't done reads one that isn't done
abbrev pub IsStuck : ℕ → (ℕ → ℕ → Bool) → List ℕ → Type 0
IsStuck count reads done = (v : ℕ) → v < count → has done v ≡ false → WaitsForOther count reads done v

-- the set has the vertices of the list, and no others
abbrev pub IsSetOf : List ℕ → List Bool → Type 0
IsSetOf list set = (v : ℕ) → is_on set v ≡ has list v

-- the set has the vertices of the list, and every number that is no vertex
pub record IsDone (count : ℕ) (order : List ℕ) (done : List Bool) : Type 0 where
  pub vertices : (v : ℕ) → v < count → is_on done v ≡ has order v
  pub others : (v : ℕ) → count ≤ v → v < 256 → is_on done v ≡ true

-- v isn't in the set, and all that it reads is
pub record IsReadyBy (sets : List (List Bool)) (done : List Bool) (v : ℕ) : Type 0 where
  pub inside : v < length sets
  pub waits : is_on done v ≡ false
  pub met : IsWithin (get_or sets v []) done

-- each vertex that isn't in the set reads a number that isn't
abbrev pub NoneIsReady : List (List Bool) → List Bool → Type 0
NoneIsReady sets done = (v : ℕ) → v < length sets → is_on done v ≡ false → IsWithin (get_or sets v []) done → ⊥

-- some vertices, each once: each is an end or reads one before it
pub record AreLeading (count : ℕ) (reads : ℕ → ℕ → Bool) (ends : ℕ → Bool) (list : List ℕ) : Type 0 where
  pub inside : (v : ℕ) → has list v ≡ true → v < count
  pub once : IsDistinct eqb list
  pub lead : (i : ℕ) → i < length list → (ends (get_or list i 0) ≡ true)
      ⊎ ((j : ℕ) × (j < i) × (reads (get_or list i 0) (get_or list j 0) ≡ true))

-- no other vertex is an end or reads one of the list
abbrev pub IsClosed : ℕ → (ℕ → ℕ → Bool) → (ℕ → Bool) → List ℕ → Type 0
IsClosed count reads ends list =
    (v : ℕ) → v < count → has list v ≡ false
    → (ends v ≡ false) × ((w : ℕ) → has list w ≡ true → reads v w ≡ false)

-- v isn't in the set, and it is an end or reads one of the set
pub record LeadsInto (sets : List (List Bool)) (ends leading : List Bool) (v : ℕ) : Type 0 where
  pub inside : v < length sets
  pub new : is_on leading v ≡ false
  pub leads : (is_on ends v ≡ true) ⊎ (AreApart (get_or sets v []) leading → ⊥)

-- no vertex leads into the set
abbrev pub NoneLeadsInto : List (List Bool) → (ends leading : List Bool) → Type 0
NoneLeadsInto sets ends leading =
    (v : ℕ) → v < length sets → is_on leading v ≡ false
    → (is_on ends v ≡ false) × AreApart (get_or sets v []) leading

-- the vertex lies on no loop
abbrev pub IsOnNoLoop : ℕ → (ℕ → ℕ → Bool) → ℕ → Type 0
IsOnNoLoop count reads v = (chain : List ℕ) → IsLoop count reads chain → has chain v ≡ false

-- the place of the first vertex of the list that is in the set
pub record IsFirstIn (list : List ℕ) (set : List Bool) (place : ℕ) : Type 0 where
  pub within : place < length list
  pub found : is_on set (get_or list place 0) ≡ true
  pub first : (k : ℕ) → k < place → is_on set (get_or list k 0) ≡ false

-- no vertex of the list is in the set
abbrev pub HasNoneOf : List ℕ → List Bool → Type 0
HasNoneOf list set = (k : ℕ) → k < length list → is_on set (get_or list k 0) ≡ false
