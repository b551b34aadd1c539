-- What making bits in the arena leaves (this project's rule).
use Rattle.std.specs.Prelude.{◌≡◌, ℕ, ◌<◌, List, [], ◌∷◌, length, map, Result, Ok, Err}
use Rattle.expr_bits.specs.Prelude.{Vec, arena, formula_at, MOST, Grew, PassesLimit, Made, Formula, ExprFault, ExprId, Node, Word, Keeps}
use Rattle.bit_expr.specs.declared.fault.ExprFault.TheVariants as fault

-- making so many nodes in an arena of these formulas passes the limit
abbrev pub IsPast : List Formula → ℕ → Type 0
IsPast old nodes = PassesLimit MOST (length old) nodes

-- an id represents a formula
abbrev pub ShowsOne : List Formula → ExprId → Formula → Type 0
ShowsOne fs id f = (id.0 < length fs) × (formula_at fs id ≡ f)

-- two ids represent two formulas
abbrev pub ShowsTwo : List Formula → ExprId × ExprId → Formula × Formula → Type 0
ShowsTwo fs ids p = ShowsOne fs ids.0 p.0 × ShowsOne fs ids.1 p.1

-- all ids lie in the arena
abbrev pub AllIn : ℕ → List ExprId → Type 0
AllIn count [] = Unit {0}
AllIn count (id ∷ ids) = (id.0 < count) × AllIn count ids

-- ids as a word
abbrev pub word_at : List Formula → List ExprId → Word
word_at fs ids = map (λ id. formula_at fs id) ids

abbrev pub ShowsAll : List Formula → List ExprId → Word → Type 0
ShowsAll fs ids w = AllIn (length fs) ids × (word_at fs ids ≡ w)

abbrev pub ShowsItems : List Formula → Vec ExprId → Word → Type 0
ShowsItems fs ids w = ShowsAll fs ids.items w

-- something was made, with just its nodes, which do not pass the limit
pub record IsMade {A R : Type 0} (Shows : List Formula → R → A → Type 0) (old new : List Formula) (r : R) (m : Made A) : Type 0 where
  pub shows : Shows new r m.what
  pub grew : Grew old new m.nodes
  pub within : IsPast old m.nodes → ⊥

-- what making leaves: NodeLimit is answered just if the nodes pass the limit
abbrev pub Makes : {A R : Type 0} → (List Formula → R → A → Type 0) → (old new : List Node) → Result R ExprFault → Made A → Type 0
Makes Shows old new (Ok r) m = IsMade Shows (arena old) (arena new) r m
Makes Shows old new (Err fault.NodeLimit) m = Keeps (arena old) (arena new) × IsPast (arena old) m.nodes
Makes Shows old new (Err fault.OutOfMemory) m = Keeps (arena old) (arena new)
