-- Private: what the arena keeps of each node (this project's rule).
use Rattle.std.specs.Prelude.{◌≡◌, ℕ, ◌+◌, false, Some, List, map, get_or, slice_get}
use Rattle.bit_expr.specs.declared.arena.Kept.{Kept}
use Rattle.bit_expr.specs.declared.node.Node.{Node}
use Rattle.bit_expr.specs.Arena.{arena, LiesIn}
use Rattle.bit_expr.specs.Formulas.{Const, names}
use Rattle.bit_expr.specs.Reading.{AreReads}

-- the nodes alone
abbrev pub nodes_of : List Kept → List Node
nodes_of kept = map (λ (k : Kept). k.node) kept

-- each node is over earlier ones
abbrev pub AreOverEarlier : List Node → Type 0
AreOverEarlier nodes = (k : ℕ) (n : Node) → slice_get nodes k ≡ Some n → LiesIn (k + 2) n

-- beside each node are the leaves that its formula names
abbrev pub KnowsReads : List Kept → Type 0
KnowsReads kept =
    (k : ℕ) (x : Kept) → slice_get kept k ≡ Some x
    → AreReads (λ leaf. names (get_or (arena (nodes_of kept)) (k + 2) (Const false)) leaf) x.reads

-- what holds of the arena's entries
pub record AreKept (kept : List Kept) : Type 0 where
  pub ordered : AreOverEarlier (nodes_of kept)
  pub reads : KnowsReads kept
