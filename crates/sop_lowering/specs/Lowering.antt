-- What lowering needs, and what its answers say (this project's rule).
use Rattle.std.specs.Prelude.{◌≡◌, ◌<◌, Some, None, List, length, Result, Ok, Err}
use Rattle.sop_lowering.specs.Prelude.{Netlist, ExprId, Leaf, arena, formula_at, Cube}
use Rattle.bit_expr.specs.declared.node.Leaf.TheVariants as leaf
use Rattle.sop_lowering.specs.declared.fault.LowerFault.{LowerFault}
use Rattle.sop_lowering.specs.declared.fault.LowerFault.TheVariants as fault
use Rattle.sop_lowering.specs.Products.{Products}
use Rattle.sop_lowering.specs.Through.{Reaches}
use Rattle.sop_lowering.specs.Written.{pair_of}

-- the pin or the Q has a pair of columns, of which there are at most 22
abbrev pub HasPair : Netlist → Leaf → Type 0
HasPair net (leaf.Pin p) = (p < 25) × (pair_of net (leaf.Pin p) < 22)
HasPair net (leaf.Q c) = (c < 25) × (pair_of net (leaf.Q c) < 22)
HasPair net (leaf.Node n) = Unit {0}

-- the id lies in the arena, and every pin and Q that its formula reaches has a pair; no chain of nodes returns
abbrev pub CanLower : Netlist → ExprId → Type 0
CanLower net id = (id.0 < length (arena net.exprs)) × Reaches net (HasPair net) (formula_at (arena net.exprs) id)

-- TooWide is answered just if a list on the way would pass 1,024 products; lack of memory says nothing
abbrev pub Fails : LowerFault → Products → Type 0
Fails fault.TooWide list = list ≡ None
Fails fault.OutOfMemory list = Unit {0}

-- an answer is the list, or says that there isn't one
abbrev pub IsList : {A : Type 0} → (A → List Cube) → Result A LowerFault → Products → Type 0
IsList rows (Ok r) list = list ≡ Some (rows r)
IsList rows (Err e) list = Fails e list
