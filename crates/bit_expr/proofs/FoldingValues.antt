-- What the folding rules make has the value of the operator at every point.
use Rattle.std.proofs.Common.{◌≡◌, ℕ, Bool, true, false, not, ◌&&◌, ◌||◌, List, slice_get, Some, refl, ap, ◌∙◌, Result, Ok, Err, IfOk}
use Rattle.bit_expr.proofs.Common.{get_or_from_slice_get, ExprId, Node, arena, formula_at, folded, node_value, Adds, Formula, Const, Not, differ, formula_value, make_not, make_and, make_or, make_xor}
use Rattle.pld_base.specs.Points.{Levels}
use Rattle.bit_expr.specs.declared.node.Node.TheVariants as node
use Rattle.bit_expr.specs.declared.fault.ExprFault.{ExprFault}
use Rattle.bit_expr.specs.declared.fault.ExprFault.TheVariants as fault

not_not : (b : Bool) → b ≡ not (not b)
not_not true = refl
not_not false = refl

and_false : (b : Bool) → false ≡ b && false
and_false true = refl
and_false false = refl

and_true : (b : Bool) → b ≡ b && true
and_true true = refl
and_true false = refl

or_true : (b : Bool) → true ≡ b || true
or_true true = refl
or_true false = refl

or_false : (b : Bool) → b ≡ b || false
or_false true = refl
or_false false = refl

differs_from_false : (b : Bool) → b ≡ differ b false
differs_from_false true = refl
differs_from_false false = refl

differs_from_true : (b : Bool) → not b ≡ differ b true
differs_from_true true = refl
differs_from_true false = refl

pub not_value : (at : Levels) (f : Formula) → formula_value at (make_not f).what ≡ not (formula_value at f)
unfolding make_not
not_value at (Const b) = refl
not_value at (Not f) = not_not (formula_value at f)
not_value at f = refl

pub and_value : (at : Levels) (f g : Formula) → formula_value at (make_and f g).what ≡ formula_value at f && formula_value at g
unfolding make_and
and_value at (Const false) g = refl
and_value at (Const true) g = refl
and_value at f (Const false) = and_false (formula_value at f)
and_value at f (Const true) = and_true (formula_value at f)
and_value at f g = refl

pub or_value : (at : Levels) (f g : Formula) → formula_value at (make_or f g).what ≡ formula_value at f || formula_value at g
unfolding make_or
or_value at (Const true) g = refl
or_value at (Const false) g = refl
or_value at f (Const true) = or_true (formula_value at f)
or_value at f (Const false) = or_false (formula_value at f)
or_value at f g = refl

pub xor_value : (at : Levels) (f g : Formula) → formula_value at (make_xor f g).what ≡ differ (formula_value at f) (formula_value at g)
unfolding make_xor
xor_value at (Const false) g = not_not (formula_value at g)
xor_value at (Const true) g = not_value at g
xor_value at f (Const false) = differs_from_false (formula_value at f)
xor_value at f (Const true) = not_value at f ∙ differs_from_true (formula_value at f)
xor_value at f g = refl

-- what a node makes has the node's value
pub folded_value : (at : Levels) (fs : List Formula) (n : Node) → formula_value at (folded fs n).what ≡ node_value at fs n
folded_value at fs (node.Const level) = refl
folded_value at fs (node.Leaf l) = refl
folded_value at fs (node.Not a) = not_value at (formula_at fs a)
folded_value at fs (node.And a b) = and_value at (formula_at fs a) (formula_at fs b)
folded_value at fs (node.Or a b) = or_value at (formula_at fs a) (formula_at fs b)
folded_value at fs (node.Xor a b) = xor_value at (formula_at fs a) (formula_at fs b)

-- and so has the id that was answered
pub added_value : (at : Levels) (old new : List Formula) (id : ExprId) (n : Node) → slice_get new id.0 ≡ Some (folded old n).what → formula_value at (formula_at new id) ≡ node_value at old n
added_value at old new id n e = ap (formula_value at) (get_or_from_slice_get new id.0 (folded old n).what (Const false) e) ∙ folded_value at old n

pub value_if_added : (most : ℕ) (old new : List Node) (r : Result ExprId ExprFault) (n : Node) → Adds most old new r (folded (arena old) n) → IfOk r (λ id. (at : Levels) → formula_value at (formula_at (arena new) id) ≡ node_value at (arena old) n)
value_if_added most old new (Ok id) n added = λ at. added_value at (arena old) (arena new) id n added.formula
value_if_added most old new (Err fault.NodeLimit) n added = tt
value_if_added most old new (Err fault.OutOfMemory) n added = tt
