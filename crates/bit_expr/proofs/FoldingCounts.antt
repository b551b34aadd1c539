-- A node takes at most one more by the folding rules.
use Rattle.std.proofs.Common.{◌≡◌, ℕ, ◌+◌, ◌≤◌, Bool, true, false, List, length, Option, None, Some, Result, Ok, Err, refl, sym, subst, arith}
use Rattle.bit_expr.specs.declared.node.Node.{Node}
use Rattle.bit_expr.specs.declared.node.Node.TheVariants as node
use Rattle.bit_expr.specs.declared.node.ExprId.{ExprId}
use Rattle.bit_expr.specs.declared.fault.ExprFault.{ExprFault}
use Rattle.bit_expr.specs.declared.fault.ExprFault.TheVariants as fault
use Rattle.bit_expr.specs.Arena.{Adds, folded, formula_at}
use Rattle.bit_expr.proofs.Common.{arena, Made, constant_level, make_and, make_not, make_or, make_xor, Formula, Const, Not}
use Rattle.bit_expr.proofs.ArenaLists.{arena_count}
use Rattle.bit_expr.proofs.FoldingCases.{and_makes, and_one_left, and_one_right, and_zero_left, and_zero_right, or_makes, or_one_left, or_one_right, or_zero_left, or_zero_right, xor_makes, xor_one_left, xor_one_right, xor_zero_left, xor_zero_right}

abbrev IsOne : Made Formula → Type 0
IsOne m = m.nodes ≤ 1

-- something of at most one is so too
as_one : (m n : Made Formula) → m ≡ n → IsOne n → IsOne m
as_one m n same one = subst IsOne (sym same) one

not_one : (f : Formula) → IsOne (make_not f)
unfolding make_not
not_one (Const level) = omega arith
not_one (Not f) = omega arith
not_one f = omega arith

-- a rule for each level of the first, else of the second, else a new node
by_levels : (f g : Formula) (m : Made Formula)
    → (Some true ≡ constant_level f → IsOne m) → (Some false ≡ constant_level f → IsOne m)
    → (Some true ≡ constant_level g → IsOne m) → (Some false ≡ constant_level g → IsOne m)
    → (None ≡ constant_level f → None ≡ constant_level g → IsOne m) → IsOne m
by_levels f g m one_left zero_left one_right zero_right new = by_left (constant_level f) refl
  where
    by_right : (o : Option Bool) → o ≡ constant_level g → None ≡ constant_level f → IsOne m
    by_right (Some true) e none = one_right e
    by_right (Some false) e none = zero_right e
    by_right None e none = new none e

    by_left : (o : Option Bool) → o ≡ constant_level f → IsOne m
    by_left (Some true) e = one_left e
    by_left (Some false) e = zero_left e
    by_left None e = by_right (constant_level g) refl e

and_one : (f g : Formula) → IsOne (make_and f g)
and_one f g = by_levels f g (make_and f g)
    (λ e. as_one _ _ (and_one_left f g e) (omega arith)) (λ e. as_one _ _ (and_zero_left f g e) (omega arith))
    (λ e. as_one _ _ (and_one_right f g e) (omega arith)) (λ e. as_one _ _ (and_zero_right f g e) (omega arith))
    (λ d e. as_one _ _ (and_makes f g d e) (omega arith))

or_one : (f g : Formula) → IsOne (make_or f g)
or_one f g = by_levels f g (make_or f g)
    (λ e. as_one _ _ (or_one_left f g e) (omega arith)) (λ e. as_one _ _ (or_zero_left f g e) (omega arith))
    (λ e. as_one _ _ (or_one_right f g e) (omega arith)) (λ e. as_one _ _ (or_zero_right f g e) (omega arith))
    (λ d e. as_one _ _ (or_makes f g d e) (omega arith))

xor_one : (f g : Formula) → IsOne (make_xor f g)
xor_one f g = by_levels f g (make_xor f g)
    (λ e. as_one _ _ (xor_one_left f g e) (not_one g)) (λ e. as_one _ _ (xor_zero_left f g e) (omega arith))
    (λ e. as_one _ _ (xor_one_right f g e) (not_one f)) (λ e. as_one _ _ (xor_zero_right f g e) (omega arith))
    (λ d e. as_one _ _ (xor_makes f g d e) (omega arith))

pub folded_one : (fs : List Formula) (n : Node) → IsOne (folded fs n)
folded_one fs (node.Const level) = omega arith
folded_one fs (node.Leaf l) = omega arith
folded_one fs (node.Not a) = not_one (formula_at fs a)
folded_one fs (node.And a b) = and_one (formula_at fs a) (formula_at fs b)
folded_one fs (node.Or a b) = or_one (formula_at fs a) (formula_at fs b)
folded_one fs (node.Xor a b) = xor_one (formula_at fs a) (formula_at fs b)

-- a limit of one node more than there are is never passed
pub never_passed : (old new : List Node) (r : Result ExprId ExprFault) (f : ExprFault) (n : Node) (count : ℕ) → Adds (count + 1 + 2) old new r (folded (arena old) n) → r ≡ Err f → f ≡ fault.NodeLimit → count ≡ length old → ⊥
never_passed old new (Ok id) f n count a e k c = absurd cc
never_passed old new (Err fault.OutOfMemory) f n count a e k c = absurd cc
never_passed old new (Err fault.NodeLimit) f n count a e k c = omega (arith, folded_one (arena old) n, arena_count old, a.1.1, c)
