-- A formula is given by the leaves that it names.
use Rattle.std.proofs.Common.{◌≡◌, Bool, true, not, refl, ap}
use Rattle.netlist_laws.proofs.Common.{eq-eqb, or_left, or_right, Levels, Leaf, Formula, Const, Read, Not, And, Or, Xor, leaf_value, formula_value, same_leaf, names}
use Rattle.bit_expr.specs.declared.node.Leaf.TheVariants as leaf

pub same_leaf-refl : (l : Leaf) → same_leaf l l ≡ true
same_leaf-refl (leaf.Pin a) = eq-eqb a a refl
same_leaf-refl (leaf.Q a) = eq-eqb a a refl
same_leaf-refl (leaf.Node a) = eq-eqb a a refl

-- the points agree at each leaf that the formula names
abbrev pub AgreeOn : (Leaf → Bool) → Levels → Levels → Type 0
AgreeOn named a b = (l : Leaf) → named l ≡ true → leaf_value a l ≡ leaf_value b l

pub value_same : (f : Formula) (a b : Levels) → AgreeOn (names f) a b → formula_value a f ≡ formula_value b f
value_same (Const level) a b same = refl
value_same (Read leaf) a b same = same leaf (same_leaf-refl leaf)
value_same (Not f) a b same = ap not (value_same f a b same)
value_same (And f g) a b same =
    rw (value_same f a b (λ l on. same l (or_left (names f l) (names g l) on)), value_same g a b (λ l on. same l (or_right (names f l) (names g l) on))) refl
value_same (Or f g) a b same =
    rw (value_same f a b (λ l on. same l (or_left (names f l) (names g l) on)), value_same g a b (λ l on. same l (or_right (names f l) (names g l) on))) refl
value_same (Xor f g) a b same =
    rw (value_same f a b (λ l on. same l (or_left (names f l) (names g l) on)), value_same g a b (λ l on. same l (or_right (names f l) (names g l) on))) refl
