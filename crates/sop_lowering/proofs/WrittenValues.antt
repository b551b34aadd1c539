-- The OR of a formula's written products has the formula's value, wherever the nodes are valued with any as 0.
use Rattle.std.proofs.Common.{◌≡◌, ℕ, zero, suc, ◌≤◌, Bool, true, false, not, ◌&&◌, ◌||◌, List, [], ◌∷◌, length, Some, refl, ap, sym, ◌∙◌, subst}
use Rattle.sop_lowering.proofs.Common.{pow_pos, complement_if, Netlist, Leaf, Formula, Const, Read, Not, And, Or, Xor, formula_value, leaf_value, literal_cube, has_point, full_has_all, literal_points, Products, product_of, sum_of, EachLeaf, OfLeaf, ReachesThrough, AreNodesValued, CarriesLeaf, HasValue, WrittenValues, pair_of, constant_list, leaf_list, list_of, node_list, function_of_node, node_formula}
use Rattle.pld_base.specs.Bits.{is_on, same_level}
use Rattle.pld_base.specs.Points.{Levels}
use Rattle.bit_expr.specs.declared.node.Leaf.TheVariants as leaf
use Rattle.covers.proofs.CubeBits.{literal_below}
use Rattle.sop_lowering.proofs.InsertedValues.{product_value, sum_value}

or_nil : (a : Bool) → (a || false) ≡ a
or_nil true = refl
or_nil false = refl

constant_value : (b : Bool) (p : List Bool) → HasValue (constant_list b) p b
constant_value true p = (((pow_pos (length p), pow_pos (length p)), tt), rw (full_has_all p) refl)
constant_value false p = (tt, refl)

same_flips : (a b : Bool) → same_level a b ≡ same_level b a
same_flips true true = refl
same_flips true false = refl
same_flips false true = refl
same_flips false false = refl

-- ---- polarities

under_not : (v b : Bool) → same_level v (not b) ≡ same_level (not v) b
under_not true b = refl
under_not false true = refl
under_not false false = refl

both_true : (a b : Bool) → (same_level a true && same_level b true) ≡ same_level (a && b) true
both_true true b = refl
both_true false b = refl

both_false : (a b : Bool) → (same_level a false || same_level b false) ≡ same_level (a && b) false
both_false true b = refl
both_false false b = refl

either_true : (a b : Bool) → (same_level a true || same_level b true) ≡ same_level (a || b) true
either_true true b = refl
either_true false b = refl

either_false : (a b : Bool) → (same_level a false && same_level b false) ≡ same_level (a || b) false
either_false true b = refl
either_false false b = refl

differ_true : (a b : Bool) → ((same_level a true && same_level b false) || (same_level a false && same_level b true)) ≡ same_level (not (same_level a b)) true
differ_true true true = refl
differ_true true false = refl
differ_true false true = refl
differ_true false false = refl

differ_false : (a b : Bool) → ((same_level a true && same_level b true) || (same_level a false && same_level b false)) ≡ same_level (not (same_level a b)) false
differ_false true true = refl
differ_false true false = refl
differ_false false true = refl
differ_false false false = refl

under_complement : (complement v b : Bool) → same_level v (complement_if complement b) ≡ same_level (complement_if complement v) b
under_complement true v b = under_not v b
under_complement false v b = refl

module _ (net : Netlist) (at : Levels) (p : List Bool) (few : length p ≤ 32) where
  literal_value : (l : Leaf) (positive : Bool) → CarriesLeaf net at p l → HasValue (Some (literal_cube (pair_of net l) positive ∷ [])) p (same_level (leaf_value at l) positive)
  literal_value l positive carries = (
    (literal_below (pair_of net l) (length p) positive carries.0, tt),
    or_nil (has_point (literal_cube (pair_of net l) positive) p) ∙ literal_points (pair_of net l) positive p carries.0
        ∙ ap (λ x. same_level positive x) carries.1 ∙ same_flips positive (leaf_value at l),
  )

  module _ (lists : ℕ → Bool → Products) (nodes : ℕ → Type 0)
      (right : (n : ℕ) (positive : Bool) → nodes n → HasValue (lists n positive) p (same_level (is_on at.nodes n) positive)) where
    abbrev Right : Formula → Bool → Type 0
    Right f positive = HasValue (list_of (leaf_list net lists) f positive) p (same_level (formula_value at f) positive)

    both_of : (f g : Formula) (x y : Bool) → Right f x → Right g y
        → HasValue (product_of (list_of (leaf_list net lists) f x) (list_of (leaf_list net lists) g y)) p (same_level (formula_value at f) x && same_level (formula_value at g) y)
    both_of f g x y first second = product_value p few (list_of (leaf_list net lists) f x) (list_of (leaf_list net lists) g y) (same_level (formula_value at f) x) (same_level (formula_value at g) y) first second

    either_of : (f g : Formula) (x y : Bool) → Right f x → Right g y
        → HasValue (sum_of (list_of (leaf_list net lists) f x) (list_of (leaf_list net lists) g y)) p (same_level (formula_value at f) x || same_level (formula_value at g) y)
    either_of f g x y first second = sum_value p few (list_of (leaf_list net lists) f x) (list_of (leaf_list net lists) g y) (same_level (formula_value at f) x) (same_level (formula_value at g) y) first second

    as_value : (x : Products) (a b : Bool) → a ≡ b → HasValue x p a → HasValue x p b
    as_value x a b same has = subst (HasValue x p) same has

    pub list_value : (f : Formula) (positive : Bool) → EachLeaf (OfLeaf (CarriesLeaf net at p) nodes) f → Right f positive
    list_value (Const level) positive each = constant_value (same_level level positive) p
    list_value (Read (leaf.Pin n)) positive each = literal_value (leaf.Pin n) positive each
    list_value (Read (leaf.Q c)) positive each = literal_value (leaf.Q c) positive each
    list_value (Read (leaf.Node n)) positive each = right n positive each
    list_value (Not f) positive each = as_value (list_of (leaf_list net lists) f (not positive)) _ _ (under_not (formula_value at f) positive) (list_value f (not positive) each)
    list_value (And f g) true each =
        as_value (list_of (leaf_list net lists) (And f g) true) _ _ (both_true (formula_value at f) (formula_value at g))
        (both_of f g true true (list_value f true each.0) (list_value g true each.1))
    list_value (And f g) false each =
        as_value (list_of (leaf_list net lists) (And f g) false) _ _ (both_false (formula_value at f) (formula_value at g))
        (either_of f g false false (list_value f false each.0) (list_value g false each.1))
    list_value (Or f g) true each =
        as_value (list_of (leaf_list net lists) (Or f g) true) _ _ (either_true (formula_value at f) (formula_value at g))
        (either_of f g true true (list_value f true each.0) (list_value g true each.1))
    list_value (Or f g) false each =
        as_value (list_of (leaf_list net lists) (Or f g) false) _ _ (either_false (formula_value at f) (formula_value at g))
        (both_of f g false false (list_value f false each.0) (list_value g false each.1))
    list_value (Xor f g) true each =
        as_value (list_of (leaf_list net lists) (Xor f g) true) _ _ (differ_true (formula_value at f) (formula_value at g))
        (sum_value p few _ _ _ _ (both_of f g true false (list_value f true each.0) (list_value g false each.1)) (both_of f g false true (list_value f false each.0) (list_value g true each.1)))
    list_value (Xor f g) false each =
        as_value (list_of (leaf_list net lists) (Xor f g) false) _ _ (differ_false (formula_value at f) (formula_value at g))
        (sum_value p few _ _ _ _ (both_of f g true true (list_value f true each.0) (list_value g true each.1)) (both_of f g false false (list_value f false each.0) (list_value g false each.1)))

  module _ (valued : AreNodesValued net at) where
    node_value : (turns n : ℕ) (positive : Bool) → ReachesThrough net (CarriesLeaf net at p) turns n
        → HasValue (node_list net turns n positive) p (same_level (is_on at.nodes n) positive)
    node_value zero n positive through = absurd through
    node_value (suc turns) n positive through =
        let f = function_of_node net n in
        subst (HasValue (node_list net (suc turns) n positive) p)
        (under_complement f.complement (formula_value at (node_formula net n)) positive ∙ ap (λ v. same_level v positive) (sym (valued n through.0)))
        (list_value (node_list net turns) (ReachesThrough net (CarriesLeaf net at p) turns) (λ m b below. node_value turns m b below) (node_formula net n) (complement_if f.complement positive) through.2)

pub written_values : WrittenValues
written_values net at p f positive carries =
    list_value net at p carries.few (node_list net (length net.nodes)) (ReachesThrough net (CarriesLeaf net at p) (length net.nodes))
    (λ n b below. node_value net at p carries.few carries.nodes (length net.nodes) n b below) f positive carries.leaves
