-- Two netlists over arenas that represent one netlist over formulas have the same written lists.
use Rattle.std.proofs.Common.{◌≡◌, ℕ, zero, suc, ◌<◌, Bool, true, false, not, [], ◌∷◌, length, Some, refl, sym, ap, ◌∙◌, subst}
use Rattle.compile_phases.proofs.Common.{IsDevice, complement_if, Table, Netlist, ExprId, arena, formula_at, Formula, Const, Read, Not, And, Or, Xor, names, PlainNetlist, plain_netlist, plain_function, node_at, IsSoundNetlist, Products, function_of_node, node_formula, leaf_list, list_of, node_list, written, bit_list, IsSoundId}
use Rattle.std.proofs.lemmas.Bool.{or_left, or_right}
use Rattle.bit_expr.specs.declared.node.Leaf.{Leaf}
use Rattle.bit_expr.specs.declared.node.Leaf.TheVariants as leaf
use Rattle.abel_meaning.specs.Functions.{Function}
use Rattle.abel_meaning.specs.Soundness.{IsReadable, IsSoundFormula}
use Rattle.covers.specs.Cubes.{literal_cube}
use Rattle.netlist_laws.proofs.FormulaLeaves.{same_leaf-refl}
use Rattle.fitter.proofs.LeafPairs.{pin_pair, cell_pair}
use Rattle.fitter.proofs.Reached.{nodes_count, node_is, one_sound}

-- a list is that of its leaves
list_same : (A B : Leaf → Bool → Products) (f : Formula) → ((l : Leaf) → names f l ≡ true → (p : Bool) → A l p ≡ B l p)
    → (p : Bool) → list_of A f p ≡ list_of B f p
list_same A B (Const level) same p = refl
list_same A B (Read l) same p = same l (same_leaf-refl l) p
list_same A B (Not f) same p = list_same A B f same (not p)
list_same A B (And f g) same true =
    let a = list_same A B f (λ l on. same l (or_left (names f l) (names g l) on)) true in
    let b = list_same A B g (λ l on. same l (or_right (names f l) (names g l) on)) true in
    cc
list_same A B (And f g) same false =
    let a = list_same A B f (λ l on. same l (or_left (names f l) (names g l) on)) false in
    let b = list_same A B g (λ l on. same l (or_right (names f l) (names g l) on)) false in
    cc
list_same A B (Or f g) same true =
    let a = list_same A B f (λ l on. same l (or_left (names f l) (names g l) on)) true in
    let b = list_same A B g (λ l on. same l (or_right (names f l) (names g l) on)) true in
    cc
list_same A B (Or f g) same false =
    let a = list_same A B f (λ l on. same l (or_left (names f l) (names g l) on)) false in
    let b = list_same A B g (λ l on. same l (or_right (names f l) (names g l) on)) false in
    cc
list_same A B (Xor f g) same true =
    let a = list_same A B f (λ l on. same l (or_left (names f l) (names g l) on)) in
    let b = list_same A B g (λ l on. same l (or_right (names f l) (names g l) on)) in
    let at = a true in let af = a false in let bt = b true in let bf = b false in
    cc
list_same A B (Xor f g) same false =
    let a = list_same A B f (λ l on. same l (or_left (names f l) (names g l) on)) in
    let b = list_same A B g (λ l on. same l (or_right (names f l) (names g l) on)) in
    let at = a true in let af = a false in let bt = b true in let bf = b false in
    cc

module _ (t : Table) (laws : IsDevice t) (net other : Netlist) (one : IsSoundNetlist t net) (two : IsSoundNetlist t other)
    (plain : plain_netlist net ≡ plain_netlist other) where
  leaf_same : (A B : ℕ → Bool → Products) → ((n : ℕ) → n < length net.nodes → (p : Bool) → A n p ≡ B n p)
      → (l : Leaf) → IsReadable t (plain_netlist net) l → (p : Bool) → leaf_list net A l p ≡ leaf_list other B l p
  leaf_same A B same (leaf.Pin q) r p =
      ap (λ (k : ℕ). Some (literal_cube k p ∷ [])) (pin_pair t laws net one q r.0.0 r.0.1 ∙ sym (pin_pair t laws other two q r.0.0 r.0.1))
  leaf_same A B same (leaf.Q c) r p =
      ap (λ (k : ℕ). Some (literal_cube k p ∷ [])) (cell_pair t laws net one c r.0.0 r.1.0 r.0.1 ∙ sym (cell_pair t laws other two c r.0.0 r.1.0 r.0.1))
  leaf_same A B same (leaf.Node n) r p = same n (subst (λ (k : ℕ). n < k) (nodes_count net) r) p

  count_same : length net.nodes ≡ length other.nodes
  count_same = sym (nodes_count net) ∙ ap (λ (x : PlainNetlist). length x.nodes) plain ∙ nodes_count other

  function_same : (n : ℕ) → n < length net.nodes
      → plain_function (arena net.exprs) (function_of_node net n) ≡ plain_function (arena other.exprs) (function_of_node other n)
  function_same n within =
      sym (node_is net n within) ∙ ap (λ (x : PlainNetlist). node_at x n) plain
      ∙ node_is other n (subst (λ (k : ℕ). n < k) count_same within)

  nodes_same : (turns n : ℕ) → n < length net.nodes → (p : Bool) → node_list net turns n p ≡ node_list other turns n p
  nodes_same zero n within p = refl
  nodes_same (suc k) n within p =
      list_same (leaf_list net (node_list net k)) (leaf_list other (node_list other k)) (node_formula net n)
      (λ l on. leaf_same (node_list net k) (node_list other k) (nodes_same k) l (one_sound t net one n within l on))
      (complement_if (function_of_node net n).complement p)
      ∙ ap (λ (x : Function Formula). list_of (leaf_list other (node_list other k)) x.one (complement_if x.complement p)) (function_same n within)

  pub written_same : (f : Formula) → IsSoundFormula t (plain_netlist net) f → (p : Bool) → written net f p ≡ written other f p
  written_same f sound p =
      list_same (leaf_list net (node_list net (length net.nodes))) (leaf_list other (node_list other (length other.nodes))) f
      (λ l on. leaf_same (node_list net (length net.nodes)) (node_list other (length other.nodes))
      (λ n within q. nodes_same (length net.nodes) n within q ∙ ap (λ (k : ℕ). node_list other k n q) count_same) l (sound l on)) p

  -- the list of a bit is that of the other's, if they represent one formula
  pub bit_same : (id at : ExprId) → IsSoundId t net id → formula_at (arena net.exprs) id ≡ formula_at (arena other.exprs) at
      → (p : Bool) → bit_list net id p ≡ bit_list other at p
  bit_same id at sound same p =
      written_same (formula_at (arena net.exprs) id) sound.formula p ∙ ap (λ (f : Formula). written other f p) same
