-- Each formula is written after the others, node by node.
use Rattle.std.proofs.Common.{◌≡◌, ℕ, zero, suc, ◌+◌, ◌-◌, ◌<◌, ◌≤◌, true, false, List, [], ◌∷◌, ◌++◌, length, map, get_or, refl, sym, ap, subst, ◌∙◌, arith, length-append}
use Rattle.decompiler.proofs.Common.{AllByRecursion, ExprId, arena, constants, formula_at, formula_of, formulas_from, Formula, Const, Read, Not, And, Or, Xor, nodes_of, all_nodes_of, ArenasAreThere}
use Rattle.bit_expr.specs.declared.node.Leaf.TheVariants as leaf
use Rattle.bit_expr.specs.declared.node.Node.{Node}
use Rattle.bit_expr.specs.declared.node.Node.TheVariants as node

-- ---- lists

at_front : (fs gs : List Formula) (i : ℕ) → i < length fs → get_or (fs ++ gs) i (Const false) ≡ get_or fs i (Const false)
at_front [] gs i lt = absurd (omega arith)
at_front (f ∷ fs) gs zero lt = refl
at_front (f ∷ fs) gs (suc i) lt = at_front fs gs i (omega arith)

at_end : (fs : List Formula) (f : Formula) → get_or (fs ++ f ∷ []) (length fs) (Const false) ≡ f
at_end [] f = refl
at_end (g ∷ fs) f = at_end fs f

from_both : (fs : List Formula) (a b : List Node) → formulas_from fs (a ++ b) ≡ formulas_from (formulas_from fs a) b
from_both fs [] b = refl
from_both fs (n ∷ a) b = from_both (fs ++ formula_of fs n ∷ []) a b

-- ---- one formula

pub record Put (f : Formula) (fs : List Formula) : Type 0 where
  pub nodes : List Node
  pub id : ExprId
  pub held : formula_at (formulas_from fs nodes) id ≡ f
  pub inside : id.0 < length (formulas_from fs nodes)
  pub size : length (formulas_from fs nodes) ≡ length fs + nodes_of f
  pub keeps : (i : ℕ) → i < length fs → get_or (formulas_from fs nodes) i (Const false) ≡ get_or fs i (Const false)

-- the constants are there
pub record HasConstants (fs : List Formula) : Type 0 where
  pub low : get_or fs 0 (Const false) ≡ Const false
  pub high : get_or fs 1 (Const false) ≡ Const true
  pub two : 2 ≤ length fs

still : (f : Formula) (fs : List Formula) (p : Put f fs) → HasConstants fs → HasConstants (formulas_from fs p.nodes)
still f fs p c =
    record {
      low = p.keeps 0 (omega (arith, c.two)) ∙ c.low;
      high = p.keeps 1 (omega (arith, c.two)) ∙ c.high;
      two = omega (arith, c.two, p.size);
    }

-- one more node after others
module _ (fs : List Formula) (nodes : List Node) (n : Node) where
  abbrev before : List Formula
  before = formulas_from fs nodes

  one_more : formulas_from fs (nodes ++ n ∷ []) ≡ before ++ formula_of before n ∷ []
  one_more = from_both fs nodes (n ∷ [])

  put_node : (f : Formula) (k : ℕ) → formula_of before n ≡ f → length before ≡ length fs + k → nodes_of f ≡ k + 1
      → ((i : ℕ) → i < length fs → get_or before i (Const false) ≡ get_or fs i (Const false)) → Put f fs
  put_node f k is size count keeps =
      let l : length (before ++ formula_of before n ∷ []) ≡ length before + 1 = omega (arith, length-append before (formula_of before n ∷ [])) in
      record {
        nodes = nodes ++ n ∷ [];
        id = record { 0 = length before };
        held = ap (λ (gs : List Formula). get_or gs (length before) (Const false)) one_more ∙ at_end before (formula_of before n) ∙ is;
        inside = omega (arith, ap length one_more, l);
        size = omega (arith, ap length one_more, l, size, count);
        keeps = λ i lt. ap (λ (gs : List Formula). get_or gs i (Const false)) one_more ∙ at_front before (formula_of before n ∷ []) i (omega (arith, lt, size)) ∙ keeps i lt;
      }

-- two formulas, one after the other
pub record PutTwo (f g : Formula) (fs : List Formula) : Type 0 where
  pub nodes : List Node
  pub first : ExprId
  pub second : ExprId
  pub first_held : formula_at (formulas_from fs nodes) first ≡ f
  pub second_held : formula_at (formulas_from fs nodes) second ≡ g
  pub size : length (formulas_from fs nodes) ≡ length fs + (nodes_of f + nodes_of g)
  pub keeps : (i : ℕ) → i < length fs → get_or (formulas_from fs nodes) i (Const false) ≡ get_or fs i (Const false)

two : (f g : Formula) (fs : List Formula) (p : Put f fs) → Put g (formulas_from fs p.nodes) → PutTwo f g fs
two f g fs p q =
    let whole : formulas_from fs (p.nodes ++ q.nodes) ≡ formulas_from (formulas_from fs p.nodes) q.nodes = from_both fs p.nodes q.nodes in
    record {
      nodes = p.nodes ++ q.nodes;
      first = p.id;
      second = q.id;
      first_held = ap (λ (gs : List Formula). formula_at gs p.id) whole ∙ q.keeps p.id.0 p.inside ∙ p.held;
      second_held = ap (λ (gs : List Formula). formula_at gs q.id) whole ∙ q.held;
      size = omega (arith, ap length whole, q.size, p.size);
      keeps = λ i lt. ap (λ (gs : List Formula). get_or gs i (Const false)) whole ∙ q.keeps i (omega (arith, lt, p.size)) ∙ p.keeps i lt;
    }

put : (f : Formula) (fs : List Formula) → HasConstants fs → Put f fs
put (Const false) fs c = record { nodes = []; id = record { 0 = 0 }; held = c.low; inside = omega (arith, c.two); size = omega arith; keeps = λ i lt. refl }
put (Const true) fs c = record { nodes = []; id = record { 0 = 1 }; held = c.high; inside = omega (arith, c.two); size = omega arith; keeps = λ i lt. refl }
put (Read l) fs c = put_node fs [] (node.Leaf l) (Read l) 0 refl (omega arith) refl (λ i lt. refl)
put (Not f) fs c =
    let p = put f fs c in
    put_node fs p.nodes (node.Not p.id) (Not f) (nodes_of f) (ap Not p.held) p.size refl p.keeps
put (And f g) fs c =
    let p = put f fs c in
    let t = two f g fs p (put g (formulas_from fs p.nodes) (still f fs p c)) in
    put_node fs t.nodes (node.And t.first t.second) (And f g) (nodes_of f + nodes_of g) (ap (λ (h : Formula). And h (formula_at (formulas_from fs t.nodes) t.second)) t.first_held ∙ ap (And f) t.second_held) t.size refl t.keeps
put (Or f g) fs c =
    let p = put f fs c in
    let t = two f g fs p (put g (formulas_from fs p.nodes) (still f fs p c)) in
    put_node fs t.nodes (node.Or t.first t.second) (Or f g) (nodes_of f + nodes_of g) (ap (λ (h : Formula). Or h (formula_at (formulas_from fs t.nodes) t.second)) t.first_held ∙ ap (Or f) t.second_held) t.size refl t.keeps
put (Xor f g) fs c =
    let p = put f fs c in
    let t = two f g fs p (put g (formulas_from fs p.nodes) (still f fs p c)) in
    put_node fs t.nodes (node.Xor t.first t.second) (Xor f g) (nodes_of f + nodes_of g) (ap (λ (h : Formula). Xor h (formula_at (formulas_from fs t.nodes) t.second)) t.first_held ∙ ap (Xor f) t.second_held) t.size refl t.keeps

-- ---- all of them, and nodes that fill the arena up

pub record PutAll (hs fs : List Formula) (count : ℕ) : Type 0 where
  pub nodes : List Node
  pub ids : List ExprId
  pub each : map (formula_at (formulas_from fs nodes)) ids ≡ hs
  pub inside : AllByRecursion (λ (id : ExprId). id.0 < length (formulas_from fs nodes)) ids
  pub size : length (formulas_from fs nodes) ≡ length fs + count
  pub keeps : (i : ℕ) → i < length fs → get_or (formulas_from fs nodes) i (Const false) ≡ get_or fs i (Const false)

filled : (count : ℕ) (fs : List Formula) → PutAll [] fs count
filled zero fs = record { nodes = []; ids = []; each = refl; inside = tt; size = omega arith; keeps = λ i lt. refl }
filled (suc count) fs =
    let n : Node = node.Leaf (leaf.Pin 0) in
    let gs : List Formula = fs ++ Read (leaf.Pin 0) ∷ [] in
    let l : length gs ≡ length fs + 1 = omega (arith, length-append fs (Read (leaf.Pin 0) ∷ [])) in
    let r = filled count gs in
    record {
      nodes = n ∷ r.nodes;
      ids = [];
      each = refl;
      inside = tt;
      size = omega (arith, r.size, l);
      keeps = λ i lt. r.keeps i (omega (arith, lt, l)) ∙ at_front fs (Read (leaf.Pin 0) ∷ []) i lt;
    }

all_put : (hs fs : List Formula) (count : ℕ) → HasConstants fs → all_nodes_of hs ≤ count → PutAll hs fs count
all_put [] fs count c enough = filled count fs
all_put (h ∷ hs) fs count c enough =
    let p = put h fs c in
    let gs : List Formula = formulas_from fs p.nodes in
    let r = all_put hs gs (count - nodes_of h) (still h fs p c) (omega (arith, enough)) in
    let whole : formulas_from fs (p.nodes ++ r.nodes) ≡ formulas_from gs r.nodes = from_both fs p.nodes r.nodes in
    let first : formula_at (formulas_from gs r.nodes) p.id ≡ h = r.keeps p.id.0 p.inside ∙ p.held in
    let lower : p.id.0 < length (formulas_from gs r.nodes) = omega (arith, p.inside, r.size) in
    let list : map (formula_at (formulas_from gs r.nodes)) (p.id ∷ r.ids) ≡ h ∷ hs = ap (λ (x : Formula). x ∷ map (formula_at (formulas_from gs r.nodes)) r.ids) first ∙ ap (λ (xs : List Formula). h ∷ xs) r.each in
    record {
      nodes = p.nodes ++ r.nodes;
      ids = p.id ∷ r.ids;
      each = ap (λ (xs : List Formula). map (formula_at xs) (p.id ∷ r.ids)) whole ∙ list;
      inside = subst (λ (xs : List Formula). AllByRecursion (λ (id : ExprId). id.0 < length xs) (p.id ∷ r.ids)) (sym whole) (lower, r.inside);
      size = omega (arith, ap length whole, r.size, p.size, enough);
      keeps = λ i lt. ap (λ (xs : List Formula). get_or xs i (Const false)) whole ∙ r.keeps i (omega (arith, lt, p.size)) ∙ p.keeps i lt;
    }

pub arenas_there : ArenasAreThere
unfolding arena
arenas_there hs count enough =
    let r = all_put hs constants count (record { low = refl; high = refl; two = omega arith }) enough in
    record { nodes = r.nodes; ids = r.ids; each = r.each; inside = r.inside; size = r.size }
