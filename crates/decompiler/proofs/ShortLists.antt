-- Written lists are short: each product that is inserted adds at most one to a list.
use Rattle.std.proofs.Common.{◌≡◌, ℕ, ◌+◌, ◌*◌, ◌<◌, ◌≤◌, inl, inr, Bool, true, false, not, List, [], ◌∷◌, ◌++◌, length, filter, Some, None, refl, ap, ◌∙◌, arith, length-append, lt-ltb, mul-le-mul, suc-mul, nat_lt, if◌then◌else◌}
use Rattle.decompiler.proofs.Common.{cases_Bool, same_level, Netlist, Leaf, Formula, Const, Read, Not, And, Or, Xor, Cube, Products, adds_nothing, others, appended, insert_one, insert_all, insert_unions, insert_products, sum_of, EachLeaf, leaf_list, list_of, node_list, constant_list, pair_of, bound, IsShort, IsNoNode, StaysBelow, WrittenListsAreShort}
use Rattle.bit_expr.specs.declared.node.Leaf.TheVariants as leaf
use Rattle.covers.specs.Cubes.{lies_in, union, full_cube, literal_cube}
use Rattle.sop_lowering.specs.Products.{product_of}

fewer : (test : Cube → Bool) (rows : List Cube) → length (filter test rows) ≤ length rows
fewer test [] = omega arith
fewer test (c ∷ rows) = elim (cases_Bool (test c)) [ inl e ↦ rw e (omega (arith, fewer test rows)) | inr e ↦ rw e (omega (arith, fewer test rows)) ]

longer : (p : Products) (m n : ℕ) → m ≤ n → IsShort p m → IsShort p n
longer p m n le s = (s.0, s.1, omega (arith, s.2, le))

one_inserted : (rows : List Cube) (c : Cube) → length rows < 1024 → IsShort (insert_one (Some rows) c) (length rows + 1)
one_inserted rows c room = elim (cases_Bool (adds_nothing rows c)) [
  | inl e ↦ (rows, ap (λ (t : Bool). if t then Some rows else appended (others rows c) c) e, omega arith)
  | inr e ↦
      let few : length (others rows c) ≤ length rows = fewer (λ d. not (lies_in d c)) rows in
      let fits : nat_lt (length (others rows c)) 1024 ≡ true = lt-ltb (length (others rows c)) 1024 (omega (arith, few, room)) in (
        others rows c ++ c ∷ [],
        ap (λ (t : Bool). if t then Some rows else appended (others rows c) c) e ∙ ap (λ (t : Bool). if t then Some (others rows c ++ c ∷ []) else None) fits,
        omega (arith, length-append (others rows c) (c ∷ []), few),
      )
]

inserted : (p : Products) (c : Cube) (n : ℕ) → n < 1024 → IsShort p n → IsShort (insert_one p c) (n + 1)
inserted p c n room s =
    let one = one_inserted s.0 c (omega (arith, s.2, room)) in
    (one.0, ap (λ (q : Products). insert_one q c) s.1 ∙ one.1, omega (arith, one.2, s.2))

all_inserted : (p : Products) (cs : List Cube) (n : ℕ) → n + length cs ≤ 1024 → IsShort p n → IsShort (insert_all p cs) (n + length cs)
all_inserted p [] n room s = longer p n (n + 0) (omega arith) s
all_inserted p (c ∷ cs) n room s =
    longer (insert_all (insert_one p c) cs) (n + 1 + length cs) (n + length (c ∷ cs)) (omega arith)
    (all_inserted (insert_one p c) cs (n + 1) (omega (arith, room)) (inserted p c n (omega (arith, room)) s))

unions_inserted : (p : Products) (c : Cube) (ds : List Cube) (n : ℕ) → n + length ds ≤ 1024 → IsShort p n → IsShort (insert_unions p c ds) (n + length ds)
unions_inserted p c [] n room s = longer p n (n + 0) (omega arith) s
unions_inserted p c (d ∷ ds) n room s =
    longer (insert_unions (insert_one p (union c d)) c ds) (n + 1 + length ds) (n + length (d ∷ ds)) (omega arith)
    (unions_inserted (insert_one p (union c d)) c ds (n + 1) (omega (arith, room)) (inserted p (union c d) n (omega (arith, room)) s))

products_inserted : (p : Products) (cs ds : List Cube) (n : ℕ) → n + length cs * length ds ≤ 1024 → IsShort p n → IsShort (insert_products p cs ds) (n + length cs * length ds)
products_inserted p [] ds n room s = longer p n (n + 0 * length ds) (omega arith) s
products_inserted p (c ∷ cs) ds n room s =
    let more : length (c ∷ cs) * length ds ≡ length cs * length ds + length ds = suc-mul (length cs) (length ds) in
    longer (insert_products (insert_unions p c ds) cs ds) (n + length ds + length cs * length ds) (n + length (c ∷ cs) * length ds) (omega (arith, more))
    (products_inserted (insert_unions p c ds) cs ds (n + length ds) (omega (arith, more, room)) (unions_inserted p c ds n (omega (arith, more, room)) s))

sum_short : (a b : Products) (m n : ℕ) → m + n ≤ 1024 → IsShort a m → IsShort b n → IsShort (sum_of a b) (m + n)
sum_short a b m n room s t =
    let whole = all_inserted (Some s.0) t.0 (length s.0) (omega (arith, s.2, t.2, room)) (s.0, refl, omega arith) in (
      whole.0,
      ap (λ (p : Products). sum_of p b) s.1 ∙ ap (λ (p : Products). sum_of (Some s.0) p) t.1 ∙ whole.1,
      omega (arith, whole.2, s.2, t.2),
    )

product_short : (a b : Products) (m n : ℕ) → m * n ≤ 1024 → IsShort a m → IsShort b n → IsShort (product_of a b) (m * n)
product_short a b m n room s t =
    let le : length s.0 * length t.0 ≤ m * n = mul-le-mul s.2 t.2 in
    let whole = products_inserted (Some []) s.0 t.0 0 (omega (arith, le, room)) ([], refl, omega arith) in (
      whole.0,
      ap (λ (p : Products). product_of p b) s.1 ∙ ap (λ (p : Products). product_of (Some s.0) p) t.1 ∙ whole.1,
      omega (arith, whole.2, le),
    )

-- ---- formulas

module _ (net : Netlist) (nodes : ℕ → Bool → Products) where
  leaf_short : (l : Leaf) (positive : Bool) → IsNoNode l → IsShort (leaf_list net nodes l positive) 1
  leaf_short (leaf.Pin p) positive none = (literal_cube (pair_of net (leaf.Pin p)) positive ∷ [], refl, omega arith)
  leaf_short (leaf.Q c) positive none = (literal_cube (pair_of net (leaf.Q c)) positive ∷ [], refl, omega arith)
  leaf_short (leaf.Node n) positive none = absurd none

  constant_short : (on : Bool) → IsShort (constant_list on) (if on then 1 else 0)
  constant_short true = (full_cube ∷ [], refl, omega arith)
  constant_short false = ([], refl, omega arith)

  short : (f : Formula) (positive : Bool) → EachLeaf IsNoNode f → StaysBelow f positive → IsShort (list_of (leaf_list net nodes) f positive) (bound f positive)
  short (Const level) positive each low = constant_short (same_level level positive)
  short (Read l) positive each low = leaf_short l positive each
  short (Not f) positive each low = short f (not positive) each low
  short (And f g) true each low = product_short _ _ (bound f true) (bound g true) low.2 (short f true each.0 low.0) (short g true each.1 low.1)
  short (And f g) false each low = sum_short _ _ (bound f false) (bound g false) low.2 (short f false each.0 low.0) (short g false each.1 low.1)
  short (Or f g) true each low = sum_short _ _ (bound f true) (bound g true) low.2 (short f true each.0 low.0) (short g true each.1 low.1)
  short (Or f g) false each low = product_short _ _ (bound f false) (bound g false) low.2 (short f false each.0 low.0) (short g false each.1 low.1)
  short (Xor f g) positive each low = absurd low

pub all_short : WrittenListsAreShort
all_short net f positive each low = short net (node_list net (length net.nodes)) f positive each low
