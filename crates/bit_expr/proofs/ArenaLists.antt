-- The formulas of an arena's nodes, and what is added to them.
use Rattle.std.proofs.Common.{◌≡◌, ℕ, zero, suc, ◌+◌, ◌-◌, ◌<◌, ◌≤◌, ◌⊎◌, inl, inr, List, [], ◌∷◌, ◌++◌, length, get_or, slice_get, Some, false, true, Bool, Ok, if◌then◌else◌, nat_eq, refl, sym, ap, ap₂, ◌∙◌, subst, arith, length-append}
use Rattle.bit_expr.proofs.Common.{slice_get_within, slice_get-get_or, get_or_from_slice_get, get_or_append_left, Formula, Const, Not, And, Or, Xor, Made, free, ExprId, Node, constants, arena, formulas_from, formula_of, Grew, IsAdded, Adds, LiesIn, AreOverEarlier}
use Rattle.std.proofs.Math.Seq.{get_or-append_seam}
use Rattle.bit_expr.specs.declared.node.Node.TheVariants as node

-- one node more is one formula more
from_more : (fs : List Formula) (ns : List Node) (n : Node) → formulas_from fs (ns ++ n ∷ []) ≡ formulas_from fs ns ++ formula_of (formulas_from fs ns) n ∷ []
from_more fs [] n = refl
from_more fs (m ∷ ns) n = from_more (fs ++ formula_of fs m ∷ []) ns n

pub arena_more : (ns : List Node) (n : Node) → arena (ns ++ n ∷ []) ≡ arena ns ++ formula_of (arena ns) n ∷ []
unfolding arena
arena_more ns n = from_more constants ns n

from_count : (fs : List Formula) (ns : List Node) → length (formulas_from fs ns) ≡ length fs + length ns
from_count fs [] = omega arith
from_count fs (n ∷ ns) = omega (arith, from_count (fs ++ formula_of fs n ∷ []) ns, length-append fs (formula_of fs n ∷ []))

pub arena_count : (ns : List Node) → length (arena ns) ≡ length ns + 2
unfolding arena
arena_count ns = omega (arith, from_count constants ns)

-- an entry stays when others follow, and the last one is at the end
pub get_kept : {X : Type 0} (xs ys : List X) (i : ℕ) (x : X) → slice_get xs i ≡ Some x → slice_get (xs ++ ys) i ≡ Some x
get_kept xs ys i x e =
    let w = slice_get_within xs i x e in
    slice_get-get_or (xs ++ ys) i x (omega (arith, length-append xs ys)) ∙ ap Some (get_or_append_left xs ys x i w ∙ get_or_from_slice_get xs i x x e)

get_last : {X : Type 0} (xs : List X) (x : X) → slice_get (xs ++ x ∷ []) (length xs) ≡ Some x
get_last xs x = slice_get-get_or (xs ++ x ∷ []) (length xs) x (omega (arith, length-append xs (x ∷ []))) ∙ ap Some (get_or-append_seam xs x [] x)

-- an entry of a list with one more is an older one, or that one
pub split_last : {X : Type 0} (xs : List X) (x y : X) (k : ℕ) → slice_get (xs ++ x ∷ []) k ≡ Some y → (slice_get xs k ≡ Some y) ⊎ ((k ≡ length xs) × (x ≡ y))
split_last [] x y zero e = inr (refl, cc)
split_last [] x y (suc k) e = absurd (cc)
split_last (z ∷ xs) x y zero e = inl e
split_last (z ∷ xs) x y (suc k) e = elim (split_last xs x y k e) [ inl h ↦ inl h | inr h ↦ inr (ap suc h.0, h.1) ]

pub grew_one : (ns : List Node) (n : Node) → Grew (arena ns) (arena (ns ++ n ∷ [])) 1
grew_one ns n = record {
  keeps = λ i f e. rw (arena_more ns n) (get_kept (arena ns) (formula_of (arena ns) n ∷ []) i f e);
  count = rw (arena_more ns n) (length-append (arena ns) (formula_of (arena ns) n ∷ []));
}

pub get_new : (ns : List Node) (n : Node) → slice_get (arena (ns ++ n ∷ [])) (length ns + 2) ≡ Some (formula_of (arena ns) n)
get_new ns n = rw (arena_more ns n, ← arena_count ns) (get_last (arena ns) (formula_of (arena ns) n))

pub ordered_more : (ns : List Node) (n : Node) → AreOverEarlier ns → LiesIn (length (arena ns)) n → AreOverEarlier (ns ++ n ∷ [])
ordered_more ns n ordered h k m e =
    elim (split_last ns n m k e) [
      | inl old ↦ ordered k m old
      | inr last ↦ subst (λ j. LiesIn j m) (arena_count ns ∙ ap (λ j. j + 2) (sym last.0)) (subst (LiesIn (length (arena ns))) last.1 h)
    ]

-- the formulas before stay when more follow
from_front : (fs : List Formula) (ns : List Node) (i : ℕ) (d : Formula) → i < length fs → get_or (formulas_from fs ns) i d ≡ get_or fs i d
from_front fs [] i d h = refl
from_front fs (n ∷ ns) i d h =
    from_front (fs ++ formula_of fs n ∷ []) ns i d (omega (arith, length-append fs (formula_of fs n ∷ []))) ∙ get_or_append_left fs (formula_of fs n ∷ []) d i h

pub first_formula : (ns : List Node) (i : ℕ) → i < 2 → get_or (arena ns) i (Const false) ≡ get_or constants i (Const false)
unfolding arena
first_formula ns i h = from_front constants ns i (Const false) h

-- a node's formula doesn't depend on what follows
same_formula : (more fs : List Formula) (n : Node) → ((i : ℕ) → i < length fs → get_or more i (Const false) ≡ get_or fs i (Const false)) → LiesIn (length fs) n → formula_of more n ≡ formula_of fs n
same_formula more fs (node.Const on) e h = refl
same_formula more fs (node.Leaf l) e h = refl
same_formula more fs (node.Not a) e h = ap Not (e a.0 h)
same_formula more fs (node.And a b) e h = ap₂ And (e a.0 h.0) (e b.0 h.1)
same_formula more fs (node.Or a b) e h = ap₂ Or (e a.0 h.0) (e b.0 h.1)
same_formula more fs (node.Xor a b) e h = ap₂ Xor (e a.0 h.0) (e b.0 h.1)

from_at : (fs : List Formula) (ns : List Node) (k : ℕ) (n : Node) → slice_get ns k ≡ Some n → ((j : ℕ) (m : Node) → slice_get ns j ≡ Some m → LiesIn (length fs + j) m) → get_or (formulas_from fs ns) (length fs + k) (Const false) ≡ formula_of (formulas_from fs ns) n
from_at fs [] k n e h = absurd (cc)
from_at fs (m ∷ ns) zero n e h =
    let more = fs ++ formula_of fs m ∷ [] in
    let here : m ≡ n = cc in
    let size : length more ≡ length fs + 1 = length-append fs (formula_of fs m ∷ []) in
    let plain : length fs + 0 ≡ length fs = omega arith in
    ap (λ i. get_or (formulas_from more ns) i (Const false)) plain
    ∙ from_front more ns (length fs) (Const false) (omega arith)
    ∙ get_or-append_seam fs (formula_of fs m) [] (Const false)
    ∙ sym (same_formula (formulas_from more ns) fs m (λ i b. from_front more ns i (Const false) (omega arith) ∙ get_or_append_left fs (formula_of fs m ∷ []) (Const false) i b) (subst (λ i. LiesIn i m) plain (h 0 m refl)))
    ∙ ap (formula_of (formulas_from more ns)) here
from_at fs (m ∷ ns) (suc k) n e h =
    let more = fs ++ formula_of fs m ∷ [] in
    let size : length more ≡ length fs + 1 = length-append fs (formula_of fs m ∷ []) in
    let place : length fs + suc k ≡ length more + k = omega arith in
    ap (λ i. get_or (formulas_from more ns) i (Const false)) place
    ∙ from_at more ns k n e (λ j x g. subst (λ i. LiesIn i x) (omega arith) (h (suc j) x g))

pub node_is : (ns : List Node) (i : ℕ) (n : Node) → AreOverEarlier ns → 2 ≤ i → slice_get ns (i - 2) ≡ Some n → formula_of (arena ns) n ≡ get_or (arena ns) i (Const false)
unfolding arena
node_is ns i n ordered low e =
    let place : 2 + (i - 2) ≡ i = omega arith in
    sym (ap (λ j. get_or (formulas_from constants ns) j (Const false)) (sym place) ∙ from_at constants ns (i - 2) n e (λ j m g. subst (λ c. LiesIn c m) (omega arith) (ordered j m g)))

pub node_lies : (ns : List Node) (i : ℕ) (n : Node) → AreOverEarlier ns → 2 ≤ i → slice_get ns (i - 2) ≡ Some n → LiesIn i n
node_lies ns i n ordered low e = subst (λ c. LiesIn c n) (omega arith) (ordered (i - 2) n e)

pub low_formula : (ns : List Node) (i : ℕ) → i < 2 → Const (nat_eq i 1) ≡ get_or (arena ns) i (Const false)
low_formula ns zero h = sym (first_formula ns 0 h)
low_formula ns (suc zero) h = sym (first_formula ns 1 h)
low_formula ns (suc (suc i)) h = absurd (omega arith)

grew_none : (fs : List Formula) → Grew fs fs 0
grew_none fs = record { keeps = λ i f e. e; count = omega arith }

-- an id that is there answers a formula that makes nothing
pub adds_there : (most : ℕ) (ns : List Node) (id : ExprId) (m : Made Formula) → id.0 < length (arena ns) → m ≡ free (get_or (arena ns) id.0 (Const false)) → Adds most ns ns (Ok id) m
adds_there most ns id m h e =
    subst (λ (m : Made Formula). IsAdded most (arena ns) (arena ns) id m) (sym e)
    (record { formula = slice_get-get_or (arena ns) id.0 (Const false) h; grew = grew_none (arena ns); within = λ p. omega (arith, p.0) })

pub adds_level : (most : ℕ) (ns : List Node) (id : ExprId) (on : Bool) (m : Made Formula) → id.0 ≡ (if on then 1 else 0) → m ≡ free (Const on) → Adds most ns ns (Ok id) m
adds_level most ns id true m i e = adds_there most ns id m (omega (arith, arena_count ns)) (e ∙ ap (λ f. free f) (sym (ap (λ k. get_or (arena ns) k (Const false)) i ∙ first_formula ns 1 (omega arith))))
adds_level most ns id false m i e = adds_there most ns id m (omega (arith, arena_count ns)) (e ∙ ap (λ f. free f) (sym (ap (λ k. get_or (arena ns) k (Const false)) i ∙ first_formula ns 0 (omega arith))))
