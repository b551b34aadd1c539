-- The weights of stacks of work, of ranges and of names.
use Rattle.std.proofs.Common.{◌≡◌, ◌<◌, ◌≤◌, ℕ, zero, suc, ◌+◌, Some, List, [], ◌∷◌, ◌++◌, Result, IfOk, inl, inr, sym, ap, ◌∙◌, arith}
use Rattle.expr_bits.proofs.Common.{eqb_tells, IfOk-weaker, Vec, Entry, find, Work, found_weight, name_weight, named_weight, number_weight, range_weight, stack_weight, work_weight, OutOfMemory}

-- ---- stacks

on_top : (es : List Entry) (ws : List Work) (w : Work) → stack_weight es (ws ++ w ∷ []) ≡ stack_weight es ws + work_weight es w
on_top es [] w = omega arith
on_top es (x ∷ ws) w = omega (arith, on_top es ws w)

pub weight_more : (es : List Entry) (new old : List Work) (w : Work) → new ≡ old ++ w ∷ [] → stack_weight es new ≡ stack_weight es old + work_weight es w
weight_more es new old w e = ap (stack_weight es) e ∙ on_top es old w

pub weight_taken : (es : List Entry) {ws : List Work} (left : List Work) {w : Work} (v : Work) → ws ≡ left ++ w ∷ [] → w ≡ v → stack_weight es ws ≡ stack_weight es left + work_weight es v
weight_taken es {ws} left {w} v e f = weight_more es ws left w e ∙ ap (λ x. stack_weight es left + work_weight es x) f

-- work in place of what weighs more
pub weighs_less : (es : List Entry) (old : List Work) (w : Work) (n : ℕ) (r : Result (Vec Work) OutOfMemory) → IfOk r (λ new. new.items ≡ old ++ w ∷ []) → work_weight es w < n → IfOk r (λ new. stack_weight es new.items < stack_weight es old + n)
weighs_less es old w n r put h = IfOk-weaker r _ _ (λ new has. omega (arith, h, weight_more es new.items old w has)) put

-- ---- names

pub range_longer : (name : List ℕ → ℕ) (ns : List (List ℕ)) (n : List ℕ) → range_weight name (ns ++ n ∷ []) ≡ range_weight name ns + (1 + name n)
range_longer name [] n = omega arith
range_longer name (x ∷ ns) n = omega (arith, range_longer name ns n)

number_below : (es : List Entry) (count k : ℕ) → k < count → number_weight es count k ≡ named_weight es k
number_below es zero k h = absurd (omega (arith, h))
number_below es (suc n) k h =
    elim (eqb_tells k n) [
      | inl p ↦ rw p.0 (ap (named_weight es) (sym p.1))
      | inr p ↦ rw p.0 (number_below es n k (omega (arith, h, p.1)))
    ]

-- a name is heavier than its number
pub name_below : (es : List Entry) (count k : ℕ) (text : List ℕ) → find es text ≡ Some k → k < count → named_weight es k ≤ name_weight es count text
name_below es count k text e h = omega (arith, ap (found_weight (λ j. number_weight es count j)) e, number_below es count k h)
