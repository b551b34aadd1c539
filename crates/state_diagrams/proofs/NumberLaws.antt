-- The number of a value that reads no signal, by its bits if all signals are 0.
use Rattle.std.proofs.Common.{◌≡◌, ℕ, suc, ◌<◌, ◌≤◌, Bool, true, false, ◌||◌, Option, None, Some, List, [], ◌∷◌, length, map, refl, sym, ap, ap₂, ◌∙◌, subst, arith}
use Rattle.state_diagrams.proofs.Common.{ExprId, Formula, formula_value, Names, entries_of, Tree, none_refused, Context, bits_of, Value, width_of, number_with, Term, Terms, known_of, term_of, term_value, set_value, constant_of, empty_point, binary_value, unary_value, joined_value, number_small, number_of_digits, SectionFault, IsShaped, bits_at, positions, refusal_of, expression_found, section_order, all_zero}
use Rattle.expr_bits.specs.Reads.{reads_signal, any_reads_signal}
use Rattle.std.proofs.Math.Pow.{pow_mono}
use Rattle.pld_base.specs.Points.{Levels}
use Rattle.abel_meaning.specs.Numbers as number
use Rattle.abel_meaning.specs.Terms as term
use Rattle.abel_meaning.proofs.FormulasFollow.{term_agrees}
use Rattle.abel_meaning.proofs.TermValues.{HasBits}
use Rattle.set_expr.specs.declared.shaped.Shape.{Shape}
use Rattle.set_expr.specs.declared.shaped.Shape.TheVariants as shape
use Rattle.set_expr.specs.declared.shaped.Shaped.{Shaped}
use Rattle.set_expr.specs.Shapes.{HasShape}
use Rattle.expr_bits.proofs.Linked.{IsLinkedIf, expression_linked}

-- ---- what reads no signal has one value at all points

pub neither : (a b : Bool) → (a || b) ≡ false → (a ≡ false) × (b ≡ false)
neither false b h = (refl, h)
neither true b h = absurd cc

mutual
  same_value : (d : Context) (at : Levels) (t : Term) → reads_signal t ≡ false → term_value d at t ≡ constant_of d t
  same_value d at (term.Read s e) h = absurd cc
  same_value d at (term.Set ts) h = same_set d at ts h
  same_value d at (term.UnaryOf sign t) h = ap (unary_value sign) (same_value d at t h)
  same_value d at (term.BinaryOf sign t u) h =
      let n = neither (reads_signal t) (reads_signal u) h in
      ap₂ (binary_value sign) (same_value d at t n.0) (same_value d at u n.1)
  same_value d at _ h = refl

  same_set : (d : Context) (at : Levels) (ts : Terms) → any_reads_signal ts ≡ false → set_value d at ts ≡ set_value d empty_point ts
  same_set d at term.NoTerm h = refl
  same_set d at (term.Before t ts) h =
      let n = neither (reads_signal t) (any_reads_signal ts) h in
      ap₂ joined_value (same_value d at t n.0) (same_set d at ts n.1)

-- ---- the number of positions

-- the positions of a value that reads no signal, if it is no number of its own
pub places_say : (d : Context) (fs : List Formula) (s : Shaped) (t : Term) → reads_signal t ≡ false → IsShaped fs s (constant_of d t) (bits_of d t).what
    → ((n : ℕ) → s.shape ≡ shape.Number n → ⊥) → number_with (map (formula_value all_zero) (bits_at fs s.places)) ≡ (constant_of d t).number
places_say d fs s t still h other =
    ap (λ w. number_with (map (formula_value all_zero) w)) h.bits ∙ by_shape v.shape refl has
  where
    v : Value
    v = constant_of d t

    bs : List Bool
    bs = map (formula_value all_zero) (bits_of d t).what

    has : HasBits v.shape v.number v.number bs
    has = subst (λ (x : Value). HasBits v.shape v.number x.number bs) (same_value d all_zero t still) (term_agrees d all_zero t).has

    no_number : (x : Shape) → s.shape ≡ x → HasShape x v → v.shape ≡ number.Number → ⊥
    no_number (shape.Number n) p q e = other n p
    no_number _ p q e = cc

    by_shape : (x : number.Shape) → v.shape ≡ x → HasBits x v.number v.number bs → number_with bs ≡ v.number
    by_shape number.Number e k = absurd (no_number s.shape refl h.shape e)
    by_shape number.Single e k = ap number_with k.1 ∙ number_of_digits 1 v.number k.0
    by_shape (number.Set w) e k = ap number_with k.1 ∙ number_of_digits w v.number k.0

-- ---- few positions

narrow_if : (d : Context) (o : Option Value) (xs : List SectionFault) (t : Term) → (o ≡ None → ⊥) → IsLinkedIf d o xs t → width_of (constant_of d t).shape ≤ 32
narrow_if d None xs t h l = absurd (h refl)
narrow_if d (Some v) xs t h l = subst (λ s. width_of s ≤ 32) (sym l.0.shape) l.3

pub narrow : (n : Names) (d : Context) (t : Tree) → d.known ≡ known_of (entries_of n) → refusal_of n t ≡ None → width_of (constant_of d (term_of d.known t)).shape ≤ 32
narrow n d t known e =
    let f = expression_found (entries_of n) t in
    let l = expression_linked d (entries_of n) t in
    subst (λ ks. width_of (constant_of d (term_of ks t)).shape ≤ 32) (sym known)
    (narrow_if d f.value f.specials (term_of (known_of (entries_of n)) t) (l.valued (none_refused section_order f.refusals (sym e))) l.linked)

pub few_positions : (s : Shape) (v : Value) → HasShape s v → width_of v.shape ≤ 32 → positions s ≤ 32
few_positions (shape.Set k) v h w = subst (λ x. width_of x ≤ 32) h w
few_positions _ v h w = omega arith

-- all but one of 32 positions make a number that can be doubled
counted : (fs : List Formula) (ps : List (Option ExprId)) → length (map (formula_value all_zero) (bits_at fs ps)) ≡ length ps
counted fs [] = refl
counted fs (None ∷ ps) = ap suc (counted fs ps)
counted fs (Some id ∷ ps) = ap suc (counted fs ps)

pub rest_small : (fs : List Formula) (ps : List (Option ExprId)) → length ps ≤ 31 → number_with (map (formula_value all_zero) (bits_at fs ps)) < 2147483648
rest_small fs ps few =
    let bs = map (formula_value all_zero) (bits_at fs ps) in
    let small = number_small bs in
    let size : length bs ≤ 31 = omega (arith, counted fs ps, few) in
    let power = pow_mono size in
    omega (arith, small, power)
