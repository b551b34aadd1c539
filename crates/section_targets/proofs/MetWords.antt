-- The bits of a value, position after position.
use Rattle.std.proofs.Common.{◌≡◌, ℕ, ◌<◌, false, true, List, [], ◌∷◌, All, Option, None, Some, length, get_or, replicate, unwrap_or, refl, ap, ap₂, ◌∙◌, subst, sym, arith}
use Rattle.section_targets.proofs.Common.{All-cons, All-nil, length-map, ExprId, Node, arena, formula_at, Formula, Const, met_by, met_word, Value, IsShaped, AreIn, bits_at, positions, digit_ids, resized_ids, AreBits, IsBit, known_ids}
use Rattle.bit_expr.proofs.ArenaLists.{arena_count, first_formula}
use Rattle.abel_meaning.specs.Numbers as number
use Rattle.set_expr.specs.Shapes.{HasShape}
use Rattle.set_expr.specs.declared.shaped.Shape.{Shape}
use Rattle.set_expr.specs.declared.shaped.Shape.TheVariants as shape
use Rattle.set_expr.specs.declared.shaped.Shaped.{Shaped}
use Rattle.expr_bits.specs.Making.{AllIn, word_at, ShowsAll}
use Rattle.expr_bits.proofs.PositionWords.{digits_in, digits_at, resized_in, resized_at, spread_in, spread_at}

pub low_bit : (ns : List Node) (id : ExprId) → id.0 ≡ 0 → IsBit (arena ns) id (Const false)
low_bit ns id e = (omega (arith, arena_count ns, e), ap (λ k. get_or (arena ns) k (Const false)) e ∙ first_formula ns 0 (omega arith))

pub high_bit : (ns : List Node) (id : ExprId) → id.0 ≡ 1 → IsBit (arena ns) id (Const true)
high_bit ns id e = (omega (arith, arena_count ns, e), ap (λ k. get_or (arena ns) k (Const false)) e ∙ first_formula ns 1 (omega arith))

-- ids that show a word are its bits
all_in : (count : ℕ) (ids : List ExprId) → AllIn count ids → All (λ (id : ExprId). id.0 < count) ids
all_in count [] h = All-nil (λ (id : ExprId). id.0 < count)
all_in count (id ∷ ids) h = All-cons (λ (x : ExprId). x.0 < count) id ids h.0 (all_in count ids h.1)

pub shown_bits : (fs : List Formula) (ids : List ExprId) (gs : List Formula) → ShowsAll fs ids gs → AreBits fs ids gs
shown_bits fs ids gs h = (all_in (length fs) ids h.0, h.1)

-- positions, 0 at X
known_shown : (ns : List Node) (ps : List (Option ExprId)) → AreIn (length (arena ns)) ps → ShowsAll (arena ns) (known_ids ps) (bits_at (arena ns) ps)
known_shown ns [] h = (tt, refl)
known_shown ns (None ∷ ps) h =
    let low = low_bit ns (record { 0 = 0 }) refl in
    let rest = known_shown ns ps h in
    ((low.0, rest.0), ap₂ (λ x xs. x ∷ xs) low.1 rest.1)
known_shown ns (Some id ∷ ps) h = let rest = known_shown ns ps h.1 in ((h.0, rest.0), ap (λ xs. formula_at (arena ns) id ∷ xs) rest.1)

-- ---- by shape

-- one bit is spread
first_met : (fs : List Formula) (k n : ℕ) (ids : List ExprId) → length ids ≡ 1 → AllIn (length fs) ids → ShowsAll fs (replicate k (get_or ids 0 (record { 0 = 0 }))) (met_by k number.Single n (word_at fs ids))
first_met fs k n [] e a = absurd (omega (arith, e))
first_met fs k n (x ∷ xs) e a = (spread_in (length fs) k x a.0, spread_at fs k x)

module _ (ns : List Node) (s : Shaped) (v : Value) (w : List Formula) (k : ℕ) (is : IsShaped (arena ns) s v w) where
  pub met_number : (n : ℕ) → s.shape ≡ shape.Number n → AreBits (arena ns) (digit_ids k n) (met_word k v w)
  met_number n e =
      let h = subst (λ (x : Shape). HasShape x v) e is.shape in
      shown_bits (arena ns) (digit_ids k n) (met_word k v w) (digits_in ns k n, digits_at ns k n ∙ sym (ap₂ (λ a b. met_by k a b w) h.0 h.1))

  pub met_set : (n : ℕ) → s.shape ≡ shape.Set n → AreBits (arena ns) (resized_ids k (known_ids s.places)) (met_word k v w)
  met_set n e =
      let h = subst (λ (x : Shape). HasShape x v) e is.shape in
      let known = known_shown ns s.places is.inside in
      shown_bits (arena ns) (resized_ids k (known_ids s.places)) (met_word k v w)
      (resized_in ns k (known_ids s.places) known.0, resized_at ns k (known_ids s.places) ∙ ap₂ (λ a x. met_by k a v.number x) (sym h) (known.1 ∙ is.bits))

  pub met_single : s.shape ≡ shape.Single → AreBits (arena ns) (replicate k (get_or (known_ids s.places) 0 (record { 0 = 0 }))) (met_word k v w)
  met_single e =
      let h = subst (λ (x : Shape). HasShape x v) e is.shape in
      let known = known_shown ns s.places is.inside in
      let met = first_met (arena ns) k v.number (known_ids s.places) (length-map s.places (λ (o : Option ExprId). unwrap_or o (record { 0 = 0 })) ∙ is.positions ∙ ap positions e) known.0 in
      shown_bits (arena ns) (replicate k (get_or (known_ids s.places) 0 (record { 0 = 0 }))) (met_word k v w)
      (met.0, met.1 ∙ ap₂ (λ a x. met_by k a v.number x) (sym h) (known.1 ∙ is.bits))
