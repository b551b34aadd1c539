-- If a cell is a register in one of two logics alone, they are alike only if both are always reset.
use Rattle.std.proofs.Common.{◌≡◌, ◌≢◌, ◌⊎◌, ℕ, ◌<◌, Bool, true, false, not, ◌&&◌, List, refl, sym, ◌∙◌, subst, arith, inl, inr, le-ltb, lt-ltb}
use Rattle.fuse_compare.proofs.Common.{cases_Bool, cases_lt, true≢false, is_on, Levels, is_register, Lookups, logic_of, IsWide, AtRest, q_at_rest, rests_once, AlikeAt, IsTold, SameShape}

-- a register whose Q is 0 though it is stored as 1 is reset; one of the two may be no register
reset_of : (r x : Bool) → (r && (not x && true)) ≡ false → (r ≡ true) → x ≡ true
reset_of true true h e = refl
reset_of true false h e = absurd (true≢false h)
reset_of false x h e = absurd (true≢false (sym e))

-- of two registers, of which just one is there, that have the same Q though it is stored as 1, that one is reset
one_reset : (ra rb xa xb : Bool) → ra ≢ rb → (ra && (not xa && true)) ≡ (rb && (not xb && true)) → (ra && (not xa && true)) ≡ false
one_reset true true xa xb other h = absurd (other refl)
one_reset false rb xa xb other h = refl
one_reset true false xa xb other h = h

-- nothing is stored under reset
under_reset : (r x y : Bool) → (r ≡ true → x ≡ true) → (r && (not x && y)) ≡ false
under_reset false x y h = refl
under_reset true true y h = refl
under_reset true false y h = absurd (true≢false (sym (h refl)))

module _ (a b : Lookups) (shape : SameShape a b) (ta : IsTold a) (tb : IsTold b) (o s full : List Bool) (o_wide : IsWide o) (s_wide : IsWide s)
    (d : ℕ) (within : d < a.cells) (mixed : a.stores d ≢ b.stores d)
    (first_reset : (at : Levels) (c : ℕ) → a.reset at c ≡ a.reset at d) (second_reset : (at : Levels) (c : ℕ) → b.reset at c ≡ b.reset at d)
    (first_full : (c : ℕ) → c < a.cells → a.stores c ≡ true → is_on full c ≡ true) (second_full : (c : ℕ) → c < a.cells → b.stores c ≡ true → is_on full c ≡ true)
    (alike : AlikeAt a b o full) where
  low : (c : ℕ) → c < a.cells → c < 32
  low c less = omega (arith, ta.ordered.has_pins.cells, less)

  register_is : (m : Lookups) (c : ℕ) → c < m.cells → is_register (logic_of m) c ≡ m.stores c
  register_is m c less = rw (lt-ltb c m.cells less) refl

  -- the Q of a cell that is stored as 1 at the point at rest
  first_q : (c : ℕ) → c < a.cells → is_on full c ≡ true → is_on alike.at.q c ≡ (a.stores c && (not (a.reset alike.at d) && true))
  first_q c less one = alike.rest.at_rest.registers c (low c less) ∙ rw (lt-ltb c a.cells less, one, first_reset alike.at c) refl

  second_q : (c : ℕ) → c < a.cells → is_on full c ≡ true → is_on alike.at.q c ≡ (b.stores c && (not (b.reset alike.at d) && true))
  second_q c less one = alike.too.rests.registers c (low c less) ∙ rw (lt-ltb c b.cells (subst (λ n. c < n) shape.cells less), one, second_reset alike.at c) refl

  d_full : is_on full d ≡ true
  d_full = by_kinds (cases_Bool (a.stores d)) (cases_Bool (b.stores d))
    where
      by_kinds : (a.stores d ≡ true) ⊎ (a.stores d ≡ false) → (b.stores d ≡ true) ⊎ (b.stores d ≡ false) → is_on full d ≡ true
      by_kinds (inl first) second = first_full d within first
      by_kinds (inr first) (inl second) = second_full d within second
      by_kinds (inr first) (inr second) = absurd (mixed (first ∙ sym second))

  q_of_d : is_on alike.at.q d ≡ false
  q_of_d = first_q d within d_full ∙ one_reset (a.stores d) (b.stores d) (a.reset alike.at d) (b.reset alike.at d) mixed (sym (first_q d within d_full) ∙ second_q d within d_full)

  -- one of the two is reset there, and so the other too, if it has a register
  either_reset : (a.reset alike.at d ≡ true) ⊎ (b.reset alike.at d ≡ true)
  either_reset = by_kinds (cases_Bool (a.stores d)) (cases_Bool (b.stores d))
    where
      by_kinds : (a.stores d ≡ true) ⊎ (a.stores d ≡ false) → (b.stores d ≡ true) ⊎ (b.stores d ≡ false) → (a.reset alike.at d ≡ true) ⊎ (b.reset alike.at d ≡ true)
      by_kinds (inl first) second = inl (reset_of (a.stores d) (a.reset alike.at d) (sym (first_q d within d_full) ∙ q_of_d) first)
      by_kinds (inr first) (inl second) = inr (reset_of (b.stores d) (b.reset alike.at d) (sym (second_q d within d_full) ∙ q_of_d) second)
      by_kinds (inr first) (inr second) = absurd (mixed (first ∙ sym second))

  no_q : (c : ℕ) → c < a.cells → is_on full c ≡ true → is_on alike.at.q c ≡ false
  no_q c less one = by_reset either_reset
    where
      by_reset : (a.reset alike.at d ≡ true) ⊎ (b.reset alike.at d ≡ true) → is_on alike.at.q c ≡ false
      by_reset (inl first) = first_q c less one ∙ under_reset (a.stores c) (a.reset alike.at d) true (λ e. first)
      by_reset (inr second) = second_q c less one ∙ under_reset (b.stores c) (b.reset alike.at d) true (λ e. second)

  first_resets : (c : ℕ) → c < a.cells → a.stores c ≡ true → a.reset alike.at c ≡ true
  first_resets c less register =
      first_reset alike.at c ∙ reset_of (a.stores c) (a.reset alike.at d) (sym (first_q c less (first_full c less register)) ∙ no_q c less (first_full c less register)) register

  second_resets : (c : ℕ) → c < a.cells → b.stores c ≡ true → b.reset alike.at c ≡ true
  second_resets c less register =
      second_reset alike.at c ∙ reset_of (b.stores c) (b.reset alike.at d) (sym (second_q c less (second_full c less register)) ∙ no_q c less (second_full c less register)) register

  -- so the Qs at rest are 0, whatever is stored
  rests_zero : (m : Lookups) (t : List Bool) (c : ℕ) → (c < m.cells → m.stores c ≡ true → m.reset alike.at c ≡ true) → q_at_rest (logic_of m) t alike.at c ≡ false
  rests_zero m t c resets = elim (cases_lt c m.cells) [
    | inl less ↦ rw (lt-ltb c m.cells less) (under_reset (m.stores c) (m.reset alike.at c) (is_on t c) (resets less))
    | inr past ↦ rw (le-ltb c m.cells past) refl
  ]

  second_zero : (t : List Bool) (c : ℕ) → q_at_rest (logic_of b) t alike.at c ≡ false
  second_zero t c = rests_zero b t c (λ less. second_resets c (subst (λ n. c < n) (sym shape.cells) less))

  first_rests : AtRest (logic_of a) o s alike.at
  first_rests = record {
    is_point = alike.rest.at_rest.is_point;
    registers = λ c below. alike.rest.at_rest.registers c below ∙ (rests_zero a full c (first_resets c) ∙ sym (rests_zero a s c (first_resets c)));
    settled = alike.rest.at_rest.settled;
  }

  second_rests : AtRest (logic_of b) o s alike.at
  second_rests = record {
    is_point = alike.too.rests.is_point;
    registers = λ c below. alike.too.rests.registers c below ∙ (second_zero full c ∙ sym (second_zero s c));
    settled = alike.too.rests.settled;
  }

  pub alike_mixed : AlikeAt a b o s
  alike_mixed = record {
    at = alike.at;
    rest = record {
      at_rest = first_rests;
      only = λ other rests. (rests_once a ta.ordered o s o_wide s_wide).only other rests ∙ sym ((rests_once a ta.ordered o s o_wide s_wide).only alike.at first_rests);
    };
    too = record { rests = second_rests; enabled = alike.too.enabled };
    edge = alike.edge;
  }
