-- The first fuse that hasn't its fixed level, one level of the list more at a time.
use Rattle.std.proofs.Common.{◌≡◌, ◌↔◌, ℕ, zero, suc, ◌<◌, ◌≤◌, Bool, true, false, cond, Option, Some, None, List, [], ◌∷◌, length, drop, slice_get, All, refl, sym, ap, subst, ◌∙◌, arith}
use Rattle.pld_device.proofs.Common.{drop-nil, All-cons, All-nil, is_on, same_level, FuseBit, HasFixedLevels, wrong_fixed, IsDevice, IsFixed, fuse_if_any, says, Table}

module _ (fuses : List Bool) where
  -- the fuses have the level
  abbrev Has : FuseBit → Type 0
  Has bit = is_on fuses bit.fuse ≡ bit.level

  level_said : (level on : Bool) → same_level level on ≡ true → on ≡ level
  level_said true true is = refl
  level_said true false is = absurd cc
  level_said false true is = absurd cc
  level_said false false is = refl

  says_level : (level on : Bool) → on ≡ level → same_level level on ≡ true
  says_level true true is = refl
  says_level true false is = absurd cc
  says_level false true is = absurd cc
  says_level false false is = refl

  -- ---- each has its level, or some hasn't

  has_first : (said : Bool) (bit : FuseBit) (bits : List FuseBit) → cond said (wrong_fixed fuses bits) (Some bit.fuse) ≡ None → said ≡ true
  has_first true bit bits none = refl
  has_first false bit bits none = absurd cc

  pub all_where_none : (bits : List FuseBit) → wrong_fixed fuses bits ≡ None → All Has bits
  all_where_none [] none = All-nil Has
  all_where_none (bit ∷ bits) none =
      let said : says fuses (Some bit) ≡ true = has_first (says fuses (Some bit)) bit bits none in
      All-cons Has bit bits (level_said bit.level (is_on fuses bit.fuse) said)
      (all_where_none bits (subst (λ (b : Bool). cond b (wrong_fixed fuses bits) (Some bit.fuse) ≡ None) said none))

  pub none_where_all : (bits : List FuseBit) → All Has bits → wrong_fixed fuses bits ≡ None
  none_where_all [] all = refl
  none_where_all (bit ∷ bits) all =
      let said : says fuses (Some bit) ≡ true = says_level bit.level (is_on fuses bit.fuse) (all 0 bit (omega arith)) in
      rw said (none_where_all bits (λ k d within. all (suc k) d (omega arith)))

  -- ---- one level after the other

  pub right_more : (bits : List FuseBit) (i : ℕ) (bit : FuseBit) → slice_get bits i ≡ Some bit → says fuses (Some bit) ≡ true
      → wrong_fixed fuses (drop (suc i) bits) ≡ wrong_fixed fuses (drop i bits)
  right_more [] i bit found said = absurd cc
  right_more (first ∷ bits) zero bit found said =
      let same : bit ≡ first = cc in
      let said_first : says fuses (Some first) ≡ true = subst (λ (b : FuseBit). says fuses (Some b) ≡ true) same said in
      rw said_first refl
  right_more (first ∷ bits) (suc i) bit found said = right_more bits i bit found said

  pub wrong_here : (bits : List FuseBit) (i : ℕ) (bit : FuseBit) → slice_get bits i ≡ Some bit → says fuses (Some bit) ≡ false
      → Some bit.fuse ≡ wrong_fixed fuses (drop i bits)
  wrong_here [] i bit found said = absurd cc
  wrong_here (first ∷ bits) zero bit found said =
      let same : bit ≡ first = cc in
      let said_first : says fuses (Some first) ≡ false = subst (λ (b : FuseBit). says fuses (Some b) ≡ false) same said in
      rw said_first (ap (λ (b : FuseBit). Some b.fuse) same)
  wrong_here (first ∷ bits) (suc i) bit found said = wrong_here bits i bit found said

  pub none_past : (bits : List FuseBit) (i : ℕ) → length bits ≤ i → None ≡ wrong_fixed fuses (drop i bits)
  none_past [] i past = rw (drop-nil i) refl
  none_past (first ∷ bits) zero past = absurd (omega (arith, past))
  none_past (first ∷ bits) (suc i) past = none_past bits i (omega (arith, past))

  pub none_at_end : (bits : List FuseBit) (i : ℕ) → slice_get bits i ≡ None → None ≡ wrong_fixed fuses (drop i bits)
  none_at_end [] i end = rw (drop-nil i) refl
  none_at_end (first ∷ bits) zero end = absurd cc
  none_at_end (first ∷ bits) (suc i) end = none_at_end bits i end

-- a fixed fuse is one of the device
pub fixed_below : (t : Table) → IsDevice t → (i : ℕ) (bit : FuseBit) → slice_get t.fixed i ≡ Some bit → bit.fuse < t.fuses
fixed_below t laws i bit found = (laws.control (IsFixed i) bit.fuse (ap fuse_if_any found)).below

-- both clauses of an answer by the first
pub told : (t : Table) (fuses : List Bool) (answer : Option ℕ) → answer ≡ wrong_fixed fuses t.fixed → (answer ≡ None) ↔ HasFixedLevels t fuses
told t fuses answer is = (λ none. all_where_none fuses t.fixed (sym is ∙ none), λ all. is ∙ none_where_all fuses t.fixed all)
