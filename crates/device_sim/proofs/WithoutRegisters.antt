-- A logic that stores nothing: a step only settles, and so does a vector.
use Rattle.std.proofs.Common.{◌≡◌, ℕ, Bool, false, ◌==◌, nat_lt, List, Option, None, Some, refl, ap, sym, ◌∙◌, arith, inl, inr, le-ltb}
use Rattle.device_sim.proofs.Common.{list_any, range_with_len, and_left, and_right, cases_Bool, cases_lt, false_from_ne_true, true≢false, Levels, is_register, Lookups, logic_of, between_of, clocked_of, filled, rest_of, settled_of, step_of, power_up, at_pins, has_clock, level_before, level_turned, outsides_of, last_after, point_after, any_at}
use Rattle.pld_machine.specs.Rest.{q_at_rest}

module _ (m : Lookups) (none : list_any m.stores (range_with_len 0 m.cells) ≡ false) where
  no_register : (c : ℕ) → is_register (logic_of m) c ≡ false
  no_register c =
      elim (cases_lt c m.cells) [
        | inl low ↦
            and_right (nat_lt c m.cells) (m.stores c)
            (false_from_ne_true (m.stores c) (λ is. true≢false (sym (any_at m.stores 0 m.cells c (omega arith) (omega (arith, low)) is) ∙ none)))
        | inr past ↦ and_left (nat_lt c m.cells) (m.stores c) (le-ltb c m.cells past)
      ]

  -- whatever was stored, each Q is 0 at rest
  q_none : (stored : List Bool) (at : Levels) (c : ℕ) → q_at_rest (logic_of m) stored at c ≡ false
  q_none stored at c = and_left (is_register (logic_of m) c) _ (no_register c)

  rest_same : (outside stored other : List Bool) → rest_of m outside stored ≡ rest_of m outside other
  rest_same outside stored other =
      ap (λ f. settled_of m outside (filled f)) (λ i c. (q_none stored (settled_of m outside stored) c ∙ sym (q_none other (settled_of m outside other) c)) i)

  step_is_rest : (before : Levels) (outside stored : List Bool) → rest_of m outside stored ≡ step_of m before outside
  step_is_rest before outside stored =
      elim (cases_Bool (m.clock == 0)) [
        | inl still ↦ rw still (rest_same outside stored before.q)
        | inr clocked ↦ rw clocked (rest_same outside stored (clocked_of m before outside (between_of m before outside)))
      ]

  point_is_rest : (before : Option Levels) (outside : List Bool) → point_after m before outside ≡ rest_of m outside power_up
  unfolding point_after
  point_is_rest None outside = refl
  point_is_rest (Some at) outside = sym (step_is_rest at outside power_up)

  -- a vector's last point is that at rest, whatever was before and however its clocks were turned
  pub vector_is_rest : (before : Option Levels) (default : Bool) (chars : List ℕ) → last_after m before (outsides_of default chars) ≡ Some (rest_of m (at_pins (level_before default) chars) power_up)
  unfolding outsides_of
  vector_is_rest before default chars =
      let levels : List Bool = at_pins (level_before default) chars in
      elim (cases_Bool (has_clock chars)) [
        | inl clocked ↦
            rw clocked
            (ap (λ (p : Levels). Some p)
            (point_is_rest (Some (point_after m (Some (point_after m before levels)) (at_pins (level_turned default) chars))) levels))
        | inr still ↦ rw still (ap (λ (p : Levels). Some p) (point_is_rest before levels))
      ]
