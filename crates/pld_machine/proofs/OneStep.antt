-- A step of a logic with a clock has one result.
use Rattle.std.proofs.Common.{◌≡◌, ◌≢◌, ℕ, ◌<◌, Bool, true, false, not, ◌&&◌, ◌||◌, if◌then◌else◌, List, length, refl, ap, sym, ◌∙◌, subst, inl, inr, ne_eqb}
use Rattle.pld_machine.proofs.Common.{cases_Bool, is_on, same_level, Levels, is_register, Lookups, logic_of, AtRest, q_at_edge, clock_held, allows_q, rises, ClockedStep, IsTheRest, IsTheStep, same_levels}

-- a register's new Q is the only one that is allowed, by the tests that decide it
allowed_at : (register reset preset next q : Bool) → (if register then (if reset then not q else (if preset then q else same_level q next)) else not q) ≡ true → q ≡ (register && (not reset && (preset || next)))
allowed_at true true preset next false e = refl
allowed_at true true preset next true e = sym e
allowed_at true false true next true e = refl
allowed_at true false true next false e = e
allowed_at true false false next true e = sym e
allowed_at true false false true false e = e
allowed_at true false false false false e = refl
allowed_at false reset preset next false e = refl
allowed_at false reset preset next true e = sym e

at_allowed : (register reset preset next q : Bool) → q ≡ (register && (not reset && (preset || next))) → (if register then (if reset then not q else (if preset then q else same_level q next)) else not q) ≡ true
at_allowed true true preset next q e = ap not e
at_allowed true false true next q e = e
at_allowed true false false true q e = ap (λ b. same_level b true) e
at_allowed true false false false q e = ap (λ b. same_level b false) e
at_allowed false reset preset next q e = ap not e

pub q_allowed : (m : Lookups) (at : Levels) (c : ℕ) (q : Bool) → allows_q (logic_of m) at c q ≡ true → q ≡ q_at_edge m at c
q_allowed m at c q e = allowed_at (is_register (logic_of m) c) (m.reset at c) (m.preset at c) (m.next at c) q e

pub allowed_q : (m : Lookups) (at : Levels) (c : ℕ) (q : Bool) → q ≡ q_at_edge m at c → allows_q (logic_of m) at c q ≡ true
allowed_q m at c q e = at_allowed (is_register (logic_of m) c) (m.reset at c) (m.preset at c) (m.next at c) q e

-- the Qs of two such steps are the same
same_q : (m : Lookups) (before : Levels) (outside : List Bool) (between : Levels) (q : List Bool) → length q ≡ 32
    → (rises (logic_of m) before outside ≡ true → (c : ℕ) → c < 32 → is_on q c ≡ q_at_edge m between c)
    → (rises (logic_of m) before outside ≡ false → q ≡ between.q)
    → (p : List Bool) → length p ≡ 32
    → (rises (logic_of m) before outside ≡ true → (c : ℕ) → c < 32 → allows_q (logic_of m) between c (is_on p c) ≡ true)
    → (rises (logic_of m) before outside ≡ false → p ≡ between.q)
    → p ≡ q
same_q m before outside between q q_length edge no_edge p p_length p_edge p_no_edge =
    elim (cases_Bool (rises (logic_of m) before outside)) [
      | inl up ↦ same_levels p q (p_length ∙ sym q_length) (λ c low. q_allowed m between c (is_on p c) (p_edge up c (subst (λ l. c < l) p_length low)) ∙ sym (edge up c (subst (λ l. c < l) p_length low)))
      | inr still ↦ p_no_edge still ∙ sym (no_edge still)
    ]

-- a rest, the Qs of the clock's new level and a rest again are the one step
pub one_step : (m : Lookups) (before : Levels) (outside : List Bool) (between : Levels) (q : List Bool) (after : Levels)
    → m.clock ≢ 0 → IsTheRest (logic_of m) (clock_held (logic_of m) before outside) before.q between → length q ≡ 32
    → (rises (logic_of m) before outside ≡ true → (c : ℕ) → c < 32 → is_on q c ≡ q_at_edge m between c)
    → (rises (logic_of m) before outside ≡ false → q ≡ between.q)
    → IsTheRest (logic_of m) outside q after → IsTheStep (logic_of m) before outside after
one_step m before outside between q after clock first q_length edge no_edge last = record {
  steps = rw (ne_eqb m.clock 0 clock) (let step : ClockedStep (logic_of m) before outside after = record {
    between = between;
    first = first.at_rest;
    q = q;
    q_length = q_length;
    edge = λ up c low. allowed_q m between c (is_on q c) (edge up c low);
    no_edge = no_edge;
    last = last.at_rest;
  } in step);
  only = λ other steps. again other (rw (ne_eqb m.clock 0 clock) at steps);
}
  where
    again : (other : Levels) → ClockedStep (logic_of m) before outside other → other ≡ after
    again other step =
        let same_between : step.between ≡ between = first.only step.between step.first in
        let q' : step.q ≡ q = same_q m before outside between q q_length edge no_edge step.q step.q_length
        (λ up c low. subst (λ at. allows_q (logic_of m) at c (is_on step.q c) ≡ true) same_between (step.edge up c low))
        (λ still. step.no_edge still ∙ ap (λ (at : Levels). at.q) same_between) in
        last.only other (subst (λ stored. AtRest (logic_of m) outside stored other) q' step.last)
