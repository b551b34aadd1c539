-- What is looked at at a point at rest says whether it is one of the second logic too.
use Rattle.std.proofs.Common.{◌≡◌, ◌≢◌, ◌⊎◌, ℕ, ◌<◌, ◌≤◌, Bool, true, false, not, ◌&&◌, ◌==◌, List, refl, sym, ◌∙◌, subst, inl, inr, arith, le-ltb, ne_eqb}
use Rattle.fuse_compare.proofs.Common.{cases_Bool, cases_lt, and_parts, true≢false, is_on, same_level, Levels, Lookups, logic_of, IsTheRest, q_at_rest, q_at_edge, true_same, same_true, RestsToo, StoresToo, StoresOther, AllToo, AllEdgesToo, drives_so, clock_is_low, IsTold, SameShape}

module _ (a b : Lookups) (shape : SameShape a b) (ta : IsTold a) (tb : IsTold b) (o s : List Bool) (at : Levels) (is : IsTheRest (logic_of a) o s at) where
  above : (c : ℕ) → c < b.cells → c < a.cells
  above c within = subst (λ n. c < n) (sym shape.cells) within

  module _ (all : AllToo a b at s) where
    parts : (c : ℕ) → c < a.cells → (same_level (a.enable at c) (b.enable at c) ≡ true) × (drives_so b at c (b.enable at c) ≡ true) × (same_level (is_on at.q c) (q_at_rest (logic_of b) s at c) ≡ true)
    parts c within =
        let first = and_parts (same_level (a.enable at c) (b.enable at c) && drives_so b at c (b.enable at c)) (same_level (is_on at.q c) (q_at_rest (logic_of b) s at c)) (all c within) in
        let second = and_parts (same_level (a.enable at c) (b.enable at c)) (drives_so b at c (b.enable at c)) first.0 in
        (second.0, second.1, first.1)

    enabled : (c : ℕ) → c < a.cells → a.enable at c ≡ b.enable at c
    enabled c within = true_same (a.enable at c) (b.enable at c) (parts c within).0

    driven : (c : ℕ) → c < a.cells → b.enable at c ≡ true → same_level (is_on at.pins (b.pin c)) (b.level at c) ≡ true
    driven c within on = rw on at (parts c within).1

    rests_q : (c : ℕ) → c < 32 → (c < a.cells) ⊎ (a.cells ≤ c) → is_on at.q c ≡ q_at_rest (logic_of b) s at c
    rests_q c low (inl within) = true_same (is_on at.q c) (q_at_rest (logic_of b) s at c) (parts c within).2
    rests_q c low (inr past) = is.at_rest.registers c low ∙ rw (le-ltb c a.cells past, le-ltb c b.cells (subst (λ n. n ≤ c) shape.cells past)) refl

    pub too_from : RestsToo a b o s at
    too_from = record {
      rests = record {
        is_point = is.at_rest.is_point;
        registers = λ c low. rests_q c low (cases_lt c a.cells);
        settled = record {
          driven = λ c within on. driven c (above c within) on;
          undriven = λ k low none. is.at_rest.settled.undriven k low (λ c within on here. none c (subst (λ n. c < n) shape.cells within) (sym (enabled c within) ∙ on) (sym (shape.pin c) ∙ here));
          nodes = λ n low node. absurd (true≢false (sym node ∙ tb.no_nodes n));
          no_node = λ n low none. is.at_rest.settled.no_node n low (ta.no_nodes n);
        };
      };
      enabled = enabled;
    }

  pub too_gives : RestsToo a b o s at → AllToo a b at s
  too_gives too c within =
      rw (same_true (a.enable at c) (b.enable at c) (too.enabled c within), drives_at (cases_Bool (b.enable at c)), same_true (is_on at.q c) (q_at_rest (logic_of b) s at c) (too.rests.registers c low)) refl
    where
      low : c < 32
      low = omega (arith, ta.ordered.has_pins.cells, within)

      drives_at : (b.enable at c ≡ true) ⊎ (b.enable at c ≡ false) → drives_so b at c (b.enable at c) ≡ true
      drives_at (inl on) = rw on (too.rests.settled.driven c (subst (λ n. c < n) shape.cells within) on)
      drives_at (inr off) = rw off refl

module _ (a b : Lookups) (shape : SameShape a b) (ta : IsTold a) (o : List Bool) (at : Levels) where
  edge_past : (c : ℕ) → a.cells ≤ c → q_at_edge a at c ≡ q_at_edge b at c
  edge_past c past = rw (le-ltb c a.cells past, le-ltb c b.cells (subst (λ n. n ≤ c) shape.cells past)) refl

  pub edges_from : AllEdgesToo a b at → StoresToo a b o at
  edges_from all clock low c below = elim (cases_lt c a.cells) [
    | inl within ↦ true_same (q_at_edge a at c) (q_at_edge b at c) (all c within)
    | inr past ↦ edge_past c past
  ]

  pub edges_give : ((c : ℕ) → c < 32 → q_at_edge a at c ≡ q_at_edge b at c) → AllEdgesToo a b at
  edges_give same c within = same_true (q_at_edge a at c) (q_at_edge b at c) (same c (omega (arith, ta.ordered.has_pins.cells, within)))

  -- without a clock, or with a high one, nothing is stored
  pub no_edge : clock_is_low a o ≡ false → StoresToo a b o at
  no_edge not_low clock low c below = absurd (true≢false (sym (rw (ne_eqb a.clock 0 clock, low) refl) ∙ not_low))

  not_zero : a.clock ≡ 0 → not (a.clock == 0) ≡ true → ⊥
  not_zero e h = true≢false (sym (rw e at h))

  off : (x : Bool) → not x ≡ true → x ≡ false
  off false h = refl
  off true h = absurd (true≢false (sym h))

  low_clock : clock_is_low a o ≡ true → (a.clock ≢ 0) × (is_on o a.clock ≡ false)
  low_clock low =
      let parts = and_parts (not (a.clock == 0)) (not (is_on o a.clock)) low in
      (λ e. not_zero e parts.0, off (is_on o a.clock) parts.1)

  -- what is answered of the clock's edge
  pub other_from : clock_is_low a o ≡ true → (AllEdgesToo a b at → ⊥) → StoresOther a b o at
  other_from low not_all = ((low_clock low).0, (low_clock low).1, λ same. not_all (edges_give same))
