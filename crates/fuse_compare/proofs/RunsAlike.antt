-- Logics that are alike have the same runs, with the same cells enabled at each point.
use Rattle.std.proofs.Common.{◌≡◌, ◌≢◌, ℕ, ◌<◌, Bool, true, false, not, ◌&&◌, ◌==◌, List, [], ◌∷◌, set, refl, ap, sym, ◌∙◌, subst, inl, inr, MatchBool, length-set, get_or-set_same}
use Rattle.fuse_compare.proofs.Common.{All, cases_Bool, and_parts, true≢false, eqb-false, All-head, All-tail, is_on, Levels, Logic, same_levels, IsWide, RestsOnce, AtRest, Step, ClockedStep, Steps, rises, clock_held, allows_q, power_up, levels_equal, ShowSame, AreAlike, RunsAlike, SameShown}
use Rattle.pld_machine.specs.Refines.{HasNoNodes}

-- two truth values that can't differ are the same
decided : (x y : Bool) → ((x ≡ y → ⊥) → ⊥) → x ≡ y
decided true true not_not = refl
decided false false not_not = refl
decided true false not_not = absurd (not_not (λ e. true≢false e))
decided false true not_not = absurd (not_not (λ e. true≢false (sym e)))

off : (x : Bool) → not x ≡ true → x ≡ false
off false h = refl
off true h = absurd (true≢false (sym h))

module _ (a b : Logic) (clock : a.clock ≡ b.clock) (low : a.clock < 32) (first_plain : HasNoNodes a) (second_plain : HasNoNodes b)
    (once : RestsOnce b) (alike : AreAlike a b) where
  -- a point at rest of the first is one of the second, with the same cells enabled
  module _ (o s : List Bool) (o_wide : IsWide o) (s_wide : IsWide s) (at : Levels) (first : AtRest a o s at) where
    other : Levels
    other = (once o s o_wide s_wide).0

    second : AtRest b o s other
    unfolding other
    second = (once o s o_wide s_wide).1.at_rest

    shows : (ShowSame a b at other → ⊥) → ⊥
    shows differ = alike.rest o s o_wide s_wide (record { at = at; other = other; first = first; second = second; differ = differ })

    same_pins : at.pins ≡ other.pins
    same_pins = same_levels at.pins other.pins (first.is_point.pins ∙ sym second.is_point.pins)
        (λ k in_pins. decided (is_on at.pins k) (is_on other.pins k) (λ differ. shows (λ same. differ (ap (λ xs. is_on xs k) same.pins))))

    same_q : at.q ≡ other.q
    same_q = same_levels at.q other.q (first.is_point.q ∙ sym second.is_point.q)
        (λ c in_q. decided (is_on at.q c) (is_on other.q c) (λ differ. shows (λ same. differ (ap (λ xs. is_on xs c) same.q))))

    same_nodes : at.nodes ≡ other.nodes
    same_nodes = same_levels at.nodes other.nodes (first.is_point.nodes ∙ sym second.is_point.nodes)
        (λ n in_nodes. let below : n < 128 = subst (λ l. n < l) first.is_point.nodes in_nodes in
        first.settled.no_node n below (first_plain n below) ∙ sym (second.settled.no_node n below (second_plain n below)))

    same_point : other ≡ at
    same_point = sym (levels_equal at other same_pins same_q same_nodes)

    pub rests_too : AtRest b o s at
    rests_too = subst (AtRest b o s) same_point second

    pub enabled_too : (c : ℕ) → c < a.cells → a.enabled at c ≡ b.enabled at c
    enabled_too c within =
        decided (a.enabled at c) (b.enabled other c) (λ differ. shows (λ same. differ (same.enabled c within))) ∙ ap (λ p. b.enabled p c) same_point

    shows_at : ShowSame a b at at
    shows_at = record { pins = refl; q = refl; enabled = enabled_too }

    pub stores_too : a.clock ≢ 0 → is_on o a.clock ≡ false → (c : ℕ) → c < 32 → (q : Bool) → allows_q a at c q ≡ allows_q b at c q
    stores_too there is_low c below q =
        decided (allows_q a at c q) (allows_q b at c q)
        (λ differ. alike.edge o s o_wide s_wide (record {
          at = at;
          other = at;
          first = first;
          second = rests_too;
          same = shows_at;
          clock = there;
          low = is_low;
          differ = λ same. differ (same c below q);
        }))

  -- a step with a clock
  module _ (before : Levels) (outside : List Bool) (before_wide : IsWide before.q) (outside_wide : IsWide outside) (after : Levels) (there : a.clock ≢ 0) (step : ClockedStep a before outside after) where
    held_wide : IsWide (clock_held a before outside)
    held_wide = length-set outside a.clock (is_on before.pins a.clock) ∙ outside_wide

    same_held : clock_held a before outside ≡ clock_held b before outside
    same_held = ap (λ k. set outside k (is_on before.pins k)) clock

    same_rises : rises b before outside ≡ rises a before outside
    same_rises = ap (λ k. not (is_on before.pins k) && is_on outside k) (sym clock)

    held_low : rises a before outside ≡ true → is_on (clock_held a before outside) a.clock ≡ false
    held_low up =
        get_or-set_same outside a.clock (is_on before.pins a.clock) false (subst (λ l. a.clock < l) (sym outside_wide) low)
        ∙ off (is_on before.pins a.clock) (and_parts (not (is_on before.pins a.clock)) (is_on outside a.clock) up).0

    clocked_too : ClockedStep b before outside after
    clocked_too = record {
      between = step.between;
      first = subst (λ h. AtRest b h before.q step.between) same_held (rests_too (clock_held a before outside) before.q held_wide before_wide step.between step.first);
      q = step.q;
      q_length = step.q_length;
      edge = λ up c below.
          let rising : rises a before outside ≡ true = sym same_rises ∙ up in
          sym (stores_too (clock_held a before outside) before.q held_wide before_wide step.between step.first there (held_low rising) c below (is_on step.q c)) ∙ step.edge rising c below;
      no_edge = λ still. step.no_edge (sym same_rises ∙ still);
      last = rests_too outside step.q outside_wide step.q_length after step.last;
    }

    clocked_enabled : (c : ℕ) → c < a.cells → a.enabled after c ≡ b.enabled after c
    clocked_enabled = enabled_too outside step.q outside_wide step.q_length after step.last

    clocked_wide : IsWide after.q
    clocked_wide = step.last.is_point.q

  -- a step, what is enabled after it, and that its Qs are wide
  pub step_too : (before : Levels) (outside : List Bool) → IsWide before.q → IsWide outside → (after : Levels) → Step a before outside after
      → Step b before outside after × ((c : ℕ) → c < a.cells → a.enabled after c ≡ b.enabled after c) × IsWide after.q
  step_too before outside before_wide outside_wide after step = elim (cases_Bool (a.clock == 0)) [
    | inl none ↦
        let rest : AtRest a outside before.q after = subst (λ t. MatchBool t (AtRest a outside before.q after) (ClockedStep a before outside after)) none step in
        let there : Step b before outside after =
        subst (λ t. MatchBool t (AtRest b outside before.q after) (ClockedStep b before outside after)) (sym none ∙ ap (λ k. k == 0) clock)
        (rests_too outside before.q outside_wide before_wide after rest) in
        (there, enabled_too outside before.q outside_wide before_wide after rest, rest.is_point.q)
    | inr some ↦
        let clocked : ClockedStep a before outside after = subst (λ t. MatchBool t (AtRest a outside before.q after) (ClockedStep a before outside after)) some step in
        let is_there : a.clock ≢ 0 = λ e. eqb-false a.clock 0 some e in
        let there : Step b before outside after =
        subst (λ t. MatchBool t (AtRest b outside before.q after) (ClockedStep b before outside after)) (sym some ∙ ap (λ k. k == 0) clock)
        (clocked_too before outside before_wide outside_wide after is_there clocked) in
        (there, clocked_enabled before outside before_wide outside_wide after is_there clocked, clocked_wide before outside before_wide outside_wide after is_there clocked)
  ]

  steps_too : (before : Levels) → IsWide before.q → (outsides : List (List Bool)) → All IsWide outsides → (points : List Levels)
      → Steps a before outsides points → Steps b before outsides points × SameShown a b points
  steps_too before wide [] all [] steps = (tt, tt)
  steps_too before wide [] all (p ∷ points) steps = absurd steps
  steps_too before wide (o ∷ outsides) all [] steps = absurd steps
  steps_too before wide (o ∷ outsides) all (p ∷ points) steps =
      let one = step_too before o wide (All-head IsWide o outsides all) p steps.0 in
      let rest = steps_too p one.2 outsides (All-tail IsWide o outsides all) points steps.1 in
      ((one.0, rest.0), (one.1, rest.1))

  pub runs_too : RunsAlike a b
  runs_too [] all points run = absurd run
  runs_too (o ∷ outsides) all [] run = absurd run
  runs_too (o ∷ outsides) all (p ∷ points) run =
      let wide : IsWide power_up = refl in
      let rest = steps_too p run.0.is_point.q outsides (All-tail IsWide o outsides all) points run.1 in
      ((rests_too o power_up (All-head IsWide o outsides all) wide p run.0, rest.0), (enabled_too o power_up (All-head IsWide o outsides all) wide p run.0, rest.1))
