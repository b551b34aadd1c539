-- A logic that allows no more than another at the points that are seen in place of its own has only runs that are
-- seen as runs of the other.
use Rattle.std.proofs.Common.{◌≡◌, Bool, not, ◌&&◌, ◌==◌, List, [], ◌∷◌, ap, sym, ◌∙◌, subst, inl, inr, set}
use Rattle.pld_machine.proofs.Common.{cases_Bool, MatchBool-at_true, MatchBool-at_false, is_on, Levels, Logic, AtRest, rises, clock_held, ClockedStep, Step, Steps, Run, power_up, RefinesThrough, AreSeen}
use Rattle.pld_machine.proofs.SeenRests.{same_q, rest_seen}

module _ (d s : Logic) (Sees : Levels → Levels → Type 0) (r : RefinesThrough d s Sees) where
  -- a point at rest, and the one that is seen for it
  pub rest_through : (at seen : Levels) → Sees at seen → (outside stored : List Bool) → AtRest d outside stored at → AtRest s outside stored seen
  rest_through at seen sees outside stored rests = rest_seen d s r.same_cells at seen (r.allows at seen sees) (r.seen at seen sees) outside stored rests

  -- a step between points with the same pins and Qs
  module _ (at seen : Levels) (pins : seen.pins ≡ at.pins) (q : seen.q ≡ at.q) (outside : List Bool) (after next : Levels) (sees : Sees after next) where
    old_clock : is_on at.pins d.clock ≡ is_on seen.pins s.clock
    old_clock = ap (is_on at.pins) r.same_cells.clock ∙ sym (ap (λ xs. is_on xs s.clock) pins)

    same_held : clock_held d at outside ≡ clock_held s seen outside
    same_held = ap (λ k. set outside k (is_on at.pins d.clock)) r.same_cells.clock ∙ ap (set outside s.clock) old_clock

    same_rise : rises d at outside ≡ rises s seen outside
    same_rise = ap (λ b. not b && is_on outside d.clock) old_clock ∙ ap (λ k. not (is_on seen.pins s.clock) && is_on outside k) r.same_cells.clock

    clocked_through : ClockedStep d at outside after → ClockedStep s seen outside next
    clocked_through step =
        let between = r.sees (clock_held d at outside) at.q step.between step.first in
        let is = r.seen step.between between.0 between.1 in
        record {
          between = between.0;
          first = subst (λ o. AtRest s o seen.q between.0) same_held (subst (λ x. AtRest s (clock_held d at outside) x between.0) (sym q) (rest_through step.between between.0 between.1 (clock_held d at outside) at.q step.first));
          q = step.q;
          q_length = step.q_length;
          edge = λ up c low. same_q d s r.same_cells step.between between.0 (r.allows step.between between.0 between.1) c (is_on step.q c) (step.edge (same_rise ∙ up) c low);
          no_edge = λ still. step.no_edge (same_rise ∙ still) ∙ sym is.q;
          last = rest_through after next sees outside step.q step.last;
        }

    pub step_through : Step d at outside after → Step s seen outside next
    step_through step =
        elim (cases_Bool (s.clock == 0)) [
          | inl none ↦ rw none (subst (λ x. AtRest s outside x next) (sym q) (rest_through after next sees outside at.q (MatchBool-at_true (AtRest d outside at.q after) (ClockedStep d at outside after) (ap (λ k. k == 0) r.same_cells.clock ∙ none) step)))
          | inr some ↦ rw some (clocked_through (MatchBool-at_false (AtRest d outside at.q after) (ClockedStep d at outside after) (ap (λ k. k == 0) r.same_cells.clock ∙ some) step))
        ]

  -- what follows a step is seen
  pub step_sees : (at : Levels) (outside : List Bool) (after : Levels) → Step d at outside after → (seen : Levels) × Sees after seen
  step_sees at outside after step =
      elim (cases_Bool (d.clock == 0)) [
        | inl none ↦ r.sees outside at.q after (MatchBool-at_true (AtRest d outside at.q after) (ClockedStep d at outside after) none step)
        | inr some ↦ let clocked = MatchBool-at_false (AtRest d outside at.q after) (ClockedStep d at outside after) some step in r.sees outside clocked.q after clocked.last
      ]

  -- steps, and the points that are seen
  steps_through : (at seen : Levels) → Sees at seen → (outsides : List (List Bool)) (points : List Levels) → Steps d at outsides points → (others : List Levels) × AreSeen Sees points others × Steps s seen outsides others
  steps_through at seen sees [] [] steps = ([], tt, tt)
  steps_through at seen sees [] (p ∷ points) steps = absurd steps
  steps_through at seen sees (outside ∷ rest) [] steps = absurd steps
  steps_through at seen sees (outside ∷ rest) (p ∷ points) steps =
      let is = r.seen at seen sees in
      let next = step_sees at outside p steps.0 in
      let later = steps_through p next.0 next.1 rest points steps.1 in
      (next.0 ∷ later.0, (next.1, later.1), (step_through at seen is.pins is.q outside p next.0 next.1 steps.0, later.2))

  -- each run is seen as one of the other
  pub run_through : (outsides : List (List Bool)) (points : List Levels) → Run d outsides points → (others : List Levels) × AreSeen Sees points others × Run s outsides others
  run_through [] points run = absurd run
  run_through (outside ∷ rest) [] run = absurd run
  run_through (outside ∷ rest) (p ∷ points) run =
      let first = r.sees outside power_up p run.0 in
      let later = steps_through p first.0 first.1 rest points run.1 in
      (first.0 ∷ later.0, (first.1, later.1), (rest_through p first.0 first.1 outside power_up run.0, later.2))
