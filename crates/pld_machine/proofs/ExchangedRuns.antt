-- Steps and runs of an exchanged logic are those of the logic, with the Qs exchanged.
use Rattle.std.proofs.Common.{◌≡◌, ℕ, ◌<◌, Bool, true, ◌==◌, List, [], ◌∷◌, length, sym, ap, ◌∙◌, subst, inl, inr}
use Rattle.pld_machine.proofs.Common.{cases_Bool, MatchBool-at_true, MatchBool-at_false, is_on, Logic, Levels, AtRest, ClockedStep, Step, Steps, allows_q, clock_held, ExchangedRuns, ExchangedSteps, MayExchange, RunFrom, all_exchanged, exchanged, exchanged_at, exchanged_qs, in_sense}
use Rattle.pld_machine.proofs.ExchangedRests.{rest_to}
use Rattle.pld_machine.proofs.ExchangedPoints.{length_from, q_exchanged}

module _ (x : ℕ → Bool) (m : Logic) (may : MayExchange x m) where
  -- a Q after the clock's edge is one that the logic allows in the other sense, since no reset or preset holds
  edge_to : (at : Levels) (c : ℕ) (q : Bool) → allows_q (exchanged x m) at c q ≡ true → allows_q m (exchanged_at x at) c (in_sense (x c) q) ≡ true
  edge_to at c q allowed =
      elim (cases_Bool (x c)) [
        | inl on ↦ rw (may.registers c on, may.no_reset (exchanged_at x at) c on, may.no_preset (exchanged_at x at) c on) (rw (may.registers c on, may.no_reset (exchanged_at x at) c on, may.no_preset (exchanged_at x at) c on) at allowed)
        | inr off ↦ rw off (rw off at allowed)
      ]

  clocked_to : (before : Levels) (outside : List Bool) (after : Levels) → length before.q ≡ 32 → ClockedStep (exchanged x m) before outside after → ClockedStep m (exchanged_at x before) outside (exchanged_at x after)
  clocked_to before outside after wide step = record {
    between = exchanged_at x step.between;
    first = rest_to x m may (clock_held m before outside) before.q step.between wide step.first;
    q = exchanged_qs x step.q;
    q_length = length_from x 0 step.q ∙ step.q_length;
    edge = λ up c low.
        subst (λ b. allows_q m (exchanged_at x step.between) c b ≡ true) (sym (q_exchanged x step.q c (subst (λ n. c < n) (sym step.q_length) low)))
        (edge_to step.between c (is_on step.q c) (step.edge up c low));
    no_edge = λ still. ap (exchanged_qs x) (step.no_edge still);
    last = rest_to x m may outside step.q after step.q_length step.last;
  }

  pub step_to : (before : Levels) (outside : List Bool) (after : Levels) → length before.q ≡ 32 → Step (exchanged x m) before outside after → Step m (exchanged_at x before) outside (exchanged_at x after)
  step_to before outside after wide step =
      elim (cases_Bool (m.clock == 0)) [
        | inl none ↦ rw none (rest_to x m may outside before.q after wide (MatchBool-at_true (AtRest (exchanged x m) outside before.q after) (ClockedStep (exchanged x m) before outside after) none step))
        | inr some ↦ rw some (clocked_to before outside after wide (MatchBool-at_false (AtRest (exchanged x m) outside before.q after) (ClockedStep (exchanged x m) before outside after) some step))
      ]

  -- a step leads to a point
  step_wide : (before : Levels) (outside : List Bool) (after : Levels) → Step (exchanged x m) before outside after → length after.q ≡ 32
  step_wide before outside after step =
      elim (cases_Bool (m.clock == 0)) [
        | inl none ↦ (MatchBool-at_true (AtRest (exchanged x m) outside before.q after) (ClockedStep (exchanged x m) before outside after) none step).is_point.q
        | inr some ↦ (MatchBool-at_false (AtRest (exchanged x m) outside before.q after) (ClockedStep (exchanged x m) before outside after) some step).last.is_point.q
      ]

  steps_to : (before : Levels) (outsides : List (List Bool)) (points : List Levels) → length before.q ≡ 32 → Steps (exchanged x m) before outsides points → Steps m (exchanged_at x before) outsides (all_exchanged x points)
  steps_to before [] [] wide steps = tt
  steps_to before [] (p ∷ points) wide steps = absurd steps
  steps_to before (o ∷ rest) [] wide steps = absurd steps
  steps_to before (o ∷ rest) (p ∷ points) wide steps =
      (step_to before o p wide steps.0, steps_to p rest points (step_wide before o p steps.0) steps.1)

  run_to : (stored : List Bool) (outsides : List (List Bool)) (points : List Levels) → length stored ≡ 32 → RunFrom (exchanged x m) stored outsides points → RunFrom m (exchanged_qs x stored) outsides (all_exchanged x points)
  run_to stored [] points wide run = absurd run
  run_to stored (o ∷ rest) [] wide run = absurd run
  run_to stored (o ∷ rest) (p ∷ points) wide run =
      (rest_to x m may o stored p wide run.0, steps_to p rest points run.0.is_point.q run.1)

pub exchanged_steps : ExchangedSteps
exchanged_steps x m before outside after may wide step = step_to x m may before outside after wide step

pub exchanged_runs : ExchangedRuns
exchanged_runs x m stored outsides points may wide run = run_to x m may stored outsides points wide run
