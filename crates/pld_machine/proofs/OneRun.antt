-- A logic in order has one point at rest, one result of each step, and one run.
use Rattle.std.proofs.Common.{◌≡◌, ◌≢◌, ℕ, ◌<◌, Bool, true, false, not, ◌&&◌, ◌==◌, List, [], ◌∷◌, length, refl, ap, sym, ◌∙◌, subst, inl, inr, zero-add, length-set}
use Rattle.pld_machine.proofs.Common.{cases_Bool, eqb-false, is_on, Levels, IsPoint, is_register, Lookups, logic_of, IsOrdered, AtRest, q_at_rest, settled_of, filled, q_at_edge, rest_of, clocked_of, between_of, step_of, steps_of, run_of, rises, clock_held, Steps, Run, power_up, IsTheRest, IsTheStep, IsTheRun, IsWide, RestsOnce, RunsOnce, IsDetermined}
use Rattle.std.specs.List.{All}
use Rattle.std.proofs.lemmas.List.Elements.{All-head, All-tail}
use Rattle.std.proofs.lemmas.List.FromFn.{length-map-range_with_len, get_or-map-range_with_len}
use Rattle.pld_machine.proofs.OneRest.{is_the_rest, settled_is_point}
use Rattle.pld_machine.proofs.OneStep.{one_step}

pub is_on-filled : (f : ℕ → Bool) (c : ℕ) → c < 32 → is_on (filled f) c ≡ f c
is_on-filled f c low = get_or-map-range_with_len f 0 32 c c false low (zero-add c)

pub length-filled : (f : ℕ → Bool) → length (filled f) ≡ 32
length-filled f = length-map-range_with_len f 0 32

pub length-power_up : length power_up ≡ 32
length-power_up = refl

module _ (m : Lookups) (ordered : IsOrdered m) where
  pub rest_is_point : (outside stored : List Bool) → IsWide outside → IsWide stored → IsPoint (rest_of m outside stored)
  rest_is_point outside stored outside_wide stored_wide =
      let f = q_at_rest (logic_of m) stored (settled_of m outside stored) in
      settled_is_point m ordered outside outside_wide (filled f) (length-filled f)

  -- the computed point is the one at rest
  pub rests_once : (outside stored : List Bool) → IsWide outside → IsWide stored → IsTheRest (logic_of m) outside stored (rest_of m outside stored)
  rests_once outside stored outside_wide stored_wide =
      let f = q_at_rest (logic_of m) stored (settled_of m outside stored) in
      is_the_rest m ordered outside outside_wide stored (filled f) stored stored_wide (length-filled f) (λ c low. is_on-filled f c low)

  length-clocked_of : (before : Levels) (outside : List Bool) (between : Levels) → IsPoint between → length (clocked_of m before outside between) ≡ 32
  length-clocked_of before outside between is =
      elim (cases_Bool (rises (logic_of m) before outside)) [
        | inl up ↦ rw up (length-filled (q_at_edge m between))
        | inr still ↦ rw still is.q
      ]

  length-clock_held : (before : Levels) (outside : List Bool) → IsWide outside → IsWide (clock_held (logic_of m) before outside)
  length-clock_held before outside outside_wide = length-set outside m.clock (is_on before.pins m.clock) ∙ outside_wide

  between_is_point : (before : Levels) (outside : List Bool) → IsWide before.q → IsWide outside → IsPoint (between_of m before outside)
  between_is_point before outside q_wide outside_wide = rest_is_point (clock_held (logic_of m) before outside) before.q (length-clock_held before outside outside_wide) q_wide

  pub step_is_point : (before : Levels) (outside : List Bool) → IsWide before.q → IsWide outside → IsPoint (step_of m before outside)
  step_is_point before outside q_wide outside_wide =
      elim (cases_Bool (m.clock == 0)) [
        | inl none ↦ rw none (rest_is_point outside before.q outside_wide q_wide)
        | inr some ↦ rw some (rest_is_point outside (clocked_of m before outside (between_of m before outside)) outside_wide
            (length-clocked_of before outside (between_of m before outside) (between_is_point before outside q_wide outside_wide)))
      ]

  clocked_once : (before : Levels) (outside : List Bool) → m.clock ≢ 0 → IsWide before.q → IsWide outside → IsTheStep (logic_of m) before outside (rest_of m outside (clocked_of m before outside (between_of m before outside)))
  clocked_once before outside clock q_wide outside_wide =
      let new_wide : length (clocked_of m before outside (between_of m before outside)) ≡ 32 = length-clocked_of before outside (between_of m before outside) (between_is_point before outside q_wide outside_wide) in
      one_step m before outside (between_of m before outside) (clocked_of m before outside (between_of m before outside)) (rest_of m outside (clocked_of m before outside (between_of m before outside)))
      clock (rests_once (clock_held (logic_of m) before outside) before.q (length-clock_held before outside outside_wide) q_wide) new_wide
      (λ up c low. rw up (is_on-filled (q_at_edge m (between_of m before outside)) c low))
      (λ still. rw still refl)
      (rests_once outside (clocked_of m before outside (between_of m before outside)) outside_wide new_wide)

  -- a point at rest is at rest for its own Qs as well
  pub rest_stays : (outside stored : List Bool) (at : Levels) → IsWide outside → IsTheRest (logic_of m) outside stored at → IsTheRest (logic_of m) outside at.q at
  rest_stays outside stored at outside_wide rest = record {
    at_rest = again;
    only = λ other rests. one.only other rests ∙ sym (one.only at again);
  }
    where
      kept : (r n s q : Bool) → q ≡ (r && (n && s)) → q ≡ (r && (n && q))
      kept true true s q e = refl
      kept true false s q e = e
      kept false n s q e = e

      again : AtRest (logic_of m) outside at.q at
      again = record {
        is_point = rest.at_rest.is_point;
        registers = λ c low. kept (is_register (logic_of m) c) (not (m.reset at c)) (is_on stored c) (is_on at.q c) (rest.at_rest.registers c low);
        settled = rest.at_rest.settled;
      }

      one : IsTheRest (logic_of m) outside at.q (rest_of m outside at.q)
      one = rests_once outside at.q outside_wide rest.at_rest.is_point.q

  -- the computed point is the one after a step
  pub steps_once : (before : Levels) (outside : List Bool) → IsWide before.q → IsWide outside → IsTheStep (logic_of m) before outside (step_of m before outside)
  steps_once before outside q_wide outside_wide =
      elim (cases_Bool (m.clock == 0)) [
        | inl none ↦
            let rest : IsTheRest (logic_of m) outside before.q (rest_of m outside before.q) = rests_once outside before.q outside_wide q_wide in
            let step : IsTheStep (logic_of m) before outside (rest_of m outside before.q) = record {
              steps = rw none rest.at_rest;
              only = λ other stepped. rest.only other (rw none at stepped);
            } in
            rw none step
        | inr some ↦ rw some (clocked_once before outside (λ e. eqb-false m.clock 0 some e) q_wide outside_wide)
      ]

  pub steps_run : (at : Levels) (outsides : List (List Bool)) → IsWide at.q → All IsWide outsides → Steps (logic_of m) at outsides (steps_of m at outsides)
  steps_run at [] q_wide wide = tt
  steps_run at (outside ∷ rest) q_wide wide =
      let outside_wide : IsWide outside = All-head IsWide outside rest wide in
      ((steps_once at outside q_wide outside_wide).steps, steps_run (step_of m at outside) rest (step_is_point at outside q_wide outside_wide).q (All-tail IsWide outside rest wide))

  pub steps_only : (at : Levels) (outsides : List (List Bool)) (points : List Levels) → IsWide at.q → All IsWide outsides → Steps (logic_of m) at outsides points → points ≡ steps_of m at outsides
  steps_only at [] [] q_wide wide steps = refl
  steps_only at [] (p ∷ points) q_wide wide steps = absurd steps
  steps_only at (outside ∷ rest) [] q_wide wide steps = absurd steps
  steps_only at (outside ∷ rest) (p ∷ points) q_wide wide steps =
      let outside_wide : IsWide outside = All-head IsWide outside rest wide in
      let same : p ≡ step_of m at outside = (steps_once at outside q_wide outside_wide).only p steps.0 in
      let p_wide : IsWide p.q = subst (λ (x : Levels). IsWide x.q) (sym same) (step_is_point at outside q_wide outside_wide).q in
      let later : points ≡ steps_of m p rest = steps_only p rest points p_wide (All-tail IsWide outside rest wide) steps.1 in
      rw same (ap (λ ps. step_of m at outside ∷ ps) (subst (λ x. points ≡ steps_of m x rest) same later))

  -- the computed points are the one run
  pub runs_once : (first : List Bool) (rest : List (List Bool)) → IsWide first → All IsWide rest → IsTheRun (logic_of m) (first ∷ rest) (run_of m first rest)
  runs_once first rest first_wide wide = record { runs = runs; only = only }
    where
      at_first : IsTheRest (logic_of m) first power_up (rest_of m first power_up)
      at_first = rests_once first power_up first_wide length-power_up

      first_q : IsWide (rest_of m first power_up).q
      first_q = (rest_is_point first power_up first_wide length-power_up).q

      runs : Run (logic_of m) (first ∷ rest) (run_of m first rest)
      runs = (at_first.at_rest, steps_run (rest_of m first power_up) rest first_q wide)

      only : (others : List Levels) → Run (logic_of m) (first ∷ rest) others → others ≡ run_of m first rest
      only [] run = absurd run
      only (p ∷ points) run =
          let same : p ≡ rest_of m first power_up = at_first.only p run.0 in
          let later : points ≡ steps_of m p rest = steps_only p rest points run.0.is_point.q wide run.1 in
          rw same (ap (λ ps. rest_of m first power_up ∷ ps) (subst (λ x. points ≡ steps_of m x rest) same later))

  pub has_one_rest : RestsOnce (logic_of m)
  has_one_rest outside stored outside_wide stored_wide = (rest_of m outside stored, rests_once outside stored outside_wide stored_wide)

  pub has_one_run : RunsOnce (logic_of m)
  has_one_run [] some wide = absurd (some refl)
  has_one_run (first ∷ rest) some wide = (run_of m first rest, runs_once first rest (All-head IsWide first rest wide) (All-tail IsWide first rest wide))

  pub is_determined : IsDetermined (logic_of m)
  is_determined = record {
    rests = has_one_rest;
    steps = λ before outside q_wide outside_wide. (step_of m before outside, steps_once before outside q_wide outside_wide);
    runs = has_one_run;
  }
