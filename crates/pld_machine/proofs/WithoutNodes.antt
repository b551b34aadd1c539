-- If neither logic has nodes, a point with its nodes valued is the point itself.
use Rattle.std.proofs.Common.{◌≡◌, ◌<◌, Bool, List, [], ◌∷◌, refl, sym, ◌∙◌, subst, inl, inr, ◌==◌}
use Rattle.pld_machine.proofs.Common.{cases_Bool, MatchBool-at_true, MatchBool-at_false, Levels, Logic, same_levels, NodeValues, HasNoNodes, IsShownAs, DoesTheSame, HasRunsOf, AtRest, ClockedStep, Step, Steps, Run, power_up, AreSeen}
use Rattle.pld_machine.proofs.OneRest.{levels_equal}

module _ (d s : Logic) (values : NodeValues) (d_plain : HasNoNodes d) (s_plain : HasNoNodes s) where
  same_point : (outside stored : List Bool) (at valued : Levels) → AtRest d outside stored at → IsShownAs d s values at valued → valued ≡ at
  same_point outside stored at valued rests shown =
      let is = shown.is.is_valued in
      levels_equal valued at shown.is.pins shown.is.q
      (same_levels valued.nodes at.nodes (is.is_point.nodes ∙ sym rests.is_point.nodes)
      (λ n within. let low : n < 128 = subst (λ k. n < k) is.is_point.nodes within in is.no_node n low (s_plain n low) ∙ sym (rests.settled.no_node n low (d_plain n low))))

  -- the point after a step
  stepped : (at : Levels) (outside : List Bool) (after valued : Levels) → Step d at outside after → IsShownAs d s values after valued → valued ≡ after
  stepped at outside after valued step shown =
      elim (cases_Bool (d.clock == 0)) [
        | inl none ↦ same_point outside at.q after valued (MatchBool-at_true (AtRest d outside at.q after) (ClockedStep d at outside after) none step) shown
        | inr some ↦ let clocked = MatchBool-at_false (AtRest d outside at.q after) (ClockedStep d at outside after) some step in same_point outside clocked.q after valued clocked.last shown
      ]

  same_steps : (at : Levels) (outsides : List (List Bool)) (points valued : List Levels) → Steps d at outsides points → AreSeen (IsShownAs d s values) points valued → valued ≡ points
  same_steps at [] [] [] steps shown = refl
  same_steps at [] [] (v ∷ valued) steps shown = absurd shown
  same_steps at [] (p ∷ points) valued steps shown = absurd steps
  same_steps at (outside ∷ rest) [] valued steps shown = absurd steps
  same_steps at (outside ∷ rest) (p ∷ points) [] steps shown = absurd shown
  same_steps at (outside ∷ rest) (p ∷ points) (v ∷ valued) steps shown =
      rw (stepped at outside p v steps.0 shown.0, same_steps p rest points valued steps.1 shown.1) refl

  same_run : (outsides : List (List Bool)) (points valued : List Levels) → Run d outsides points → AreSeen (IsShownAs d s values) points valued → valued ≡ points
  same_run [] points valued run shown = absurd run
  same_run (outside ∷ rest) [] valued run shown = absurd run
  same_run (outside ∷ rest) (p ∷ points) [] run shown = absurd shown
  same_run (outside ∷ rest) (p ∷ points) (v ∷ valued) run shown =
      rw (same_point outside power_up p v run.0 shown.0, same_steps p rest points valued run.1 shown.1) refl

pub plain_runs : (d s : Logic) (values : NodeValues) → DoesTheSame d s values → HasNoNodes d → HasNoNodes s → HasRunsOf s d
plain_runs d s values same d_plain s_plain outsides points run =
    let shown = same.runs outsides points run in
    subst (Run s outsides) (same_run d s values d_plain s_plain outsides points shown.0 run shown.1) shown.2
