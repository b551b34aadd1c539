-- A logic that allows no more than another has only rests, steps and runs of the other: each point is seen as itself.
use Rattle.std.proofs.Common.{◌≡◌, ℕ, ◌<◌, Bool, true, false, List, [], ◌∷◌, refl, sym, ◌∙◌, subst}
use Rattle.pld_machine.proofs.Common.{is_on, Levels, IsPoint, Logic, AtRest, Step, Run, AllowsAt, IsSeenBy, RefinesThrough, AreSeen, Refines}
use Rattle.pld_machine.proofs.ThroughRuns.{rest_through, step_through, step_sees, run_through}

-- the point itself, with nodes that the logic allows
pub record IsItself (d : Logic) (at seen : Levels) : Type 0 where
  pub same : seen ≡ at
  pub is_point : IsPoint at
  pub nodes : (n : ℕ) → n < 128 → d.is_node n ≡ true → d.allows_node at n (is_on at.nodes n) ≡ true
  pub no_node : (n : ℕ) → n < 128 → d.is_node n ≡ false → is_on at.nodes n ≡ false

-- points that are seen as themselves
same_points : (d : Logic) (points others : List Levels) → AreSeen (IsItself d) points others → others ≡ points
same_points d [] [] seen = refl
same_points d [] (o ∷ others) seen = absurd seen
same_points d (p ∷ points) [] seen = absurd seen
same_points d (p ∷ points) (o ∷ others) seen = rw (seen.0.same, same_points d points others seen.1) refl

module _ (d s : Logic) (r : Refines d s) where
  itself : (outside stored : List Bool) (at : Levels) → AtRest d outside stored at → IsItself d at at
  itself outside stored at rests = record { same = refl; is_point = rests.is_point; nodes = rests.settled.nodes; no_node = rests.settled.no_node }

  seen_itself : (at : Levels) → IsItself d at at → IsSeenBy s at at
  seen_itself at is = record {
    is_point = is.is_point;
    pins = refl;
    q = refl;
    node = λ n low node. r.node at is.is_point n low (is_on at.nodes n) (is.nodes n low (r.is_node n low ∙ node));
    no_node = λ n low none. is.no_node n low (r.is_node n low ∙ none);
  }

  through_itself : RefinesThrough d s (IsItself d)
  through_itself = record {
    same_cells = r.same_cells;
    sees = λ outside stored at rests. (at, itself outside stored at rests);
    seen = λ at seen is. subst (IsSeenBy s at) (sym is.same) (seen_itself at (subst (IsItself d at) is.same is));
    allows = λ at seen is. subst (AllowsAt d s at) (sym is.same) (r.allows at is.is_point);
  }

  pub rest_refines : (outside stored : List Bool) (at : Levels) → AtRest d outside stored at → AtRest s outside stored at
  rest_refines outside stored at rests = rest_through d s (IsItself d) through_itself at at (itself outside stored at rests) outside stored rests

  pub step_refines : (before : Levels) (outside : List Bool) (after : Levels) → Step d before outside after → Step s before outside after
  step_refines before outside after step =
      let sees = step_sees d s (IsItself d) through_itself before outside after step in
      let is : IsItself d after after = subst (IsItself d after) sees.1.same sees.1 in
      step_through d s (IsItself d) through_itself before before refl refl outside after after is step

  pub run_refines : (outsides : List (List Bool)) (points : List Levels) → Run d outsides points → Run s outsides points
  run_refines outsides points run =
      let seen = run_through d s (IsItself d) through_itself outsides points run in
      subst (Run s outsides) (same_points d points seen.0 seen.1) seen.2
