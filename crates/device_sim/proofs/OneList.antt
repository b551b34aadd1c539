-- The list of mismatches of a logic's run, and that a logic with one run has one list.
use Rattle.std.proofs.Common.{◌≡◌, ◌≢◌, ℕ, ◌≤◌, Bool, None, Some, List, [], ◌∷◌, if◌then◌else◌, inl, inr, length, flat_map, refl, ap, sym, ◌∙◌}
use Rattle.device_sim.proofs.Common.{All, cases_Bool, All-nil, All-cons, All-append, All-head, All-tail, Levels, Logic, Lookups, logic_of, IsOrdered, rest_of, step_of, steps_of, Run, power_up, IsWide, RunsOnce, runs_once, Mismatch, at_pins, level_before, level_turned, has_clock, outsides_of, mismatches_of, IsVectorRun, point_after, points_after, mismatches_after}
use Rattle.device_sim.proofs.Outsides.{at_pins_wide}

-- the characters of at most 31 pins
abbrev pub IsNarrow : List ℕ → Type 0
IsNarrow chars = length chars ≤ 31

-- a vector's outside levels are wide
vector_wide : (default : Bool) (chars : List ℕ) → IsNarrow chars → All IsWide (outsides_of default chars)
unfolding outsides_of
vector_wide default chars narrow =
    let before = at_pins_wide (level_before default) chars narrow in
    let turned = at_pins_wide (level_turned default) chars narrow in
    All-cons IsWide (at_pins (level_before default) chars) (if has_clock chars then at_pins (level_turned default) chars ∷ at_pins (level_before default) chars ∷ [] else []) before
    (elim (cases_Bool (has_clock chars)) [
      | inl some ↦ rw some (All-cons IsWide (at_pins (level_turned default) chars) (at_pins (level_before default) chars ∷ []) turned (All-cons IsWide (at_pins (level_before default) chars) [] before (All-nil IsWide)))
      | inr none ↦ rw none (All-nil IsWide)
    ])

pub outsides_wide : (default : Bool) (vectors : List (List ℕ)) → All IsNarrow vectors → All IsWide (flat_map (outsides_of default) vectors)
outsides_wide default [] narrow = All-nil IsWide
outsides_wide default (chars ∷ vectors) narrow =
    All-append IsWide (outsides_of default chars) (flat_map (outsides_of default) vectors)
    (vector_wide default chars (All-head IsNarrow chars vectors narrow))
    (outsides_wide default vectors (All-tail IsNarrow chars vectors narrow))

-- some vectors have some outside levels
pub some_outsides : (default : Bool) (chars : List ℕ) (vectors : List (List ℕ)) → flat_map (outsides_of default) (chars ∷ vectors) ≢ []
unfolding outsides_of
some_outsides default chars vectors none = cc

module _ (m : Logic) (once : RunsOnce m) (default : Bool) where
  -- two lists of mismatches of the run are one
  pub one_list : (vectors : List (List ℕ)) → All IsNarrow vectors → (a b : List Mismatch) → IsVectorRun m default vectors a → IsVectorRun m default vectors b → a ≡ b
  one_list [] narrow a b a_is b_is = a_is.disagrees ∙ sym b_is.disagrees
  one_list (chars ∷ vectors) narrow a b a_is b_is =
      let run = once (flat_map (outsides_of default) (chars ∷ vectors)) (some_outsides default chars vectors) (outsides_wide default (chars ∷ vectors) narrow) in
      let same : a_is.points ≡ b_is.points = run.1.only a_is.points (a_is.runs some_vector) ∙ sym (run.1.only b_is.points (b_is.runs some_vector)) in
      a_is.disagrees ∙ (ap (mismatches_of m default 1 (chars ∷ vectors)) same ∙ sym b_is.disagrees)
    where
      some_vector : (chars ∷ vectors) ≢ []
      some_vector e = cc

module _ (m : Lookups) (ordered : IsOrdered m) where
  -- after a point, the points are those of the steps
  steps_are : (at : Levels) (outsides : List (List Bool)) → points_after m (Some at) outsides ≡ steps_of m at outsides
  unfolding point_after
  steps_are at [] = refl
  steps_are at (o ∷ outsides) = ap (λ ps. step_of m at o ∷ ps) (steps_are (step_of m at o) outsides)

  -- from power-up, they are those of the run
  points_run : (outsides : List (List Bool)) → outsides ≢ [] → All IsWide outsides → Run (logic_of m) outsides (points_after m None outsides)
  unfolding point_after
  points_run [] some wide = absurd (some refl)
  points_run (o ∷ outsides) some wide =
      rw (steps_are (rest_of m o power_up) outsides)
      (runs_once m ordered o outsides (All-head IsWide o outsides wide) (All-tail IsWide o outsides wide)).runs

  -- and so are those of vectors
  pub vectors_run : (default : Bool) (vectors : List (List ℕ)) → All IsNarrow vectors → vectors ≢ [] → Run (logic_of m) (flat_map (outsides_of default) vectors) (points_after m None (flat_map (outsides_of default) vectors))
  vectors_run default [] narrow some = absurd (some refl)
  vectors_run default (chars ∷ vectors) narrow some = points_run (flat_map (outsides_of default) (chars ∷ vectors)) (some_outsides default chars vectors) (outsides_wide default (chars ∷ vectors) narrow)

  -- the computed list is that of the logic's run
  pub is_vector_run : (default : Bool) (vectors : List (List ℕ)) → All IsNarrow vectors → IsVectorRun (logic_of m) default vectors (mismatches_after m default 1 None vectors)
  unfolding mismatches_after
  is_vector_run default vectors narrow = record {
    points = points_after m None (flat_map (outsides_of default) vectors);
    runs = vectors_run default vectors narrow;
    disagrees = refl;
  }
