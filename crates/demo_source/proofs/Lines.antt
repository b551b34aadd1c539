-- The vectors' lines, one after another, and the run that they show.
use Rattle.std.proofs.Common.{◌≡◌, ℕ, zero, suc, ◌+◌, ◌-◌, ◌<◌, ◌≤◌, Bool, true, false, length, Option, Some, None, List, [], ◌∷◌, ◌++◌, flat_map, refl, ap, sym, ◌∙◌, arith, append_assoc, append-nil, codes}
use Rattle.demo_source.proofs.Common.{is_on, Levels, logic_of, state_after, many, inputs_drawn, equations_drawn, all_inputs_drawn, machine, outside, pulse, IsDemoSource, equations_text, further_text, head_text, levels_text, vector_text}
use Rattle.pld_base.specs.Logic.{Logic}
use Rattle.pld_machine.specs.Steps.{Steps, Run}
use Rattle.demo_source.specs.Pulses.{Come, IsPulsed, AreLines}

module _ (m : Logic) where
  -- after a point, what follows is its steps
  come_steps : (at : Levels) (outsides : List (List Bool)) (points : List Levels) → Come m (Some at) outsides points → Steps m at outsides points
  come_steps at [] [] come = come
  come_steps at (o ∷ outsides) (p ∷ points) come = (come.0, come_steps p outsides points come.1)
  come_steps at [] (p ∷ points) come = come
  come_steps at (o ∷ outsides) [] come = come

  -- from power-up on, it is a run
  pub come_run : (outside : List Bool) (outsides : List (List Bool)) (points : List Levels) → Come m None (outside ∷ outsides) points → Run m (outside ∷ outsides) points
  come_run o outsides [] come = come
  come_run o outsides (p ∷ points) come = (come.0, come_steps p outsides points come.1)

  -- no vector has no line
  pub no_lines : (before : Option Levels) → AreLines m before [] []
  no_lines before = record { points = []; come = tt; spells = refl }

  -- a vector's line before those of the next ones
  pub one_line : (before : Option Levels) (inputs : List Bool) (rest : List (List Bool)) (back : Levels) (lines : List ℕ) → IsPulsed m before inputs back → AreLines m (Some back) rest lines → AreLines m before (inputs ∷ rest) (vector_text inputs back ++ lines)
  one_line before inputs rest back lines pulsed more = record {
    points = pulsed.first ∷ pulsed.turned ∷ back ∷ more.points;
    come = (pulsed.comes, (pulsed.turns, (pulsed.turns_back, more.come)));
    spells = ap (λ text. vector_text inputs back ++ text) more.spells;
  }

  -- after so many of n vectors: whatever the lines of the others are, with them the text has those of all
  pub record HasLines (n first : ℕ) (old items : List ℕ) (before : Option Levels) (state i : ℕ) : Type 0 where
    pub few : i ≤ n
    pub whole : (lines : List ℕ) → AreLines m before (many inputs_drawn 10 (n - i) state) lines
        → (all : List ℕ) × (old ++ all ≡ items ++ lines) × AreLines m None (many inputs_drawn 10 n first) all

  module _ (n first : ℕ) (old : List ℕ) where
    pub none_yet : HasLines n first old old None first 0
    none_yet = record { few = omega arith; whole = λ lines are. (lines, refl, rw (← minus-zero n) are) }
      where
        minus-zero : (n : ℕ) → n - 0 ≡ n
        minus-zero n = omega arith

    pub one_more : (items : List ℕ) (before : Option Levels) (state i : ℕ) (inputs : List Bool) (back : Levels) → HasLines n first old items before state i → i < n → inputs ≡ inputs_drawn state → IsPulsed m before inputs back → HasLines n first old (items ++ vector_text inputs back) (Some back) (state_after 10 state) (i + 1)
    unfolding many
    one_more items before state i inputs back has within drawn pulsed = record { few = omega arith; whole = whole }
      where
        less_one : (n i : ℕ) → i < n → n - i ≡ suc (n - (i + 1))
        less_one n i within = omega arith

        unfolded : many inputs_drawn 10 (n - i) state ≡ inputs ∷ many inputs_drawn 10 (n - (i + 1)) (state_after 10 state)
        unfolded = rw (less_one n i within, drawn) refl

        whole : (lines : List ℕ) → AreLines m (Some back) (many inputs_drawn 10 (n - (i + 1)) (state_after 10 state)) lines → (all : List ℕ) × (old ++ all ≡ (items ++ vector_text inputs back) ++ lines) × AreLines m None (many inputs_drawn 10 n first) all
        whole lines are =
            let longer = has.whole (vector_text inputs back ++ lines) (rw unfolded (one_line before inputs _ back lines pulsed are)) in
            (longer.0, longer.1 ∙ sym (append_assoc items (vector_text inputs back) lines), longer.2)

    pub all_lines : (items : List ℕ) (before : Option Levels) (state i : ℕ) → HasLines n first old items before state i → i ≡ n → (all : List ℕ) × (items ≡ old ++ all) × AreLines m None (many inputs_drawn 10 n first) all
    unfolding many
    all_lines items before state i has end =
        let whole = has.whole [] (rw none_left (no_lines before)) in
        (whole.0, sym (append-nil items) ∙ sym whole.1, whole.2)
      where
        zero_left : (n i : ℕ) → i ≡ n → n - i ≡ 0
        zero_left n i end = omega arith

        none_left : many inputs_drawn 10 (n - i) state ≡ []
        none_left = rw (zero_left n i end) refl

-- the levels shown up to the next register
pub levels_more : (at : Levels) (register : ℕ) → 1 ≤ register → levels_text at (register + 1 - 1) ≡ levels_text at (register - 1) ++ further_text (is_on at.pins (23 - register))
levels_more at register some = rw (next register some, same register some) refl
  where
    next : (r : ℕ) → 1 ≤ r → r + 1 - 1 ≡ suc (r - 1)
    next r some = omega arith

    same : (r : ℕ) → 1 ≤ r → 23 - r ≡ 23 - suc (r - 1)
    same r some = omega arith

pub length-many : {A : Type 0} (draw : ℕ → A) (draws n x : ℕ) → length (many draw draws n x) ≡ n
unfolding many
length-many draw draws zero x = refl
length-many draw draws (suc n) x = ap suc (length-many draw draws n (state_after draws x))

-- the points of drawn pulses are a run
run_of_pulses : (m : Logic) (n x : ℕ) (points : List Levels) → Come m None (flat_map pulse (many inputs_drawn 10 (suc n) x)) points → Run m (flat_map pulse (many inputs_drawn 10 (suc n) x)) points
unfolding many
run_of_pulses m n x points come =
    come_run m (outside false (inputs_drawn x)) (outside true (inputs_drawn x) ∷ outside false (inputs_drawn x) ∷ flat_map pulse (many inputs_drawn 10 n (state_after 10 x))) points come

-- the whole source
pub is_demo_source : (seed : ℕ) (lines text : List ℕ) → AreLines (logic_of (machine (equations_drawn seed))) None (all_inputs_drawn seed) lines → text ≡ head_text ++ equations_text 0 (equations_drawn seed) ++ codes "test_vectors ([clk,i0..i9] -> [q0..q9])\n" ++ lines ++ codes "end\n" → IsDemoSource seed text
is_demo_source seed lines text are spelled = record {
  points = are.points;
  runs = run_of_pulses (logic_of (machine (equations_drawn seed))) 999 (state_after 480 seed) are.points are.come;
  spells = spelled ∙ ap (λ ls. head_text ++ equations_text 0 (equations_drawn seed) ++ codes "test_vectors ([clk,i0..i9] -> [q0..q9])\n" ++ ls ++ codes "end\n") are.spells;
}
