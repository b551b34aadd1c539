-- Assignments of pins to signals, the one that is taken, and why there may be none (graph theory: matchings of a
-- bipartite graph; Hall's condition). A signal is given by its wish: the pins that fit it, the most preferred one first.
use Rattle.std.specs.Prelude.{◌≡◌, ℕ, suc, ◌<◌, Bool, true, false, not, ◌&&◌, ◌||◌, ◌==◌, eqb, List, [], ◌∷◌, length, get_or, take}
use Rattle.std.specs.List.{flat_map, IsDistinct}
use Rattle.std.specs.List.Sorted.{IsStrictlyIncreasing}
use Rattle.std.specs.Set.{distinct_count}
use Rattle.pld_order.specs.Graphs.{has}

-- the pins that fit the signal of this number, the most preferred one first
abbrev pub wish_of : List (List ℕ) → ℕ → List ℕ
wish_of wishes signal = get_or wishes signal []

-- the pin fits the signal
abbrev pub fits : List (List ℕ) → (signal pin : ℕ) → Bool
fits wishes signal pin = has (wish_of wishes signal) pin

-- each signal has a pin that fits it, no two the same; pins are in the order of the signals
pub record IsAssignment (wishes : List (List ℕ)) (pins : List ℕ) : Type 0 where
  pub each : length pins ≡ length wishes
  pub fit : (s : ℕ) → s < length wishes → fits wishes s (get_or pins s 0) ≡ true
  pub once : IsDistinct eqb pins

-- there is an assignment
abbrev pub CanPlace : List (List ℕ) → Type 0
CanPlace wishes = (pins : List ℕ) × IsAssignment wishes pins

-- no pins are an assignment
abbrev pub CannotPlace : List (List ℕ) → Type 0
CannotPlace wishes = (pins : List ℕ) → IsAssignment wishes pins → ⊥

-- the first number is in the list, and before the first place of the second
abbrev pub stands_before : List ℕ → (first second : ℕ) → Bool
stands_before [] first second = false
stands_before (x ∷ xs) first second = not (x == second) && ((first == x) || stands_before xs first second)

-- the assignment that is taken: no signal prefers a pin to its own with which, if the signals before it keep theirs, it
-- and all later ones can still be placed
pub record IsTaken (wishes : List (List ℕ)) (pins : List ℕ) : Type 0 where
  pub is_assignment : IsAssignment wishes pins
  pub first : (s better : ℕ) → s < length wishes
      → stands_before (wish_of wishes s) better (get_or pins s 0) ≡ true
      → (others : List ℕ) → IsAssignment wishes others → take s others ≡ take s pins → get_or others s 0 ≡ better → ⊥

-- how many pins fit some signal of a set
abbrev pub places : List (List ℕ) → List ℕ → ℕ
places wishes set = distinct_count eqb (flat_map (wish_of wishes) set)

-- a set of signals that has fewer fitting pins than members
pub record IsCrowded (wishes : List (List ℕ)) (set : List ℕ) : Type 0 where
  pub inside : (s : ℕ) → has set s ≡ true → s < length wishes
  pub once : IsDistinct eqb set
  pub fewer : places wishes set < length set

-- the first signal that can't be placed together with all before it
pub record IsFirstUnplaced (wishes : List (List ℕ)) (signal : ℕ) : Type 0 where
  pub inside : signal < length wishes
  pub before : CanPlace (take signal wishes)
  pub with_it : CannotPlace (take (suc signal) wishes)

-- the one least set of signals that has fewer fitting pins than members: it lies in every other
pub record IsLeastCrowded (wishes : List (List ℕ)) (set : List ℕ) : Type 0 where
  pub crowded : IsCrowded wishes set
  pub least : (others : List ℕ) → IsCrowded wishes others → (s : ℕ) → has set s ≡ true → has others s ≡ true

-- what is kept where not all can be placed: in rising order the least crowded set among the first signal that can't be
-- placed together with all before it, and those before it; and how many pins fit some member
pub record IsKept (wishes : List (List ℕ)) (set : List ℕ) (count : ℕ) : Type 0 where
  pub signal : ℕ
  pub first : IsFirstUnplaced wishes signal
  pub least : IsLeastCrowded (take (suc signal) wishes) set
  pub rising : IsStrictlyIncreasing set
  pub counted : count ≡ places wishes set
