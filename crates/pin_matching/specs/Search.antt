-- Private: what the search for a pin for one more signal keeps (graph theory: alternating paths; this project's form).
use Rattle.std.specs.Prelude.{◌≡◌, ℕ, ◌<◌, ◌≤◌, true, false, eqb, List, [], ◌∷◌, ◌++◌, length, get_or, take, drop, map, Option, None, Some, suc}
use Rattle.std.specs.List.{IsDistinct}
use Rattle.std.specs.Global.{Vec}
use Rattle.pld_order.specs.Graphs.{has}
use Rattle.pin_matching.specs.Assignments.{fits, IsAssignment}

-- the wishes if the first signals have pins already
abbrev pub narrowed : List (List ℕ) → List ℕ → List (List ℕ)
narrowed wishes fixed = map (λ p. p ∷ []) fixed ++ drop (length fixed) wishes

-- the first signals have pins, and there is another one
pub record IsBegun (wishes : List (List ℕ)) (pins : List ℕ) : Type 0 where
  pub more : length pins < length wishes
  pub placed : IsAssignment (take (length pins) wishes) pins

-- the pin of each of these, up to a place of the list and except for the first, fits one that precedes it
abbrev pub AreLed : List (List ℕ) → (pins reached : List ℕ) → ℕ → Type 0
AreLed wishes pins reached last =
    (i : ℕ) → 0 < i → i ≤ last → i < length reached
    → (j : ℕ) × (j < i) × (fits wishes (get_or reached j 0) (get_or pins (get_or reached i 0) 0) ≡ true)

-- signals, each once: first the one without a pin, then placed ones, each of whose pins fits one before it
pub record AreReached (wishes : List (List ℕ)) (pins reached : List ℕ) : Type 0 where
  pub some : 0 < length reached
  pub first : get_or reached 0 0 ≡ length pins
  pub inside : (s : ℕ) → has reached s ≡ true → s ≤ length pins
  pub once : IsDistinct eqb reached
  pub led : AreLed wishes pins reached (length reached)

-- a placed signal that isn't among them, whose pin fits one of them
pub record LeadsOn (wishes : List (List ℕ)) (pins reached : List ℕ) (next : ℕ) : Type 0 where
  pub placed : next < length pins
  pub new : has reached next ≡ false
  pub from : ℕ
  pub within : from < length reached
  pub led : fits wishes (get_or reached from 0) (get_or pins next 0) ≡ true

-- no pin of a placed signal that isn't among them fits one of them
abbrev pub IsClosed : List (List ℕ) → (pins reached : List ℕ) → Type 0
IsClosed wishes pins reached =
    (t : ℕ) → t < length pins → has reached t ≡ false
    → (j : ℕ) → j < length reached → fits wishes (get_or reached j 0) (get_or pins t 0) ≡ false

-- every pin that fits one of them is taken
abbrev pub NoneIsFree : List (List ℕ) → (pins reached : List ℕ) → Type 0
NoneIsFree wishes pins reached =
    (j : ℕ) → j < length reached → (p : ℕ) → fits wishes (get_or reached j 0) p ≡ true → has pins p ≡ true

-- a free pin that fits the signal
pub record IsFreePin (wishes : List (List ℕ)) (pins : List ℕ) (signal pin : ℕ) : Type 0 where
  pub fit : fits wishes signal pin ≡ true
  pub free : has pins pin ≡ false

-- the place of a signal with a free pin that fits it, and the pin
pub record IsOpenPlace (wishes : List (List ℕ)) (pins reached : List ℕ) (found : ℕ × ℕ) : Type 0 where
  pub within : found.0 < length reached
  pub free : IsFreePin wishes pins (get_or reached found.0 0) found.1

-- the place of the first signal of the list that the pin fits
pub record IsFirstFitting (wishes : List (List ℕ)) (reached : List ℕ) (pin place : ℕ) : Type 0 where
  pub within : place < length reached
  pub fit : fits wishes (get_or reached place 0) pin ≡ true
  pub first : (k : ℕ) → k < place → fits wishes (get_or reached k 0) pin ≡ false

-- the pin fits no signal of the list
abbrev pub NoneFits : List (List ℕ) → (reached : List ℕ) → ℕ → Type 0
NoneFits wishes reached pin = (k : ℕ) → k < length reached → fits wishes (get_or reached k 0) pin ≡ false

-- the signals that the next one reaches, none of which has a free pin
pub record AreStuck (wishes : List (List ℕ)) (pins reached : List ℕ) : Type 0 where
  pub are_reached : AreReached wishes pins reached
  pub closed : IsClosed wishes pins reached
  pub none : NoneIsFree wishes pins reached

-- with the next signal after so many, all are placed; or it reaches these, and none of them has a free pin
abbrev pub IsStuckOr : List (List ℕ) → (count : ℕ) → (pins : List ℕ) → Option (Vec ℕ) → Type 0
IsStuckOr wishes count pins None = IsAssignment (take (suc count) wishes) pins
IsStuckOr wishes count pins (Some set) = IsBegun wishes pins × AreStuck wishes pins set.items
