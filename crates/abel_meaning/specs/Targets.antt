-- The signals of a target, position by position (ABEL-HDL Reference Manual, equations).
use Rattle.std.specs.Prelude.{ℕ, Option, None, Some, List, [], ◌∷◌, ◌++◌}
use Rattle.abel_meaning.specs.Terms.{Term, Terms, Number, X, Pulse, Release, Read, Set, UnaryOf, BinaryOf, NoTerm, Before}

-- the signals of a target from the left, none at an X position
abbrev mutual
  pub targets_of : Term → List (Option ℕ)
  targets_of (Number n) = []
  targets_of X = None ∷ []
  targets_of Pulse = []
  targets_of Release = []
  targets_of (Read s e) = Some s ∷ []
  targets_of (Set ts) = all_targets ts
  targets_of (UnaryOf sign t) = []
  targets_of (BinaryOf sign t u) = []

  pub all_targets : Terms → List (Option ℕ)
  all_targets NoTerm = []
  all_targets (Before t ts) = targets_of t ++ all_targets ts

-- the signals alone
abbrev pub some_signals : List (Option ℕ) → List ℕ
some_signals [] = []
some_signals (None ∷ ss) = some_signals ss
some_signals (Some s ∷ ss) = s ∷ some_signals ss
