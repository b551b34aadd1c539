-- The signals that a header names, position by position (ABEL-HDL Reference Manual, truth tables and test vectors).
use Rattle.std.specs.Prelude.{◌≡◌, ℕ, Bool, true, false, ◌&&◌, Option, None, Some}
use Rattle.truth_tables.specs.Prelude.{Vec, targets_of, Term, Terms}
use Rattle.abel_meaning.specs.Terms as term

-- a term is a signal without extension, X, or a set of such
abbrev mutual
  pub names_positions : Term → Bool
  names_positions (term.Number n) = false
  names_positions term.X = true
  names_positions term.Pulse = false
  names_positions term.Release = false
  names_positions (term.Read s None) = true
  names_positions (term.Read s (Some e)) = false
  names_positions (term.Set ts) = all_name_positions ts
  names_positions (term.UnaryOf sign t) = false
  names_positions (term.BinaryOf sign t u) = false

  pub all_name_positions : Terms → Bool
  all_name_positions term.NoTerm = true
  all_name_positions (term.Before t ts) = names_positions t && all_name_positions ts

-- the signals of a header from the left, none at X; none at all if it names something else
abbrev pub AreSignals : Term → Option (Vec (Option ℕ)) → Type 0
AreSignals t None = names_positions t ≡ false
AreSignals t (Some ss) = (names_positions t ≡ true) × (ss.items ≡ targets_of t)
