-- What a text expands to in at most so many turns, as numbers.
use Rattle.std.proofs.Common.{ℕ, zero, suc, ◌+◌, ◌==◌, List, [], ◌∷◌, Ok, Err, if◌then◌else◌}
use Rattle.abel_macros.proofs.Common.{Cause, TooLong, ExpansionLimit, BadDirective, Unsupported, Config, turn}

-- a text expands to these bytes, or is refused after these bytes
pub data Outcome : Type 0 where
  Whole : List ℕ → Outcome
  Stopped : Cause → List ℕ → Outcome
  Unfinished : Outcome

-- at most so many turns
abbrev pub outcome : ℕ → Config → Outcome
outcome zero c = Unfinished
outcome (suc n) c = elim c.rest [ [] ↦ Whole c.done | b ∷ bs ↦ elim (turn c) [ Ok d ↦ outcome n d | Err cause ↦ Stopped cause c.done ] ]

abbrev place_behind : ℕ → ℕ → List ℕ → List ℕ
place_behind line column [] = line ∷ column ∷ []
place_behind line column (b ∷ bs) = if b == 10 then place_behind (line + 1) 1 bs else place_behind line (column + 1) bs

abbrev code : Cause → ℕ
code TooLong = 1
code ExpansionLimit = 2
code BadDirective = 3
code Unsupported = 4

abbrev pub told : Outcome → List ℕ
told (Whole w) = 0 ∷ w
told (Stopped cause w) = code cause ∷ place_behind 1 1 w
told Unfinished = []
