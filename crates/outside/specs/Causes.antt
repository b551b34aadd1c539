-- Counts of faults, and what a refused piece leaves.
use Rattle.std.specs.Prelude.{◌≡◌, ℕ, ◌+◌, ◌-◌, ◌^◌, ◌≤◌, min, List, ◌++◌}

-- the count went up, or is at the last value of a u64
abbrev pub Rose : ℕ → ℕ → Type 0
Rose before now = min (before + 1) (2 ^ 64 - 1) ≤ now

-- the whole begins with this front
abbrev pub Begins : List ℕ → List ℕ → Type 0
Begins whole front = (rest : List ℕ) × (whole ≡ front ++ rest)
