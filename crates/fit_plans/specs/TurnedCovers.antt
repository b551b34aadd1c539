-- Prime and irredundant lists of rows under an exchange of levels (two-level minimisation; the masks are this project's rule).
use Rattle.std.specs.Prelude.{◌≡◌, ℕ, ◌<◌, ◌≤◌, ◌^◌, ◌==◌, not, if◌then◌else◌, List}
use Rattle.fit_plans.specs.Prelude.{bit_at, Cube, IsPrimeIrredundant}
use Rattle.fit_plans.specs.Columns.{all_turned}

-- exchanging the levels of some variables in rows, needed and allowed lists keeps rows prime and irredundant
abbrev pub TurnedStaysPrime : Type 0
TurnedStaysPrime =
    (mask vars : ℕ) (needed allowed rows : List Cube) → mask < 2 ^ 32 → vars ≤ 32 → IsPrimeIrredundant needed allowed vars rows
    → IsPrimeIrredundant (all_turned mask needed) (all_turned mask allowed) vars (all_turned mask rows)

-- the second mask says of each variable what the first one does, exchanged where `other` says so
abbrev pub IsExchangedMask : (vars mask other both : ℕ) → Type 0
IsExchangedMask vars mask other both =
    (v : ℕ) → v < vars → (bit_at both v == 1) ≡ (if bit_at other v == 1 then not (bit_at mask v == 1) else (bit_at mask v == 1))

-- so rows between two lists under one mask are, turned, rows between them under the other
abbrev pub TurnedAgain : Type 0
TurnedAgain =
    (mask other both vars : ℕ) (needed allowed rows : List Cube) → mask < 2 ^ 32 → other < 2 ^ 32 → both < 2 ^ 32 → vars ≤ 32
    → IsExchangedMask vars mask other both → IsPrimeIrredundant (all_turned mask needed) (all_turned mask allowed) vars rows
    → IsPrimeIrredundant (all_turned both needed) (all_turned both allowed) vars (all_turned other rows)
