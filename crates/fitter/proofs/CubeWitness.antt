-- A row that can't be left out has a point, so it doesn't ask any variable to be both 1 and 0.
use Rattle.std.proofs.Common.{◌≡◌, ℕ, ◌<◌, ◌≤◌, Bool, true, false, not, ◌==◌, List, length, get_or, remove, refl, sym, ap, ◌∙◌, arith, inl, inr}
use Rattle.fitter.proofs.Common.{bit_at, cases_Bool, cases_eq, true≢false, Cube, covers, fits, full_cube, has_point, CoversList, IsPrimeIrredundant, fits_at, other_covers, some_of}

-- a row without which all points are covered still would be left out
pub row_has_point : (needed allowed : List Cube) (vars : ℕ) (rows : List Cube) → IsPrimeIrredundant needed allowed vars rows → (k : ℕ) → k < length rows
    → ((p : List Bool) → length p ≡ vars → has_point (get_or rows k full_cube) p ≡ true → ⊥) → ⊥
row_has_point needed allowed vars rows prime k within none =
    prime.irredundant k within (λ p long on.
    let found = some_of rows p (prime.at_needed p long on) in
    other_covers rows k p within (found.0, found.1, (λ same. none p long (ap (λ i. has_point (get_or rows i full_cube) p) (sym same) ∙ found.2)), found.2))

both_ways_off : (a b : ℕ) (x : Bool) → (a == 0) ≡ false → (b == 0) ≡ false → fits a b x ≡ false
both_ways_off a b true one none = none
both_ways_off a b false one none = one

-- one of the two bits of a variable is 0
pub asks_one_level : (needed allowed : List Cube) (vars : ℕ) (rows : List Cube) → IsPrimeIrredundant needed allowed vars rows → (k : ℕ) → k < length rows
    → (v : ℕ) → v < vars → (bit_at (get_or rows k full_cube).yes v == 0) ≡ false → (bit_at (get_or rows k full_cube).no v == 0) ≡ false → ⊥
asks_one_level needed allowed vars rows prime k within v low one none =
    row_has_point needed allowed vars rows prime k within (λ p long on.
    let c = get_or rows k full_cube in
    let fit = fits_at c p v on (omega (arith, low, long)) in
    true≢false (sym fit ∙ both_ways_off _ _ _ one none))
