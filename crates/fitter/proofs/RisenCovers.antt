-- A cover whose rows were put in order is one still.
use Rattle.std.proofs.Common.{◌≡◌, ℕ, ◌<◌, Bool, List, length, sym, ◌∙◌, arith, inl, inr}
use Rattle.fitter.proofs.Common.{swap, All-permutation, IsPermutation-keeps, length_permutation, list_any-IsPermutation, Cube, covers, has_point, IsIrredundant, IsPrime, IsPrimeIrredundant, exchange_case, exchanged, swapped_others, Products, IsCoverBetween}
use Rattle.std.specs.List.Sorted.{IsPermutation}
use Rattle.std.proofs.lemmas.List.Edits.{length-swap}

within_exchanged : (n i j k : ℕ) → i < n → j < n → k < n → exchanged i j k < n
within_exchanged n i j k li lj lk =
    elim (exchange_case i j k) [
      | inl a ↦ rw a.1 lj
      | inr (inl b) ↦ rw b.2 li
      | inr (inr c) ↦ rw c.2 lk
    ]

swapped : (needed : List Cube) (vars : ℕ) (rows : List Cube) (i j : ℕ) → i < length rows → j < length rows → IsIrredundant needed vars rows → IsIrredundant needed vars (swap rows i j)
swapped needed vars rows i j li lj irredundant k within all =
    let lk : k < length rows = omega (arith, within, length-swap rows i j) in
    irredundant (exchanged i j k) (within_exchanged (length rows) i j k li lj lk) (λ p long on. swapped_others rows i j k p li lj lk (all p long on))

permuted : (needed allowed : List Cube) (vars : ℕ) (rows others : List Cube) → IsPermutation rows others → IsPrimeIrredundant needed allowed vars rows → IsPrimeIrredundant needed allowed vars others
permuted needed allowed vars rows others same prime =
    let points : (p : List Bool) → covers rows p ≡ covers others p = λ p. list_any-IsPermutation (λ c. has_point c p) rows others same in
    record {
      at_needed = λ p long on. sym (points p) ∙ prime.at_needed p long on;
      at_allowed = λ p long on. prime.at_allowed p long (points p ∙ on);
      prime = All-permutation (IsPrime allowed vars) rows others same prime.prime;
      irredundant = IsPermutation-keeps rows (IsIrredundant needed vars) prime.irredundant (λ l i j li lj. swapped needed vars l i j li lj) others same;
    }

pub risen_cover : (vars mask : ℕ) (needed allowed : Products) (rows others : List Cube) → IsPermutation rows others → IsCoverBetween vars mask needed allowed rows
    → IsCoverBetween vars mask needed allowed others
risen_cover vars mask needed allowed rows others same cover = record {
  needs = cover.needs;
  allows = cover.allows;
  needs_is = cover.needs_is;
  allows_is = cover.allows_is;
  prime = permuted _ _ vars rows others same cover.prime;
  few = let few = cover.few in omega (arith, few, length_permutation rows others same);
}
