-- Numbers among others.
use Rattle.std.proofs.Common.{ℕ, ◌==◌, Bool, List}
use Rattle.declared_names.proofs.Common.{list_any}

-- s is among the numbers
abbrev pub among : ℕ → List ℕ → Bool
among s ks = list_any (λ k. k == s) ks
