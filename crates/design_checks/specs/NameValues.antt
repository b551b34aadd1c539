-- Private: what is kept of the names of a source, by their places (this project's rule).
use Rattle.std.specs.Prelude.{◌≡◌, ℕ, List, ◌++◌, map}
use Rattle.design_checks.specs.Prelude.{Entry, Known, Term}

-- of what each of these names represents
abbrev pub values_of : {V : Type 0} (of : Term → V) → List Known → List V
values_of of ks = map (λ (k : Known). of k.term) ks

-- of the first of these names
pub record AreOfNames (V : Type 0) (of : Term → V) (es : List Entry) (vs : List V) (ks : List Known) : Type 0 where
  pub later : List (List ℕ)
  pub names : map (λ (e : Entry). e.name) es ≡ map (λ (k : Known). k.name) ks ++ later
  pub values : vs ≡ values_of of ks
