-- Numbers in a list.
use Rattle.std.specs.Prelude.{ℕ, Bool, ◌==◌, List}
use Rattle.std.specs.List.{list_any}

-- v is in the list
abbrev pub has : List ℕ → ℕ → Bool
has xs v = list_any (λ x. v == x) xs
