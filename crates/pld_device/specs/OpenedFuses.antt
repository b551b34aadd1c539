-- How many fuses of a device are opened (this project's rule).
use Rattle.std.specs.Prelude.{ℕ, Bool, List}
use Rattle.std.specs.List.{count_by}

-- how many fuses are 1
abbrev pub opened_of : List Bool → ℕ
opened_of fuses = count_by (λ fuse. fuse) fuses
