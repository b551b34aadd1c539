-- What represents parameters, as the code keeps it: names with their arguments in pieces.
use Rattle.std.specs.Prelude.{ℕ, List, Option, option_map}
use Rattle.text_rewriting.specs.Prelude.{joined, under, by_bytes}
use Rattle.std.specs.Borrow.{Bor}
use Rattle.std.specs.Global.{Vec}

-- the argument that represents a name
abbrev pub bound : List (Vec ℕ × Bor (List (List ℕ))) → List ℕ → Option (List ℕ)
bound es w = option_map (λ a. joined a.now) (under (by_bytes es) w)
