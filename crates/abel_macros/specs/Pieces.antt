-- Texts that are in pieces, and names, as the code keeps them.
use Rattle.std.specs.Prelude.{ℕ, List, map}
use Rattle.abel_macros.specs.Prelude.{Vec, joined}

-- the texts that are in these pieces
abbrev pub texts : List (Vec (List ℕ)) → List (List ℕ)
texts ws = map (λ w. joined w.items) ws

-- the bytes of these names
abbrev pub names : List (Vec ℕ) → List (List ℕ)
names ws = map (λ w. w.items) ws
