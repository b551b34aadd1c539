-- Places in texts that are in pieces.
use Rattle.std.specs.Prelude.{ℕ, ◌≡◌, ◌<◌, ◌≤◌, ◌^◌, List, [], ◌++◌, ◌-◌, length, drop}
use Rattle.text_pieces.specs.Stacks.{stacked}
use Rattle.text_pieces.specs.declared.place.Place.{Place}

-- the text from a place on
abbrev pub text_at : Place → List ℕ
text_at p = p.front.now ++ stacked p.below.now

-- how many bytes of its piece were passed
abbrev pub at_of : Place → ℕ
at_of p = length p.here.now - length p.front.now

-- what is left of its piece are the bytes after these
abbrev pub IsPlace : Place → Type 0
IsPlace p = (p.front.now ≡ drop (at_of p) p.here.now) × (length p.front.now ≤ length p.here.now) × (length p.below.now < 2 ^ 58)

-- its piece has bytes left if the text goes on
abbrev pub IsSettled : Place → Type 0
IsSettled p = p.front.now ≡ [] → stacked p.below.now ≡ []
