-- What is known of a text's places: the end of the block that begins there, the end of the
-- argument, and up to which place there is no byte of some kind.
use Rattle.std.specs.Prelude.{ℕ, Bool, ◌+◌, ◌-◌, ◌≡◌, ◌≤◌, List, [], ◌∷◌, length, take, drop, Some}
use Rattle.std.specs.List.{count_by}
use Rattle.text_pieces.specs.Brackets.{closing, argument_end}
use Rattle.text_pieces.specs.declared.mode.Mode.TheVariants as mode

-- the block whose text begins at a place is closed at another
abbrev pub ClosesAt : List ℕ → ℕ → ℕ → Type 0
ClosesAt text from end = closing 0 mode.Plain (drop from text) ≡ Some (drop end text)

-- the argument that begins at a place ends at another
abbrev pub EndsAt : List ℕ → ℕ → ℕ → Type 0
EndsAt text from end = argument_end 0 0 mode.Plain (drop from text) ≡ Some (drop end text)

-- no such byte is between two places
abbrev pub FreeOf : (ℕ → Bool) → List ℕ → ℕ → ℕ → Type 0
FreeOf is text from end = (count_by is (take (end - from) (drop from text)) ≡ 0) × (end ≤ length text)

-- what a table says of its places from one on; 0 says nothing
abbrev pub Tells : (ℕ → ℕ → Type 0) → ℕ → List ℕ → Type 0
Tells fact from [] = Unit {0}
Tells fact from (e ∷ es) = ((e ≡ 0 → ⊥) → fact from e) × Tells fact (from + 1) es
