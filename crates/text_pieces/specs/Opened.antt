-- Blocks and arguments that are open at a place.
use Rattle.std.specs.Prelude.{ℕ, ◌≡◌, List, [], ◌∷◌, length, drop, Option}
use Rattle.text_pieces.specs.Brackets.{closing, argument_end}
use Rattle.text_pieces.specs.Known.{ClosesAt, EndsAt, Tells}
use Rattle.text_pieces.specs.declared.ends.Ends.{Ends}
use Rattle.text_pieces.specs.declared.mode.Mode.{Mode}
use Rattle.text_pieces.specs.declared.mode.Mode.TheVariants as mode

-- what began at each of these places, the innermost one last, ends where what is here ends, with as many open as began
-- after it
abbrev pub Opened : (ℕ → Option (List ℕ)) → (ℕ → Option (List ℕ)) → List ℕ → Type 0
Opened from here [] = Unit {0}
Opened from here (p ∷ ps) = (from p ≡ here (length ps)) × Opened from here ps

-- blocks that are open before the byte at a place, which is in such a mode
pub record BlocksOpen (text : List ℕ) (m : Mode) (at : ℕ) (e : Ends) : Type 0 where
  pub begun : Opened (λ p. closing 0 mode.Plain (drop p text)) (λ inside. closing inside m (drop at text)) e.begun.items
  pub ends : Tells (ClosesAt text) 0 e.ends.items

-- arguments that are open there and have no brackets
pub record ArgumentsOpen (text : List ℕ) (m : Mode) (at : ℕ) (e : Ends) : Type 0 where
  pub begun : Opened (λ p. argument_end 0 0 mode.Plain (drop p text)) (λ inside. argument_end inside 0 m (drop at text)) e.begun.items
  pub ends : Tells (EndsAt text) 0 e.ends.items
