-- Files that a run leaves alone (this project's rule).
use Rattle.std.specs.Prelude.{◌≡◌, ℕ, List, Some}
use Rattle.outside.specs.Causes.{Begins}
use Rattle.outside.specs.Outside.{Map}

-- a file that doesn't begin as a page does stays as it is
abbrev pub KeepsOthers : (front : List ℕ) → (old new : Map) → Type 0
KeepsOthers front old new = (name bytes : List ℕ) → old name ≡ Some bytes → ¬ (Begins bytes front) → new name ≡ Some bytes
