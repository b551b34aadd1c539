-- Files by their names, and what a call leaves of them.
use Rattle.std.specs.Prelude.{◌≡◌, ◌≢◌, ℕ, List, [], Option, unwrap_or, IfSome}
use Rattle.outside.specs.Causes.{Begins}

-- names to bytes; an absent name has None
abbrev pub Map : Type 0
Map = List ℕ → Option (List ℕ)

-- the bytes under a name, none if it is absent
abbrev pub bytes_at : Map → List ℕ → List ℕ
bytes_at files name = unwrap_or (files name) []

-- every name has what it had
abbrev pub SameFiles : Map → Map → Type 0
SameFiles old new = (name : List ℕ) → new name ≡ old name

-- every name but one has what it had
abbrev pub SameBut : List ℕ → Map → Map → Type 0
SameBut but old new = (name : List ℕ) → name ≢ but → new name ≡ old name

-- a write under one name loses nothing: there is no file, or one that begins with this front and is not that of the input
abbrev pub MayReplace : Map → (output input front : List ℕ) → Type 0
MayReplace files output input front = IfSome (files output) (λ bytes. (output ≢ input) × Begins bytes front)
