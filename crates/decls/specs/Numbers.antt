-- The numbers of names in the order of their first declarations.
use Rattle.std.specs.Prelude.{ℕ, Option, None, Some, List, [], ◌∷◌, ◌++◌}
use Rattle.decls.specs.Prelude.{Place, Entry, find, ModuleTree, GivenName}
use Rattle.decls.specs.declared.reading.Buffered.{Buffered}
use Rattle.decls.specs.AllDeclarations.{all_declarations}
use Rattle.decls.specs.NameRefusals.{all_buffered, names_once}

-- a name at this place, if it has a number
abbrev pub number_if : Place → Option ℕ → List Buffered
number_if p None = []
number_if p (Some n) = record { place = p; number = n } ∷ []

-- names of declarations by their numbers
abbrev pub numbered : List Entry → List GivenName → List Buffered
numbered es [] = []
numbered es (x ∷ xs) = number_if x.place (find es x.name) ++ numbered es xs

-- the names of a module that a string with `buffer` is for
abbrev pub buffered_names : ModuleTree → List Buffered
buffered_names m = numbered (names_once m) (all_buffered [] (all_declarations m))
