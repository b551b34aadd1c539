-- The names that precede a declaration or a use (ABEL-HDL Reference Manual, declarations).
use Rattle.std.specs.Prelude.{ℕ, List, [], ◌∷◌, ◌++◌, is_some, fold, drop, length, bytes_eq, if◌then◌else◌}
use Rattle.decls.specs.Prelude.{Words, Entry, kind_of, Declaration, GivenName, declared}

-- the names after these declarations; a name that is declared twice is twice
abbrev pub names_behind : List Declaration → List Entry
names_behind ds = fold declared [] ds

-- what one more declaration adds
abbrev pub added : List Entry → Declaration → List Entry
added es d = drop (length es) (declared es d)

-- one more name, if it is new
abbrev pub enter : List Entry → Entry → List Entry
enter es e = if is_some (kind_of es e.name) then es else es ++ e ∷ []

-- each name as it is declared first
abbrev pub first_entries : List Entry → List Entry
first_entries es = fold enter [] es

-- the words of a name, as it is declared first: none or one
abbrev pub words_named : List Entry → List ℕ → List Words
words_named [] name = []
words_named (e ∷ es) name = if bytes_eq name e.name then e.words ∷ [] else words_named es name

-- those of all names of a declaration
abbrev pub words_of_names : List Entry → List GivenName → List Words
words_of_names es [] = []
words_of_names es (x ∷ xs) = words_named es x.name ++ words_of_names es xs
