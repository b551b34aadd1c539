-- A line that gives a word, a place and names (this project's report).
use Rattle.std.specs.Prelude.{ℕ, Option, Some, List, ◌++◌, codes}
use Rattle.reports.specs.Prelude.{flat_map, Place, Entry}
use Rattle.reports.specs.SourceLines.{name_of}
use Rattle.reports.specs.RefusalTold.{line_head, tail_text}

-- the names of these numbers, each after a blank
abbrev pub names_text : List Entry → List ℕ → List ℕ
names_text es numbers = flat_map (λ n. tail_text (name_of es n)) numbers

-- the line that gives them
abbrev pub told : List Entry → (word : List ℕ) → Place → (numbers : List ℕ) → Option (List ℕ)
told es word p numbers = Some (line_head word p ++ (names_text es numbers ++ codes "\n"))
