-- How a refusal of a source is reported (this project's report).
use Rattle.std.specs.Prelude.{ℕ, Option, None, Some, List, [], ◌∷◌, ◌++◌, codes}
use Rattle.reports.specs.Prelude.{decimal, Place}

-- the word of a refusal, its place, and the name that is reported with it
pub record Telling : Type 0 where
  pub word : List ℕ
  pub place : Place
  pub name : Option (List ℕ)

abbrev pub tail_text : Option (List ℕ) → List ℕ
tail_text None = []
tail_text (Some name) = codes " " ++ name

-- what a line begins with
abbrev pub line_head : List ℕ → Place → List ℕ
line_head word p = codes "error " ++ (word ++ (codes " at " ++ (decimal p.line ++ (codes ":" ++ decimal p.column))))

-- the line of the report
abbrev pub told_line : Telling → List ℕ
told_line t = line_head t.word t.place ++ (tail_text t.name ++ codes "\n")

-- a refusal without a name, and with one
abbrev pub plain : List ℕ → Place → Option Telling
plain word p = Some (record { word = word; place = p; name = None })

abbrev pub with_name : List ℕ → Place → List ℕ → Option Telling
with_name word p name = Some (record { word = word; place = p; name = Some name })

abbrev pub with_name_if : List ℕ → Place → Option (List ℕ) → Option Telling
with_name_if word p name = Some (record { word = word; place = p; name = name })
