-- The places at which an expression reads signals: a signal that a constant brings is at the constant's name, and each
-- name of a range at its first end (this project's rule).
use Rattle.std.specs.Prelude.{ℕ, Option, None, Some, List, [], ◌∷◌}
use Rattle.design_checks.specs.Prelude.{flat_map, Place, Extension, Tree, Known, term_named, extended_if, innermost, SignalUse, term_uses}
use Rattle.abel_tree.specs.Ranges.{range_names}
use Rattle.abel_tree.specs.declared.words.Word.{Word}
use Rattle.name_uses.specs.NamesUsed.{UsedName, names_used}

-- a signal if an expression reads it, with what is asked of it, and its place in the expanded text
pub record PlacedUse : Type 0 where
  pub read : SignalUse
  pub place : Place

-- what is read, all at one place
abbrev pub all_at : Place → List SignalUse → List PlacedUse
all_at p [] = []
all_at p (u ∷ us) = record { read = u; place = p } ∷ all_at p us

-- the names from one to another, or one name
abbrev pub names_to : Word → Option Word → List (List ℕ)
names_to first None = first.text ∷ []
names_to first (Some last) = range_names first.text last.text

-- what names read with this extension
abbrev pub names_read : List Known → Option Extension → List (List ℕ) → List SignalUse
names_read known e names = flat_map (λ (n : List ℕ). term_uses (extended_if e (term_named known n))) names

-- what is read if an expression uses names, in a set with this extension
abbrev pub reads_used : List Known → (outer : Option Extension) → UsedName → List SignalUse
reads_used known outer u = names_read known (innermost u.extension outer) (names_to u.first u.last)

-- the same at its place, in no further set
abbrev pub uses_used : List Known → UsedName → List PlacedUse
uses_used known u = all_at u.first.place (reads_used known None u)

-- the reads of an expression, from the left
abbrev pub located : List Known → Tree → List PlacedUse
located known t = flat_map (uses_used known) (names_used None t)
