-- What the code knows of the words of a string.
use Rattle.std.specs.Prelude.{◌≡◌, ℕ, ◌==◌, not, List, map, filter, length}
use Rattle.decls.specs.Prelude.{str_to_ascii_lowercase, said_words}
use Rattle.decls.specs.declared.strings.StringWords.{StringWords}
use Rattle.decls.specs.Attributes.{has_unknown}
use Rattle.decls.specs.Shown.{view_said}

-- the pieces between separators that are words, in lower case
abbrev pub lower_words : List (List ℕ) → List (List ℕ)
lower_words ps = map str_to_ascii_lowercase (filter (λ p. not (length p == 0)) ps)

-- what these words say, and whether one is unknown
pub record Tells (w : StringWords) (ws : List (List ℕ)) : Type 0 where
  pub said : view_said w.said ≡ said_words ws
  pub unknown : w.unknown ≡ has_unknown ws
