-- How a row's entry meets the header of its table or vectors (ABEL-HDL Reference Manual, truth tables and test vectors).
use Rattle.std.specs.Prelude.{ℕ, Bool, Option, None, Some, List, [], ◌++◌, map, replicate}
use Rattle.abel_meaning.specs.Terms.{Term, Terms}
use Rattle.abel_meaning.specs.Terms as term
use Rattle.abel_meaning.specs.Designs.{Context}
use Rattle.abel_meaning.specs.Numbers.{member_width, digits}
use Rattle.abel_meaning.specs.Values.{constant_of}

-- what an entry says of a position: a level, .X., .C. or .Z.
pub data Mark : Type 0 where
  Level : (on : Bool) → Mark
  Unknown Pulsed Released : Mark

-- a number meets a part of so many positions whole, and so does a special; from the left
abbrev pub part_marks : Context → (width : ℕ) → Term → List Mark
part_marks d w term.X = replicate w Unknown
part_marks d w term.Pulse = replicate w Pulsed
part_marks d w term.Release = replicate w Released
part_marks d w t = map Level (digits w (constant_of d t).number)

-- the positions of a part of a header
abbrev pub part_width : Context → Term → ℕ
part_width d header = member_width (constant_of d header).shape

-- what an entry says of each position of a header, from the left: a set meets a set of as many members, member by
-- member
abbrev mutual
  pub marks_of : Context → (header entry : Term) → List Mark
  marks_of d (term.Set hs) (term.Set es) = all_marks d hs es
  marks_of d h e = part_marks d (part_width d h) e

  pub all_marks : Context → (headers entries : Terms) → List Mark
  all_marks d term.NoTerm es = []
  all_marks d (term.Before h hs) term.NoTerm = []
  all_marks d (term.Before h hs) (term.Before e es) = marks_of d h e ++ all_marks d hs es

-- the level of a mark, none at X
abbrev pub level_of_mark : Mark → Option Bool
level_of_mark (Level on) = Some on
level_of_mark _ = None

-- the levels of an entry in a table, none at X
abbrev pub entry_levels : Context → (header entry : Term) → List (Option Bool)
entry_levels d h e = map level_of_mark (marks_of d h e)
