-- The names that an expression uses, from the left, each with the extension that counts for it (ABEL-HDL Reference Manual,
-- sets and dot extensions: an extension of its own precedes that of the set around it).
use Rattle.std.specs.Prelude.{Option, None, Some, List, [], ◌∷◌, ◌++◌}
use Rattle.abel_tree.specs.declared.words.Extension.{Extension}
use Rattle.abel_tree.specs.declared.words.Word.{Word}
use Rattle.abel_tree.specs.Extensions.{innermost}
use Rattle.abel_tree.specs.Tree.{Tree, ANumber, ASpecial, AName, ASet, AParen, AUnary, ABinary, SetMember, OneMember, SpanMember, Members, NoMember, MoreMembers}

-- a name, or the names of a range from the first up or down to the last
pub record UsedName : Type 0 where
  pub first : Word
  pub last : Option Word
  pub extension : Option Extension

-- the names of an expression in a set with this extension
abbrev mutual
  pub names_used : (outer : Option Extension) → Tree → List UsedName
  names_used outer (ANumber n) = []
  names_used outer (ASpecial letter place) = []
  names_used outer (AName word e) = record { first = word; last = None; extension = innermost e outer } ∷ []
  names_used outer (ASet place ms e) = members_used (innermost e outer) ms
  names_used outer (AParen place t) = names_used outer t
  names_used outer (AUnary sign place t) = names_used outer t
  names_used outer (ABinary sign place t u) = names_used outer t ++ names_used outer u

  pub members_used : (outer : Option Extension) → Members → List UsedName
  members_used outer NoMember = []
  members_used outer (MoreMembers m ms) = member_used outer m ++ members_used outer ms

  pub member_used : (outer : Option Extension) → SetMember → List UsedName
  member_used outer (OneMember t) = names_used outer t
  member_used outer (SpanMember first last) = record { first = first; last = Some last; extension = outer } ∷ []
