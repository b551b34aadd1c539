-- The names that an expression names if it is a target: up to parentheses and sets within sets, and none by what has an
-- extension of its own (ABEL-HDL Reference Manual, equations).
use Rattle.std.specs.Prelude.{Option, None, Some, List, [], ◌∷◌, ◌++◌}
use Rattle.abel_tree.specs.Tree.{Tree, ANumber, ASpecial, AName, ASet, AParen, AUnary, ABinary, SetMember, OneMember, SpanMember, Members, NoMember, MoreMembers}
use Rattle.name_uses.specs.NamesUsed.{UsedName}

abbrev mutual
  pub targets_in : Tree → List UsedName
  targets_in (ANumber n) = []
  targets_in (ASpecial letter place) = []
  targets_in (AName word None) = record { first = word; last = None; extension = None } ∷ []
  targets_in (AName word (Some e)) = []
  targets_in (ASet place ms None) = targets_in_members ms
  targets_in (ASet place ms (Some e)) = []
  targets_in (AParen place t) = targets_in t
  targets_in (AUnary sign place t) = []
  targets_in (ABinary sign place t u) = []

  pub targets_in_members : Members → List UsedName
  targets_in_members NoMember = []
  targets_in_members (MoreMembers m ms) = targets_in_member m ++ targets_in_members ms

  pub targets_in_member : SetMember → List UsedName
  targets_in_member (OneMember t) = targets_in t
  targets_in_member (SpanMember first last) = record { first = first; last = Some last; extension = None } ∷ []
