-- The names that an expression uses.
use Rattle.std.specs.Prelude.{List, [], ◌∷◌, ◌++◌}
use Rattle.abel_tree.specs.declared.words.Word.{Word}
use Rattle.abel_tree.specs.Tree.{Tree, ANumber, ASpecial, AName, ASet, AParen, AUnary, ABinary, SetMember, OneMember, SpanMember, Members, NoMember, MoreMembers}

pub data Use : Type 0 where
  OneName : Word → Use
  Range : (first last : Word) → Use

abbrev mutual
  pub uses : Tree → List Use
  uses (ANumber n) = []
  uses (ASpecial letter p) = []
  uses (AName word e) = OneName word ∷ []
  uses (ASet p ms e) = member_uses ms
  uses (AParen p t) = uses t
  uses (AUnary sign p t) = uses t
  uses (ABinary sign p t u) = uses t ++ uses u

  pub member_uses : Members → List Use
  member_uses NoMember = []
  member_uses (MoreMembers m ms) = one_member_uses m ++ member_uses ms

  pub one_member_uses : SetMember → List Use
  one_member_uses (OneMember t) = uses t
  one_member_uses (SpanMember first last) = Range first last ∷ []
