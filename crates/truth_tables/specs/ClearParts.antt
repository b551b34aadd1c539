-- Private: expressions and parts of which nothing is refused that a walk over an entry and its header asks the shape of (this
-- project's rule). Shapes are asked of operators; of sets in headers alone, since an entry's are taken member by member.
use Rattle.std.specs.Prelude.{◌≡◌, ℕ, Bool, true, false, List, [], ◌∷◌, map}
use Rattle.truth_tables.specs.Prelude.{members_of, range_names, view, view_member, Tree, ANumber, ASpecial, AName, ASet, AParen, AUnary, ABinary, SetMember, OneMember, SpanMember, Members, NoMember, MoreMembers, NameFound, found_of, name_found}
use Rattle.truth_tables.specs.declared.part.Pair.{Pair}
use Rattle.truth_tables.specs.declared.part.Part.{Part}
use Rattle.truth_tables.specs.declared.part.Part.TheVariants as part
use Rattle.truth_tables.specs.declared.part.Stand.{Stand}
use Rattle.truth_tables.specs.declared.part.Stand.TheVariants as stand

-- nothing is refused of an expression
abbrev pub IsUnrefused : List NameFound → Tree → Type 0
IsUnrefused ns t = (found_of ns t).refusals ≡ []

-- nor of a name's declaration
abbrev pub IsClearName : List NameFound → List ℕ → Type 0
IsClearName ns name = (name_found ns name).found.refusals ≡ []

abbrev pub AreClearNames : List NameFound → List (List ℕ) → Type 0
AreClearNames ns [] = Unit {0}
AreClearNames ns (name ∷ names) = IsClearName ns name × AreClearNames ns names

-- nor of the operators in it, of the constants that it names, and, of a header, of its sets
abbrev mutual
  pub IsClear : (header : Bool) → List NameFound → Tree → Type 0
  IsClear b ns (ANumber n) = Unit {0}
  IsClear b ns (ASpecial letter p) = Unit {0}
  IsClear b ns (AName word e) = IsClearName ns word.text
  IsClear b ns (ASet p ms e) = (b ≡ true → IsUnrefused ns (ASet p ms e)) × AreClear b ns ms
  IsClear b ns (AParen p t) = IsClear b ns t
  IsClear b ns (AUnary sign p t) = IsUnrefused ns (AUnary sign p t)
  IsClear b ns (ABinary sign p t u) = IsUnrefused ns (ABinary sign p t u)

  pub AreClear : (header : Bool) → List NameFound → Members → Type 0
  AreClear b ns NoMember = Unit {0}
  AreClear b ns (MoreMembers m ms) = IsClearMember b ns m × AreClear b ns ms

  pub IsClearMember : (header : Bool) → List NameFound → SetMember → Type 0
  IsClearMember b ns (OneMember t) = IsClear b ns t
  IsClearMember b ns (SpanMember first last) = AreClearNames ns (range_names first.text last.text)

-- ---- parts

abbrev pub IsClearPart : (header : Bool) → List NameFound → Part → Type 0
IsClearPart b ns (part.Set x ms e) = (b ≡ true → IsUnrefused ns (view x.now)) × AreClear b ns (members_of (map view_member ms.now))
IsClearPart b ns (part.Signal s e) = Unit {0}
IsClearPart b ns (part.Number n) = Unit {0}
IsClearPart b ns (part.Special letter) = Unit {0}
IsClearPart b ns (part.Operator x) = IsUnrefused ns (view x.now)

abbrev pub AreClearParts : (header : Bool) → List NameFound → List Part → Type 0
AreClearParts b ns [] = Unit {0}
AreClearParts b ns (p ∷ ps) = IsClearPart b ns p × AreClearParts b ns ps

abbrev pub IsClearStand : (header : Bool) → List NameFound → Stand → Type 0
IsClearStand b ns (stand.Constant x) = IsClear b ns (view x.now)
IsClearStand b ns (stand.Part p) = IsClearPart b ns p

-- a part of a header with what represents it
pub record IsClearPair (ns : List NameFound) (p : Pair) : Type 0 where
  pub header : IsClearPart true ns p.header
  pub given : IsClearPart false ns p.given
