-- Which entries of a row meet the header of its table or vectors, and what is refused of them (ABEL-HDL Reference Manual,
-- truth tables and test vectors; the places at which specials are allowed are this project's rule). How an entry that
-- meets is read is said by abel_meaning's `Rows`.
use Rattle.std.specs.Prelude.{ℕ, Bool, true, false, ◌&&◌, ◌||◌, List, [], ◌∷◌, ◌++◌, if◌then◌else◌, bytes_eq, codes}
use Rattle.truth_tables.specs.Prelude.{list_any, range_names, Tree, ANumber, ASpecial, AName, ASet, AParen, AUnary, ABinary, SetMember, OneMember, SpanMember, Members, NoMember, MoreMembers, Context, Term, Terms, term_of, constant_of, SectionFault, NameFound, name_found, names_found, found_of}
use Rattle.abel_meaning.specs.Numbers as number
use Rattle.abel_meaning.specs.Terms as term

-- ---- meeting, by terms

-- a number, also one that operators make of numbers
abbrev pub is_number : number.Shape → Bool
is_number number.Number = true
is_number number.Single = false
is_number (number.Set w) = false

-- an entry that meets any part of a header whole: a number or a special
abbrev pub meets_whole : Context → Term → Bool
meets_whole d term.X = true
meets_whole d term.Pulse = true
meets_whole d term.Release = true
meets_whole d (term.Read s e) = false
meets_whole d (term.Set ts) = false
meets_whole d t = is_number (constant_of d t).shape

-- a set meets a set of as many members, member by member
abbrev mutual
  pub meets : Context → (header entry : Term) → Bool
  meets d (term.Set hs) (term.Set es) = all_meet d hs es
  meets d h e = meets_whole d e

  pub all_meet : Context → (headers entries : Terms) → Bool
  all_meet d term.NoTerm term.NoTerm = true
  all_meet d term.NoTerm (term.Before e es) = false
  all_meet d (term.Before h hs) term.NoTerm = false
  all_meet d (term.Before h hs) (term.Before e es) = meets d h e && all_meet d hs es

-- ---- `.C.` and `.Z.`

abbrev pub is_pulse_named : List NameFound → List ℕ → Bool
is_pulse_named ns name = (name_found ns name).is_pulse

-- one of them is in the expression, or a name of one
abbrev mutual
  pub holds_pulse : List NameFound → Tree → Bool
  holds_pulse ns (ANumber n) = false
  holds_pulse ns (ASpecial letter p) = if bytes_eq (letter ∷ []) (codes "X") then false else true
  holds_pulse ns (AName word e) = is_pulse_named ns word.text
  holds_pulse ns (ASet p ms e) = any_holds_pulse ns ms
  holds_pulse ns (AParen p t) = holds_pulse ns t
  holds_pulse ns (AUnary sign p t) = holds_pulse ns t
  holds_pulse ns (ABinary sign p t u) = holds_pulse ns t || holds_pulse ns u

  pub any_holds_pulse : List NameFound → Members → Bool
  any_holds_pulse ns NoMember = false
  any_holds_pulse ns (MoreMembers m ms) = member_holds_pulse ns m || any_holds_pulse ns ms

  pub member_holds_pulse : List NameFound → SetMember → Bool
  member_holds_pulse ns (OneMember t) = holds_pulse ns t
  member_holds_pulse ns (SpanMember first last) = list_any (is_pulse_named ns) (range_names first.text last.text)

-- ---- refusals; r is how the row is refused

-- an operator over `.C.` or `.Z.` is no constant; of any other that is refused which its operands and sign refuse
abbrev pub operator_refused : List NameFound → (r : SectionFault) → Tree → List SectionFault
operator_refused ns r t = if holds_pulse ns t then r ∷ [] else (found_of ns t).refusals

-- what names of a range are refused
abbrev pub names_refused : List NameFound → List (List ℕ) → List SectionFault
names_refused ns [] = []
names_refused ns (name ∷ names) = (name_found ns name).found.refusals ++ names_refused ns names

-- what is refused inside an entry, whose sets are taken member by member
abbrev mutual
  pub refused_inside : List NameFound → (r : SectionFault) → Tree → List SectionFault
  refused_inside ns r (ANumber n) = []
  refused_inside ns r (ASpecial letter p) = []
  refused_inside ns r (AName word e) = (name_found ns word.text).found.refusals
  refused_inside ns r (ASet p ms e) = all_refused_inside ns r ms
  refused_inside ns r (AParen p t) = refused_inside ns r t
  refused_inside ns r (AUnary sign p t) = operator_refused ns r (AUnary sign p t)
  refused_inside ns r (ABinary sign p t u) = operator_refused ns r (ABinary sign p t u)

  pub all_refused_inside : List NameFound → (r : SectionFault) → Members → List SectionFault
  all_refused_inside ns r NoMember = []
  all_refused_inside ns r (MoreMembers m ms) = member_refused_inside ns r m ++ all_refused_inside ns r ms

  pub member_refused_inside : List NameFound → (r : SectionFault) → SetMember → List SectionFault
  member_refused_inside ns r (OneMember t) = refused_inside ns r t
  member_refused_inside ns r (SpanMember first last) = names_refused ns (range_names first.text last.text)

-- these refusals, and if there isn't one one more if a test fails
abbrev pub unless_met : List SectionFault → (r : SectionFault) → (met : Bool) → List SectionFault
unless_met [] r true = []
unless_met [] r false = r ∷ []
unless_met (x ∷ xs) r met = x ∷ xs

-- what is refused of an entry under a header
abbrev pub entry_refused : Context → (r : SectionFault) → (header : Term) → (entry : Tree) → List SectionFault
entry_refused d r h t = unless_met (refused_inside (names_found d.names) r t) r (meets d h (term_of d.known t))
