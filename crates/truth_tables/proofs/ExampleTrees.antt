-- Trees and names of the examples. A tree is at a column of line 2, the header's; specials are at column 9.
use Rattle.truth_tables.proofs.Common.{Place, Kind, AConstant, Entry, Tree, ANumber, ASpecial, AName, ASet, SetMember, OneMember, members_of}
use Prim.Native.String.{String}
use Rattle.std.proofs.Common.{ℕ, Bool, true, false, None, List, [], ◌∷◌, codes}

abbrev pub at : ℕ → Place
at c = record { line = 2; column = c }

abbrev pub number : ℕ → Tree
number n = ANumber (record { value = n; place = at 1 })

abbrev pub name : ℕ → String → Tree
name c text = AName (record { text = codes text; place = at c }) None

abbrev pub ones : List Tree → List SetMember
ones [] = []
ones (t ∷ ts) = OneMember t ∷ ones ts

abbrev pub set : ℕ → List Tree → Tree
set c ts = ASet (at c) (members_of (ones ts)) None

abbrev pub unknown : Tree
unknown = ASpecial 88 (at 9)

abbrev pub pulse : Tree
pulse = ASpecial 67 (at 9)

abbrev pub release : Tree
release = ASpecial 90 (at 9)

abbrev pub declared : String → Kind → (assigned : Bool) → Entry
declared text kind assigned =
    record {
      name = codes text;
      place = at 1;
      kind = kind;
      words = record { combinational = true; registered = false; buffer = false; invert = true; dc = false };
      assigned = assigned;
    }

abbrev pub constant : String → Tree → Entry
constant text t = declared text (AConstant t) false
