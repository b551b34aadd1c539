-- A design over the sample table with uses that are refused, worked by hand.
use Rattle.std.specs.Prelude.{ℕ, Bool, true, false, Option, None, Some, List, [], ◌∷◌, codes}
use Rattle.design_checks.specs.Prelude.{Place, Extension, Kind, APin, ANode, AConstant, Entry, Tree, AName, AUnary, ABinary, ASet, NoMember, MoreMembers, OneMember, Statement, AnAssign, Equations, context_of, Design}
use Rattle.pld_device.specs.SampleTable.{sample}
use Rattle.abel_tree.specs.declared.words.Binary.TheVariants as binary
use Rattle.abel_tree.specs.declared.words.Extension.TheVariants as extension
use Rattle.abel_tree.specs.declared.words.Sign.TheVariants as sign
use Rattle.abel_tree.specs.declared.words.Unary.TheVariants as unary
use Rattle.design_checks.specs.LocatedUses.{PlacedUse}

abbrev pub at : (column : ℕ) → Place
at column = record { line = 1; column = column }

-- a name with its kind
abbrev pub entry : List ℕ → Kind → (registered assigned : Bool) → Entry
entry name kind registered assigned =
    record {
      name = name;
      place = at 1;
      kind = kind;
      words = record { combinational = false; registered = registered; buffer = true; invert = false; dc = false };
      assigned = assigned;
    }

-- an expression of one name
abbrev pub just : (column : ℕ) → List ℕ → Option Extension → Tree
just column name e = AName (record { text = name; place = at column }) e

-- e enables, which is on no column; n is a node, R a register that e enables, Y is combinational, and k represents n.Q
abbrev pub example_names : List Entry
example_names =
    entry (codes "e") (APin 4 false) false false
    ∷ entry (codes "n") (ANode 0) false true
    ∷ entry (codes "R") (APin 8 false) true true
    ∷ entry (codes "Y") (APin 9 false) false true
    ∷ entry (codes "k") (AConstant (just 1 (codes "n") (Some extension.Q))) false false
    ∷ []

-- an assignment
abbrev pub assign : Tree → Tree → Statement
assign target value = AnAssign (at 1) false target sign.Equal (at 2) value

-- Y = R.PIN & e; R.OE = !e; Y = k; Y = [R, Y.FB].Q; n = Y.OE;
abbrev pub example_design : Design
example_design =
    record {
      context = context_of sample example_names;
      starts_dontcare = false;
      sections = Equations (
          assign (just 3 (codes "Y") None) (ABinary binary.And (at 11) (just 10 (codes "R") (Some extension.Pin)) (just 12 (codes "e") None))
          ∷ assign (just 4 (codes "R") (Some extension.Oe)) (AUnary unary.Not (at 20) (just 21 (codes "e") None))
          ∷ assign (just 5 (codes "Y") None) (just 30 (codes "k") None)
          ∷ assign (just 6 (codes "Y") None) (ASet (at 40) (MoreMembers (OneMember (just 41 (codes "R") None)) (MoreMembers (OneMember (just 42 (codes "Y") (Some extension.Fb))) NoMember)) (Some extension.Q))
          ∷ assign (just 7 (codes "n") None) (just 50 (codes "Y") (Some extension.Oe))
          ∷ []) ∷ [];
    }

abbrev pub used : ℕ → Option Extension → (column : ℕ) → PlacedUse
used s e column = record { read = record { signal = s; extension = e }; place = at column }

-- a node has no Q, at the constant's name; a combinational signal no register
abbrev pub example_missing : List PlacedUse
example_missing = used 1 (Some extension.Q) 30 ∷ used 3 (Some extension.Fb) 42 ∷ []

-- the pin of a register and the enabling pin are on no column; an enable can't be read
abbrev pub example_unread : List PlacedUse
example_unread = used 2 (Some extension.Pin) 10 ∷ used 0 None 12 ∷ used 3 (Some extension.Oe) 50 ∷ []
