-- A small design and its netlist, worked by hand (this project's example).
use Rattle.std.specs.Prelude.{◌≡◌, ℕ, Bool, true, false, List, [], ◌∷◌, Option, None, Some, codes}
use Rattle.netlist_laws.specs.Prelude.{Place, sample, Const, Read, And, Extension, Sign, Kind, APin, ANode, Entry, Statement, AnAssign, Equations, context_of, Design, PlainNetlist}
use Rattle.bit_expr.specs.declared.node.Leaf.TheVariants as leaf
use Rattle.abel_tree.specs.declared.words.Binary.TheVariants as binary
use Rattle.abel_tree.specs.declared.words.Extension.TheVariants as extension
use Rattle.abel_tree.specs.declared.words.Sign.TheVariants as sign
use Rattle.netlist_laws.specs.Gathered.{gathered}
use Rattle.abel_tree.specs.Tree as tree

-- no place in particular
abbrev pub anywhere : Place
anywhere = record { line = 1; column = 1 }

-- a signal, whose pin follows Q if it is a register
abbrev pub signal : List ℕ → Kind → (registered assigned : Bool) → Entry
signal name kind registered assigned =
    record {
      name = name;
      place = anywhere;
      kind = kind;
      words = record { combinational = false; registered = registered; buffer = true; invert = false; dc = false };
      assigned = assigned;
    }

-- an expression of one name
abbrev pub just : List ℕ → Option Extension → tree.Tree
just name e = tree.AName (record { text = name; place = anywhere }) e

-- an assignment
abbrev pub assign : (complement : Bool) → tree.Tree → Sign → tree.Tree → Statement
assign complement target sign value = AnAssign anywhere complement target sign anywhere value

-- a, the node n, !R on the cell that pin 4 enables, and Q on the other
abbrev pub example_names : List Entry
example_names =
    signal (codes "a") (APin 2 false) false false
    ∷ signal (codes "n") (ANode 0) false true
    ∷ signal (codes "R") (APin 8 true) true true
    ∷ signal (codes "Q") (APin 9 false) false true
    ∷ []

-- !n = a; R.D := Q & n; Q = R.Q; Q.OE = a;
abbrev pub example_design : Design
example_design =
    record {
      context = context_of sample example_names;
      starts_dontcare = false;
      sections = Equations (
          assign true (just (codes "n") None) sign.Equal (just (codes "a") None)
          ∷ assign false (just (codes "R") (Some extension.D)) sign.Clocked (tree.ABinary binary.And anywhere (just (codes "Q") None) (just (codes "n") None))
          ∷ assign false (just (codes "Q") None) sign.Equal (just (codes "R") (Some extension.Q))
          ∷ assign false (just (codes "Q") (Some extension.Oe)) sign.Equal (just (codes "a") None)
          ∷ []) ∷ [];
    }

-- R, which is first, and Q; the node is said by its complement
abbrev pub example_netlist : PlainNetlist
example_netlist =
    record {
      nodes = record { one = Read (leaf.Pin 2); any = Const false; complement = true } ∷ [];
      cells =
          record {
            cell = 1;
            name = 2;
            registered = true;
            buffer = true;
            negated = true;
            raw = true;
            free = false;
            function = record { one = And (Read (leaf.Pin 9)) (Read (leaf.Node 0)); any = Const false; complement = false };
            enable = None;
            reset = None;
            preset = None;
          }
          ∷ record {
            cell = 0;
            name = 3;
            registered = false;
            buffer = true;
            negated = false;
            raw = false;
            free = false;
            function = record { one = Read (leaf.Q 1); any = Const false; complement = false };
            enable = Some (Read (leaf.Pin 2));
            reset = None;
            preset = None;
          }
          ∷ [];
    }

-- the one is the netlist of the other
abbrev pub ExampleIsGathered : Type 0
ExampleIsGathered = gathered example_design ≡ example_netlist
