-- Sources of one line written as trees, each token at its column.
use Rattle.equations.proofs.Common.{Place, Table, Extension, Kind, APin, ANode, AConstant, Entry, Tree, ANumber, ASpecial, AName, ASet, SetMember, OneMember, members_of, Statement, AnAssign, AWhen, NoElse, AnElse, Context, context_of}
use Prim.Native.String.{String}
use Rattle.std.proofs.Common.{ℕ, Bool, true, false, None, Some, List, [], ◌∷◌, codes}
use Rattle.pld_device.specs.SampleTable.{sample}
use Rattle.pld_device.specs.declared.cell.Cell.{Cell}
use Rattle.pld_device.specs.declared.enable.Enable.TheVariants.{Row}
use Rattle.pld_device.specs.declared.kinds.Kinds.TheVariants.{Combinational}
use Rattle.abel_tree.specs.declared.words.Extension.TheVariants as extension
use Rattle.abel_tree.specs.declared.words.Sign.TheVariants as sign
use Rattle.abel_tree.specs.declared.words.Word.{Word}

-- a column of the one line
abbrev pub at : ℕ → Place
at c = record { line = 1; column = c }

abbrev pub word : ℕ → String → Word
word c text = record { text = codes text; place = at c }

-- ---- expressions

abbrev pub number : ℕ → ℕ → Tree
number c n = ANumber (record { value = n; place = at c })

abbrev pub unknown : ℕ → Tree
unknown c = ASpecial 88 (at c)

abbrev pub name : ℕ → String → Tree
name c text = AName (word c text) None

abbrev pub dotted : ℕ → String → Extension → Tree
dotted c text e = AName (word c text) (Some e)

abbrev pub set : ℕ → List Tree → Tree
set c ts = ASet (at c) (members_of (ones ts)) None
  where
    ones : List Tree → List SetMember
    ones [] = []
    ones (t ∷ ts) = OneMember t ∷ ones ts

-- ---- statements

abbrev pub assign : ℕ → Tree → ℕ → Tree → Statement
assign c t q u = AnAssign (at c) false t sign.Equal (at q) u

abbrev pub not_assign : ℕ → Tree → ℕ → Tree → Statement
not_assign c t q u = AnAssign (at c) true t sign.Equal (at q) u

abbrev pub clocked : ℕ → Tree → ℕ → Tree → Statement
clocked c t q u = AnAssign (at c) false t sign.Clocked (at q) u

abbrev pub when_then : ℕ → Tree → Statement → Statement
when_then c t s = AWhen (at c) t s NoElse

abbrev pub when_else : ℕ → Tree → Statement → Statement → Statement
when_else c t s u = AWhen (at c) t s (AnElse u)

-- ---- names: a, b on pins that are no cell, Y, Z, W on those of cells, q a register on one, n a node, and constants

abbrev entry : String → Kind → (registered assigned : Bool) → Entry
entry text k r y =
    record {
      name = codes text;
      place = at 1;
      kind = k;
      words = record { combinational = false; registered = r; buffer = false; invert = true; dc = false };
      assigned = y;
    }

abbrev cell : ℕ → Cell
cell p = record { pin = p; enable = Row 0; first = 0; room = 7; kinds = Combinational }

-- the sample device with four cells
abbrev device : Table
device = record sample { cells = cell 19 ∷ cell 18 ∷ cell 17 ∷ cell 16 ∷ [] }

-- W has no data of its own; c = [Y, Z], k = 5, e = Y.OE, x = [Y, .X.]
abbrev entries : List Entry
entries =
    entry "a" (APin 2 false) false false
    ∷ entry "b" (APin 3 false) false false
    ∷ entry "Y" (APin 19 false) false true
    ∷ entry "Z" (APin 18 false) false true
    ∷ entry "W" (APin 17 false) false false
    ∷ entry "q" (APin 16 false) true true
    ∷ entry "n" (ANode 0) false true
    ∷ entry "c" (AConstant (set 1 (name 2 "Y" ∷ name 4 "Z" ∷ []))) false false
    ∷ entry "k" (AConstant (number 1 5)) false false
    ∷ entry "e" (AConstant (dotted 1 "Y" extension.Oe)) false false
    ∷ entry "x" (AConstant (set 1 (name 2 "Y" ∷ unknown 4 ∷ []))) false false
    ∷ []

abbrev pub design : Context
design = context_of device entries
