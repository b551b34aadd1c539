-- What is refused of truth tables, by computation. a and b are pins, Y and Z outputs, c is the
-- constant [Y,Z], x is .X., k is .C.; the header is on line 2, its outputs in its columns.
use Rattle.std.proofs.Common.{◌≡◌, ℕ, true, false, None, Some, List, [], ◌∷◌, codes, refl}
use Rattle.truth_tables.proofs.Common.{Place, sample, APin, Entry, Tree, AName, RowTree, Context, context_of, SectionFault, MisplacedSpecial, NotAnOutput, MixedAssignment, BadRow, Manner, units_refused, units_of_table}
use Rattle.abel_tree.specs.declared.words.Extension.TheVariants as extension
use Rattle.truth_tables.proofs.ExampleTrees.{at, constant, declared, name, number, pulse, set, unknown}

-- a line's first column
abbrev row_at : ℕ → Place
row_at l = record { line = l; column = 1 }

abbrev names : List Entry
names =
    declared "a" (APin 1 false) false ∷ declared "b" (APin 2 false) false
    ∷ declared "Y" (APin 8 false) true ∷ declared "Z" (APin 9 false) true
    ∷ constant "c" (set 1 (name 1 "Y" ∷ name 1 "Z" ∷ [])) ∷ constant "x" unknown ∷ constant "k" pulse ∷ []

abbrev design : Context
design = context_of sample names

abbrev row : ℕ → (inputs outputs : Tree) → RowTree
row l inputs outputs = record { place = row_at l; inputs = inputs; clocked = false; outputs = outputs }

abbrev refused_behind : List Manner → (inputs outputs : Tree) → List RowTree → List SectionFault
refused_behind before inputs outputs rows = units_refused (units_of_table design before (at 1) inputs false outputs rows)

abbrev refused : (inputs outputs : Tree) → List RowTree → List SectionFault
refused inputs outputs rows = refused_behind [] inputs outputs rows

abbrev inputs : Tree
inputs = set 2 (name 3 "a" ∷ name 5 "b" ∷ [])

-- ([a,b] -> Y) [0,x] -> 1; 3 -> .X.;
accepted : refused inputs (name 11 "Y") (row 3 (set 1 (number 0 ∷ name 1 "x" ∷ [])) (number 1) ∷ row 4 (number 3) unknown ∷ []) ≡ []
accepted = refl

-- ([a,b] -> c) 0 -> 2; by a constant that names signals
by_constant : refused inputs (name 11 "c") (row 3 (number 0) (number 2) ∷ []) ≡ []
by_constant = refl

-- ([a,.X.] -> [Y,.X.]) [0,1] -> [1,0]; positions that are X are dropped
dropped : refused (set 2 (name 3 "a" ∷ unknown ∷ [])) (set 11 (name 12 "Y" ∷ unknown ∷ []))
    (row 3 (set 1 (number 0 ∷ number 1 ∷ [])) (set 1 (number 1 ∷ number 0 ∷ [])) ∷ []) ≡ []
dropped = refl

-- a and b are pins without cells
no_cell : refused (name 3 "Y") (name 11 "a") (row 3 (number 0) (number 0) ∷ []) ≡ NotAnOutput (at 11) (Some 0) ∷ []
no_cell = refl

-- Y.D is no output of a table, nor is 1, nor .C.
extended : refused inputs (AName (record { text = codes "Y"; place = at 11 }) (Some extension.D)) [] ≡ NotAnOutput (at 11) (Some 2) ∷ []
extended = refl

number_out : refused inputs (set 11 (name 12 "Y" ∷ number 1 ∷ [])) [] ≡ NotAnOutput (at 1) None ∷ []
number_out = refl

pulse_out : refused inputs (set 11 (name 12 "Y" ∷ pulse ∷ [])) [] ≡ MisplacedSpecial (at 9) ∷ []
pulse_out = refl

-- `Y := ..` preceded
two_ways : refused_behind (record { signal = 2; extension = None; complement = false; clocked = true } ∷ []) inputs (name 11 "Y") []
    ≡ MixedAssignment (at 11) 2 ∷ []
two_ways = refl

-- `!Y = ..` did
two_polarities : refused_behind (record { signal = 2; extension = None; complement = true; clocked = false } ∷ []) inputs (name 11 "Y") [] ≡ []
two_polarities = refl

-- [0,k] -> 1; 0 -> .C.; no row of a table has .C.
pulse_rows : refused inputs (name 11 "Y") (row 3 (set 1 (number 0 ∷ name 1 "k" ∷ [])) (number 1) ∷ row 4 (number 0) pulse ∷ [])
    ≡ BadRow (row_at 3) ∷ BadRow (row_at 4) ∷ []
pulse_rows = refl

-- 0 :> 1; under ->, [0] -> 1;, 0 -> a;
bad_rows : refused inputs (name 11 "Y")
    (record { place = row_at 3; inputs = number 0; clocked = true; outputs = number 1 }
    ∷ row 4 (set 1 (number 0 ∷ [])) (number 1) ∷ row 5 (number 0) (name 1 "a") ∷ [])
    ≡ BadRow (row_at 3) ∷ BadRow (row_at 4) ∷ BadRow (row_at 5) ∷ []
bad_rows = refl
