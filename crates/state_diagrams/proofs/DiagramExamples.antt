-- What is refused of state diagrams, by computation. a is a pin, Q and R are registers on cells, Y a combinational
-- output, s is the constant 2; each column has one token that counts.
use Rattle.state_diagrams.proofs.Common.{APin, Entry, Tree, ABinary, AnAssign, Branch, AGoal, AnIf, ACase, NoBranch, ABranch, NoChoice, MoreChoices, StateTree, Context, context_of, SectionFault, units_refused, units_of_diagram}
use Rattle.set_expr.specs.declared.fault.SectionFault.TheVariants.{MisplacedSpecial, BadWidth, NotAnOutput, MixedAssignment, BadState}
use Prim.Native.String.{String}
use Rattle.std.proofs.Common.{◌≡◌, ℕ, true, false, None, Some, List, [], ◌∷◌, refl}
use Rattle.pld_device.specs.SampleTable.{sample}
use Rattle.abel_tree.specs.declared.words.Binary.TheVariants as binary
use Rattle.abel_tree.specs.declared.words.Sign.TheVariants as sign
use Rattle.truth_tables.proofs.ExampleTrees.{at, constant, declared, name, number, set, unknown}

abbrev both : ℕ → Tree → Tree → Tree
both l t u = ABinary binary.And (at l) t u

abbrev register : String → (pin : ℕ) → Entry
register text pin =
    let entry = declared text (APin pin false) true in
    record entry { words = record { combinational = false; registered = true; buffer = false; invert = true; dc = false } }

abbrev names : List Entry
names =
    declared "a" (APin 1 false) false ∷ register "Q" 8 ∷ register "R" 9 ∷ declared "Y" (APin 9 false) true ∷ constant "s" (number 2) ∷ []

abbrev design : Context
design = context_of sample names

-- a state at this column
abbrev state : ℕ → Tree → List Branch → StateTree
state l value transitions = record { place = at l; value = value; statements = []; transitions = transitions }

abbrev goal : ℕ → Tree → Branch
goal l value = AGoal (at l) value None

abbrev refused : (registers : Tree) → List StateTree → List SectionFault
refused registers states = units_refused (units_of_diagram design [] (at 1) registers states)

abbrev registers : Tree
registers = set 1 (name 1 "Q" ∷ name 1 "R" ∷ [])

-- state 0: goto 1; state 1: if a then s else 0; state s: goto [1,0];
accepted : refused registers
    (state 2 (number 0) (goal 2 (number 1) ∷ [])
    ∷ state 3 (number 1) (AnIf (at 3) (name 3 "a") (goal 3 (name 3 "s")) (ABranch (goal 3 (number 0))) ∷ [])
    ∷ state 4 (name 4 "s") (goal 4 (set 4 (number 1 ∷ number 0 ∷ [])) ∷ []) ∷ [])
    ≡ []
accepted = refl

-- a has no cell, and Y is no register
no_cell : refused (name 1 "a") (state 2 (number 0) [] ∷ []) ≡ NotAnOutput (at 1) (Some 0) ∷ MixedAssignment (at 1) 0 ∷ []
no_cell = refl

no_register : refused (name 1 "Y") (state 2 (number 0) [] ∷ []) ≡ MixedAssignment (at 1) 3 ∷ []
no_register = refl

-- state 4 of two registers, state a, state a & 0, state .X.
too_large : refused registers (state 2 (number 4) [] ∷ []) ≡ BadState (at 2) ∷ []
too_large = refl

signal : refused registers (state 2 (name 2 "a") [] ∷ state 3 (both 3 (name 3 "a") (number 0)) [] ∷ []) ≡ BadState (at 2) ∷ BadState (at 3) ∷ []
signal = refl

unknown_state : refused registers (state 2 unknown [] ∷ []) ≡ BadState (at 2) ∷ []
unknown_state = refl

-- [0,1,1] is wider than two registers, and is 3; .X. in an operator is refused there
wide : refused registers (state 2 (set 2 (number 0 ∷ number 1 ∷ number 1 ∷ [])) [] ∷ []) ≡ []
wide = refl

inside : refused registers (state 2 (both 3 unknown (number 1)) [] ∷ []) ≡ MisplacedSpecial (at 9) ∷ []
inside = refl

-- state 2 and state s
twice : refused registers (state 2 (number 2) [] ∷ state 3 (name 3 "s") [] ∷ []) ≡ BadState (at 3) ∷ []
twice = refl

-- state a & 0 is refused, and so lists no number: state 0 is the first one
refused_unlisted : refused registers (state 2 (both 2 (name 2 "a") (number 0)) [] ∷ state 3 (number 0) [] ∷ []) ≡ BadState (at 2) ∷ []
refused_unlisted = refl

-- goto [0,0,1]; a set of three for two registers
goal_width : refused registers (state 2 (number 0) (goal 3 (set 3 (number 0 ∷ number 0 ∷ number 1 ∷ [])) ∷ []) ∷ []) ≡ BadWidth (at 3) ∷ []
goal_width = refl

-- if [a,a] then .. at IF, case [a,a] : .. at its colon
condition : refused registers
    (state 2 (number 0) (AnIf (at 3) (set 3 (name 3 "a" ∷ name 3 "a" ∷ [])) (goal 3 (number 0)) NoBranch ∷ [])
    ∷ state 4 (number 1)
    (ACase (at 4) (MoreChoices (set 4 (name 4 "a" ∷ name 4 "a" ∷ [])) (at 5) (goal 6 (number 0)) NoChoice) ∷ [])
    ∷ [])
    ≡ BadWidth (at 3) ∷ BadWidth (at 5) ∷ []
condition = refl

-- in a state, Q = a; for a register of the diagram
by_statement : refused registers
    (record { place = at 2; value = number 0; statements = AnAssign (at 3) false (name 3 "Q") sign.Equal (at 3) (name 3 "a") ∷ []; transitions = [] } ∷ [])
    ≡ MixedAssignment (at 3) 1 ∷ []
by_statement = refl
