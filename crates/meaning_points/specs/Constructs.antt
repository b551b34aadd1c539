-- Statements, transitions, declarations and sections written as trees, without places.
use Rattle.meaning_points.specs.Prelude.{String, Place, Word, Tree, Statement, AnAssign, AWhen, AGroup, ADontCare, NoElse, AnElse, statements_of, Branch, AGoal, AnIf, ACase, NoBranch, ABranch, choices_of, Declaration, ADevice, SomePins, SomeNodes, SomeAttributes, SomeConstants, SomeOptions, DontCareFor, RowTree, StateTree, SectionTree, ATable, ADiagram, SomeVectors, DontCareSection, ModuleTree}
use Rattle.std.specs.Prelude.{ℕ, Bool, true, false, None, Some, List, []}
use Rattle.abel_tree.specs.declared.words.Item.{Item}
use Rattle.abel_tree.specs.declared.words.Sign.TheVariants as sign
use Rattle.abel_tree.specs.declared.words.Span.{Span}
use Rattle.meaning_points.specs.Trees.{somewhere, word, coded, directive, number}

-- ---- statements

-- t = u
abbrev pub assign : Tree → Tree → Statement
assign t u = AnAssign somewhere false t sign.Equal somewhere u

-- !t = u
abbrev pub not_assign : Tree → Tree → Statement
not_assign t u = AnAssign somewhere true t sign.Equal somewhere u

-- t := u
abbrev pub clocked : Tree → Tree → Statement
clocked t u = AnAssign somewhere false t sign.Clocked somewhere u

-- !t := u
abbrev pub not_clocked : Tree → Tree → Statement
not_clocked t u = AnAssign somewhere true t sign.Clocked somewhere u

-- t ?= u
abbrev pub assign_any : Tree → Tree → Statement
assign_any t u = AnAssign somewhere false t sign.Any somewhere u

-- !t ?= u
abbrev pub not_assign_any : Tree → Tree → Statement
not_assign_any t u = AnAssign somewhere true t sign.Any somewhere u

-- t ?:= u
abbrev pub clocked_any : Tree → Tree → Statement
clocked_any t u = AnAssign somewhere false t sign.ClockedAny somewhere u

-- WHEN c THEN s
abbrev pub when_then : Tree → Statement → Statement
when_then c s = AWhen somewhere c s NoElse

-- WHEN c THEN s ELSE t
abbrev pub when_else : Tree → Statement → Statement → Statement
when_else c s t = AWhen somewhere c s (AnElse t)

-- { .. }
abbrev pub group : List Statement → Statement
group ss = AGroup (statements_of ss)

-- @DCSET among statements
abbrev pub dc_set : Statement
dc_set = ADontCare (directive true)

-- @ONSET among statements
abbrev pub on_set : Statement
on_set = ADontCare (directive false)

-- ---- transitions

-- GOTO t
abbrev pub goto : Tree → Branch
goto t = AGoal somewhere t None

-- GOTO t WITH .. ENDWITH
abbrev pub goto_with : Tree → List Statement → Branch
goto_with t ss = AGoal somewhere t (Some ss)

-- IF c THEN b
abbrev pub if_then : Tree → Branch → Branch
if_then c b = AnIf somewhere c b NoBranch

-- IF c THEN b ELSE other
abbrev pub if_else : Tree → Branch → Branch → Branch
if_else c b other = AnIf somewhere c b (ABranch other)

-- an arm of a CASE
abbrev pub choice : Tree → Branch → Tree × (Place × Branch)
choice c b = (c, (somewhere, b))

-- CASE .. ENDCASE
abbrev pub case_of : List (Tree × (Place × Branch)) → Branch
case_of cs = ACase somewhere (choices_of cs)

-- ---- declarations

-- a name of a declaration, `!` before it or not
abbrev pub item_as : (negated : Bool) → String → Item
item_as negated first = record { negated = negated; first = word first; last = None }

-- a range of names of a declaration
abbrev pub items_as : (negated : Bool) → (first last : String) → Item
items_as negated first last = record { negated = negated; first = word first; last = Some (word last) }

-- a name
abbrev pub item : String → Item
item first = item_as false first

-- ! and a name
abbrev pub low_item : String → Item
low_item first = item_as true first

-- a range of names
abbrev pub items : (first last : String) → Item
items first last = items_as false first last

-- ! and a range of names
abbrev pub low_items : (first last : String) → Item
low_items first last = items_as true first last

-- a number of a declaration
abbrev pub pin : ℕ → Span
pin n = record { first = record { value = n; place = somewhere }; last = None }

-- a range of numbers
abbrev pub pins_to : ℕ → ℕ → Span
pins_to n m = record { first = record { value = n; place = somewhere }; last = Some (record { value = m; place = somewhere }) }

-- name DEVICE 'text'
abbrev pub device : (name text : String) → Declaration
device name text = ADevice (word name) (word text)

-- names PIN numbers ISTYPE strings
abbrev pub pins : List Item → List Span → List Word → Declaration
pins names numbers strings = SomePins names numbers strings

-- names NODE ISTYPE strings
abbrev pub nodes : List Item → List Word → Declaration
nodes names strings = SomeNodes names [] strings

-- names ISTYPE strings
abbrev pub istype : List Item → List Word → Declaration
istype names strings = SomeAttributes names strings

-- names = expressions
abbrev pub constants : List Word → List Tree → Declaration
constants names values = SomeConstants names values

-- FLAG or OPTIONS
abbrev pub options : Declaration
options = SomeOptions []

-- @DCSET among declarations
abbrev pub dc_set_for : Declaration
dc_set_for = DontCareFor (directive true)

-- @ONSET among declarations
abbrev pub on_set_for : Declaration
on_set_for = DontCareFor (directive false)

-- ---- sections

-- a row
abbrev pub row : Tree → Tree → RowTree
row inputs outputs = record { place = somewhere; inputs = inputs; clocked = false; outputs = outputs }

-- TRUTH_TABLE (inputs -> outputs)
abbrev pub table : Tree → Tree → List RowTree → SectionTree
table inputs outputs rows = ATable somewhere inputs false outputs rows

-- TRUTH_TABLE (inputs :> outputs)
abbrev pub clocked_table : Tree → Tree → List RowTree → SectionTree
clocked_table inputs outputs rows = ATable somewhere inputs true outputs rows

-- STATE value : ..
abbrev pub state : Tree → List Statement → List Branch → StateTree
state value statements transitions =
    record { place = somewhere; value = value; statements = statements; transitions = transitions }

-- STATE_DIAGRAM registers
abbrev pub diagram : Tree → List StateTree → SectionTree
diagram registers states = ADiagram somewhere registers states

-- TEST_VECTORS (inputs -> outputs)
abbrev pub test_vectors : Tree → Tree → List RowTree → SectionTree
test_vectors inputs outputs rows = SomeVectors None somewhere inputs outputs rows

-- TEST_VECTORS whose rows are of no interest
abbrev pub vectors : SectionTree
vectors = test_vectors (number 0) (number 0) []

-- @DCSET between sections
abbrev pub dc_set_from : SectionTree
dc_set_from = DontCareSection (directive true)

-- @ONSET between sections
abbrev pub on_set_from : SectionTree
on_set_from = DontCareSection (directive false)

-- a module
abbrev pub module_of : (name : List ℕ) → List Declaration → List SectionTree → ModuleTree
module_of name decls sections =
    record { place = somewhere; name = coded name; title = None; options = []; decls = decls; sections = sections }
