-- Modules written as trees with the places of their names, and what is answered of them.
use Rattle.decls.proofs.Common.{DeviceName, Place, Flip, Table, Word, Item, Span, Extension, Kind, APin, ANode, AConstant, ADeviceName, Entry, is_signal, Tree, ANumber, ASpecial, AName, ASet, AParen, AUnary, ABinary, SetMember, OneMember, SpanMember, members_of, Statement, AnAssign, AWhen, AGroup, ADontCare, NoElse, AnElse, statements_of, Branch, AGoal, AnIf, ACase, NoBranch, ABranch, choices_of, RowTree, StateTree, Declaration, SectionTree, ModuleTree, names_of, NameFault, first_name_refusal}
use Prim.Native.String.{String}
use Rattle.std.proofs.Common.{ℕ, ◌+◌, ◌*◌, Bool, true, false, not, ◌&&◌, Option, None, Some, List, [], map, codes}
use Rattle.pld_base.specs.declared.device_name.DeviceName.TheVariants.{P16L8, P16R4, P16R6, P16R8, GAL22V10}
use Rattle.pld_device.specs.declared.flip.Flip.TheVariants.{Always, AfterRegister}
use Rattle.abel_tree.specs.declared.words.DontCare.{DontCare}
use Rattle.abel_tree.specs.declared.words.Sign.TheVariants as sign
use Rattle.abel_tree.specs.declared.words.Unary.TheVariants as unary
use Rattle.abel_tree.specs.declared.words.Binary.{Binary}

-- ---- devices, of which only what names ask is reported

abbrev pub device : DeviceName → (pins ground_pin clock : ℕ) → Flip → Table
device name pins ground_pin clock flip =
    record {
      name = name;
      pins = pins;
      ground_pin = ground_pin;
      fuses = 0;
      short = 0;
      columns = 0;
      rows = 0;
      clock = clock;
      reset = None;
      preset = None;
      flip = flip;
      power_down = 0;
      cells = [];
      pairs = [];
      inverted = [];
      registered = [];
      row_switches = [];
      fixed = [];
    }

abbrev pub pal16l8 : Table
pal16l8 = device P16L8 20 10 0 Always

abbrev pub pal16r4 : Table
pal16r4 = device P16R4 20 10 1 Always

abbrev pub pal16r6 : Table
pal16r6 = device P16R6 20 10 1 Always

abbrev pub pal16r8 : Table
pal16r8 = device P16R8 20 10 1 Always

abbrev pub gal22v10 : Table
gal22v10 = device GAL22V10 24 12 1 AfterRegister

-- ---- words and expressions

abbrev pub at : ℕ → ℕ → Place
at l c = record { line = l; column = c }

abbrev pub no_place : Place
no_place = at 0 0

abbrev pub word : ℕ → ℕ → String → Word
word l c text = record { text = codes text; place = at l c }

abbrev pub directive : DontCare
directive = record { on = true; place = no_place }

abbrev pub number : ℕ → Tree
number n = ANumber (record { value = n; place = no_place })

abbrev pub special : ℕ → Tree
special letter = ASpecial letter no_place

abbrev pub name : ℕ → ℕ → String → Tree
name l c text = AName (word l c text) None

abbrev pub dotted : ℕ → ℕ → String → Extension → Tree
dotted l c text e = AName (word l c text) (Some e)

abbrev pub one : Tree → SetMember
one t = OneMember t

abbrev pub span : (first last : Word) → SetMember
span first last = SpanMember first last

abbrev pub set : List SetMember → Tree
set ms = ASet no_place (members_of ms) None

abbrev pub dotted_set : List SetMember → Extension → Tree
dotted_set ms e = ASet no_place (members_of ms) (Some e)

abbrev pub paren : Tree → Tree
paren t = AParen no_place t

abbrev pub complement : Tree → Tree
complement t = AUnary unary.Not no_place t

abbrev pub negative : Tree → Tree
negative t = AUnary unary.Minus no_place t

abbrev pub operator : Binary → Tree → Tree → Tree
operator s t u = ABinary s no_place t u

-- ---- statements, transitions, rows

abbrev pub assign : Tree → Tree → Statement
assign t u = AnAssign no_place false t sign.Equal no_place u

abbrev pub not_assign : Tree → Tree → Statement
not_assign t u = AnAssign no_place true t sign.Equal no_place u

abbrev pub clocked : Tree → Tree → Statement
clocked t u = AnAssign no_place false t sign.Clocked no_place u

abbrev pub not_clocked : Tree → Tree → Statement
not_clocked t u = AnAssign no_place true t sign.Clocked no_place u

abbrev pub assign_any : Tree → Tree → Statement
assign_any t u = AnAssign no_place false t sign.Any no_place u

abbrev pub clocked_any : Tree → Tree → Statement
clocked_any t u = AnAssign no_place false t sign.ClockedAny no_place u

abbrev pub when_then : Tree → Statement → Statement
when_then c s = AWhen no_place c s NoElse

abbrev pub when_else : Tree → Statement → Statement → Statement
when_else c s t = AWhen no_place c s (AnElse t)

abbrev pub group : List Statement → Statement
group ss = AGroup (statements_of ss)

abbrev pub dc_set : Statement
dc_set = ADontCare directive

abbrev pub goto : Tree → Branch
goto t = AGoal no_place t None

abbrev pub goto_with : Tree → List Statement → Branch
goto_with t ss = AGoal no_place t (Some ss)

abbrev pub if_then : Tree → Branch → Branch
if_then c b = AnIf no_place c b NoBranch

abbrev pub if_else : Tree → Branch → Branch → Branch
if_else c b other = AnIf no_place c b (ABranch other)

abbrev pub choice : Tree → Branch → Tree × (Place × Branch)
choice c b = (c, (no_place, b))

abbrev pub case_of : List (Tree × (Place × Branch)) → Branch
case_of cs = ACase no_place (choices_of cs)

abbrev pub row : Tree → Tree → RowTree
row inputs outputs = record { place = no_place; inputs = inputs; clocked = false; outputs = outputs }

abbrev pub state : Tree → List Statement → List Branch → StateTree
state value ss bs = record { place = no_place; value = value; statements = ss; transitions = bs }

-- ---- declarations

abbrev pub item : ℕ → ℕ → String → Item
item l c first = record { negated = false; first = word l c first; last = None }

abbrev pub low_item : ℕ → ℕ → String → Item
low_item l c first = record { negated = true; first = word l c first; last = None }

abbrev pub items : ℕ → ℕ → String → ℕ → ℕ → String → Item
items l c first k d last = record { negated = false; first = word l c first; last = Some (word k d last) }

abbrev pub low_items : ℕ → ℕ → String → ℕ → ℕ → String → Item
low_items l c first k d last = record { negated = true; first = word l c first; last = Some (word k d last) }

abbrev pub pin : ℕ → Span
pin n = record { first = record { value = n; place = no_place }; last = None }

abbrev pub pins_to : ℕ → ℕ → Span
pins_to n m =
    record { first = record { value = n; place = no_place }; last = Some (record { value = m; place = no_place }) }

abbrev pub module_of : List Declaration → List SectionTree → ModuleTree
module_of ds ss =
    record { place = no_place; name = word 1 8 "m"; title = None; options = []; decls = ds; sections = ss }

-- ---- what is answered

abbrev pub bit : Bool → ℕ
bit true = 1
bit false = 0

abbrev pub kind_code : Kind → ℕ
kind_code (APin pin negated) = 2 * pin + bit negated
kind_code (ANode n) = 1000 + n
kind_code (AConstant value) = 2000
kind_code ADeviceName = 3000

-- what the name is declared as, and whether it is a register, follows Q, is don't-care and is assigned
abbrev pub name_code : Entry → ℕ
name_code x =
    16 * kind_code x.kind
    + (bit (is_signal x.kind && x.words.registered)
    + (2 * bit (is_signal x.kind && (x.words.registered && not x.words.invert))
    + (4 * bit x.words.dc + 8 * bit x.assigned)))

abbrev pub unless_refused : Option NameFault → List ℕ → List ℕ
unless_refused None ns = ns
unless_refused (Some f) ns = []

-- of all names, if nothing is refused
abbrev pub name_codes : Table → ModuleTree → List ℕ
name_codes t m = unless_refused (first_name_refusal t m) (map name_code (names_of t m))
