-- The tree of a pin source, wherever its tokens are (ABEL-HDL Reference Manual, source file structure).
use Rattle.std.specs.Prelude.{◌≡◌, ℕ, Bool, true, false, Option, None, Some, List, [], ◌∷◌, ◌++◌, if◌then◌else◌, codes}
use Rattle.decompiled.specs.Prelude.{Place, device_text, Extension, Tree, ANumber, AName, AUnary, ABinary, Statement, AnAssign, Declaration, ADevice, SomePins, Equations, ModuleTree}
use Rattle.abel_tree.specs.declared.words.Word.{Word}
use Rattle.abel_tree.specs.declared.words.Unary.TheVariants as unary
use Rattle.abel_tree.specs.declared.words.Binary.{Binary}
use Rattle.abel_tree.specs.declared.words.Binary.TheVariants as binary
use Rattle.abel_tree.specs.declared.words.Sign.TheVariants as sign
use Rattle.decompiled.specs.declared.literal.PinLiteral.{PinLiteral}
use Rattle.decompiled.specs.declared.pin_line.PinLine.{PinLine}
use Rattle.decompiled.specs.declared.sum_line.SumLine.{SumLine}
use Rattle.decompiled.specs.declared.source.PinSource.{PinSource}
use Rattle.decompiled.specs.SourceText.{q_if, name_text}

-- a word at a place
abbrev pub word : List ℕ → Place → Word
word w p = record { text = w; place = p }

-- a number, somewhere
abbrev pub IsNumber : ℕ → Tree → Type 0
IsNumber n tree = (p : Place) × (tree ≡ ANumber (record { value = n; place = p }))

-- a pin's name, bare or with an extension
abbrev pub IsNamed : ℕ → Option Extension → Tree → Type 0
IsNamed pin e tree = (p : Place) × (tree ≡ AName (word (name_text pin) p) e)

-- it, or its complement
abbrev pub IsSigned : (negated : Bool) → ℕ → Option Extension → Tree → Type 0
IsSigned false pin e tree = IsNamed pin e tree
IsSigned true pin e tree = (p : Place) × (inner : Tree) × IsNamed pin e inner × (tree ≡ AUnary unary.Not p inner)

-- a literal
abbrev pub IsLiteral : PinLiteral → Tree → Type 0
IsLiteral l tree = IsSigned l.negated l.pin (q_if l.of_q) tree

-- what is joined to a first expression, from the left
abbrev pub IsJoined : {A : Type 0} → Binary → (A → Tree → Type 0) → (left : Tree) → List A → Tree → Type 0
IsJoined sign Is left [] tree = tree ≡ left
IsJoined sign Is left (x ∷ xs) tree = (p : Place) × (right : Tree) × Is x right × IsJoined sign Is (ABinary sign p left right) xs tree

-- a product: the number 1, or literals joined by `&`
abbrev pub IsProduct : List PinLiteral → Tree → Type 0
IsProduct [] tree = IsNumber 1 tree
IsProduct (l ∷ ls) tree = (first : Tree) × IsLiteral l first × IsJoined binary.And IsLiteral first ls tree

-- a sum: the number 0, or products joined by `#`
abbrev pub IsSum : List (List PinLiteral) → Tree → Type 0
IsSum [] tree = IsNumber 0 tree
IsSum (p ∷ ps) tree = (first : Tree) × IsProduct p first × IsJoined binary.Or IsProduct first ps tree

-- an equation
pub record IsLine (l : SumLine) (s : Statement) : Type 0 where
  pub place : Place
  pub target : Tree
  pub named : IsNamed l.pin l.extension target
  pub sign_place : Place
  pub value : Tree
  pub sum : IsSum l.products value
  pub is : s ≡ AnAssign place l.negated target sign.Equal sign_place value

-- the equations, in order
abbrev pub AreLines : List SumLine → List Statement → Type 0
AreLines [] ss = ss ≡ []
AreLines (l ∷ ls) ss = (s : Statement) × (more : List Statement) × IsLine l s × AreLines ls more × (ss ≡ s ∷ more)

-- the attributes of a register
abbrev pub attributes_in : Option Bool → Place → List Word
attributes_in None p = []
attributes_in (Some follows) p = word (if follows then codes "'reg,buffer'" else codes "'reg,invert'") p ∷ []

-- the declaration of a pin
pub record IsPinLine (l : PinLine) (d : Declaration) : Type 0 where
  pub name : Place
  pub number : Place
  pub attributes : Place
  pub is : d ≡ SomePins (record { negated = false; first = word (name_text l.pin) name; last = None } ∷ [])
      (record { first = record { value = l.pin; place = number }; last = None } ∷ []) (attributes_in l.follows attributes)

-- the declarations, in order
abbrev pub ArePins : List PinLine → List Declaration → Type 0
ArePins [] ds = ds ≡ []
ArePins (l ∷ ls) ds = (d : Declaration) × (more : List Declaration) × IsPinLine l d × ArePins ls more × (ds ≡ d ∷ more)

-- the module
pub record IsSourceTree (s : PinSource) (m : ModuleTree) : Type 0 where
  pub place : Place
  pub name : Place
  pub device : Place
  pub text : Place
  pub pins : List Declaration
  pub are_pins : ArePins s.pins pins
  pub lines : List Statement
  pub are_lines : AreLines s.lines lines
  pub is : m ≡ record {
    place = place;
    name = word (codes "chip") name;
    title = None;
    options = [];
    decls = ADevice (word (codes "d") device) (word (codes "'" ++ device_text s.device ++ codes "'") text) ∷ pins;
    sections = Equations lines ∷ [];
  }
