-- The tree that tokens spell, without its place in memory (ABEL-HDL Reference Manual, source file
-- structure).
use Rattle.std.specs.Prelude.{ℕ, Bool, List, [], ◌∷◌, Option, Some, None}
use Rattle.pld_base.specs.declared.place.Place.{Place}
use Rattle.abel_tree.specs.declared.words.Word.{Word}
use Rattle.abel_tree.specs.declared.words.Number.{Number}
use Rattle.abel_tree.specs.declared.words.Item.{Item}
use Rattle.abel_tree.specs.declared.words.Span.{Span}
use Rattle.abel_tree.specs.declared.words.DontCare.{DontCare}
use Rattle.abel_tree.specs.declared.words.Extension.{Extension}
use Rattle.abel_tree.specs.declared.words.Sign.{Sign}
use Rattle.abel_tree.specs.declared.words.Unary.{Unary}
use Rattle.abel_tree.specs.declared.words.Binary.{Binary}

-- expressions, and the members of their sets
mutual
  pub data Tree : Type 0 where
    ANumber : Number → Tree
    ASpecial : (letter : ℕ) → Place → Tree
    AName : Word → Option Extension → Tree
    ASet : Place → Members → Option Extension → Tree
    AParen : Place → Tree → Tree
    AUnary : Unary → Place → Tree → Tree
    ABinary : Binary → Place → (left right : Tree) → Tree

  pub data SetMember : Type 0 where
    OneMember : Tree → SetMember
    SpanMember : (first last : Word) → SetMember

  pub data Members : Type 0 where
    NoMember : Members
    MoreMembers : SetMember → Members → Members

abbrev pub members_of : List SetMember → Members
members_of [] = NoMember
members_of (m ∷ ms) = MoreMembers m (members_of ms)

-- statements
mutual
  pub data Statement : Type 0 where
    AnAssign : Place → (complement : Bool) → (target : Tree) → Sign → (sign_place : Place) → (value : Tree) → Statement
    AWhen : Place → (condition : Tree) → Statement → Otherwise → Statement
    AGroup : Statements → Statement
    ADontCare : DontCare → Statement

  pub data Otherwise : Type 0 where
    NoElse : Otherwise
    AnElse : Statement → Otherwise

  pub data Statements : Type 0 where
    NoStatement : Statements
    MoreStatements : Statement → Statements → Statements

abbrev pub statements_of : List Statement → Statements
statements_of [] = NoStatement
statements_of (s ∷ ss) = MoreStatements s (statements_of ss)

abbrev pub otherwise_of : Option Statement → Otherwise
otherwise_of None = NoElse
otherwise_of (Some s) = AnElse s

-- transitions
mutual
  pub data Branch : Type 0 where
    AGoal : Place → (value : Tree) → Option (List Statement) → Branch
    AnIf : Place → (condition : Tree) → Branch → OtherBranch → Branch
    ACase : Place → Choices → Branch

  pub data OtherBranch : Type 0 where
    NoBranch : OtherBranch
    ABranch : Branch → OtherBranch

  pub data Choices : Type 0 where
    NoChoice : Choices
    MoreChoices : (condition : Tree) → (colon : Place) → Branch → Choices → Choices

abbrev pub choices_of : List (Tree × (Place × Branch)) → Choices
choices_of [] = NoChoice
choices_of (c ∷ cs) = MoreChoices c.0 c.1.0 c.1.1 (choices_of cs)

abbrev pub other_of : Option Branch → OtherBranch
other_of None = NoBranch
other_of (Some b) = ABranch b

-- declarations
pub data Declaration : Type 0 where
  ADevice : (name text : Word) → Declaration
  SomePins : List Item → (numbers : List Span) → (attributes : List Word) → Declaration
  SomeNodes : List Item → (numbers : List Span) → (attributes : List Word) → Declaration
  SomeAttributes : List Item → (attributes : List Word) → Declaration
  SomeConstants : List Word → List Tree → Declaration
  SomeOptions : List Word → Declaration
  DontCareFor : DontCare → Declaration

-- a row of a table or of vectors
pub record RowTree : Type 0 where
  pub place : Place
  pub inputs : Tree
  pub clocked : Bool
  pub outputs : Tree

pub record StateTree : Type 0 where
  pub place : Place
  pub value : Tree
  pub statements : List Statement
  pub transitions : List Branch

-- sections
pub data SectionTree : Type 0 where
  Declarations : List Declaration → SectionTree
  Equations : List Statement → SectionTree
  ATable : Place → (inputs : Tree) → (clocked : Bool) → (outputs : Tree) → List RowTree → SectionTree
  ADiagram : Place → (registers : Tree) → List StateTree → SectionTree
  SomeVectors : (note : Option Word) → Place → (inputs outputs : Tree) → List RowTree → SectionTree
  DontCareSection : DontCare → SectionTree

pub record ModuleTree : Type 0 where
  pub place : Place
  pub name : Word
  pub title : Option Word
  pub options : List Word
  pub decls : List Declaration
  pub sections : List SectionTree
