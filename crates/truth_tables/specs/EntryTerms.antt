-- What headers and entries are over; private: the terms that their parts represent, how many parts there are, and how far
-- an expression leads.
use Rattle.std.specs.Prelude.{◌≡◌, ℕ, Bool, true, false, Option, List, map, suc, ◌+◌, ◌*◌, ◌<◌, None, Some, [], ◌∷◌}
use Rattle.truth_tables.specs.Prelude.{Names, entries_of, Context, known_of, AllZip, members_of, view, view_member, Term, Terms, term_of, terms_of, extended_if, special_term, constant_of, Known, Kind, APin, ANode, AConstant, ADeviceName, Entry, find, Tree, ANumber, ASpecial, AName, ASet, AParen, AUnary, ABinary}
use Rattle.abel_tree.specs.declared.expressions.Expr.{Expr}
use Rattle.abel_tree.specs.declared.words.Extension.{Extension}
use Rattle.abel_meaning.specs.Numbers as number
use Rattle.abel_meaning.specs.Terms as term
use Rattle.truth_tables.specs.declared.part.Part.{Part}
use Rattle.truth_tables.specs.declared.part.Part.TheVariants as part
use Rattle.truth_tables.specs.declared.part.Stand.{Stand}
use Rattle.truth_tables.specs.declared.part.Stand.TheVariants as stand

-- a design of these names, for any device
pub record IsOver (n : Names) (d : Context) : Type 0 where
  pub names : d.names ≡ entries_of n
  pub known : d.known ≡ known_of (entries_of n)

-- ---- the terms of parts

-- a number or an operator
abbrev pub is_operand : Term → Bool
is_operand (term.Number n) = true
is_operand (term.UnaryOf sign t) = true
is_operand (term.BinaryOf sign t u) = true
is_operand _ = false

-- an operand that is this number
pub record IsNumeral (d : Context) (t : Term) (n : ℕ) : Type 0 where
  pub operand : is_operand t ≡ true
  pub shape : (constant_of d t).shape ≡ number.Number
  pub number : (constant_of d t).number ≡ n

-- an operator's expression under an extension
pub record IsOperator (d : Context) (x : Expr) (t : Term) : Type 0 where
  pub extension : Option Extension
  pub is : t ≡ extended_if extension (term_of d.known (view x))
  pub operand : is_operand (term_of d.known (view x)) ≡ true

-- a set under an extension, and its expression
pub record IsSet (d : Context) (x : Expr) (ts : Terms) (e : Option Extension) (t : Term) : Type 0 where
  pub extension : Option Extension
  pub whole : term_of d.known (view x) ≡ extended_if extension (term.Set ts)
  pub is : t ≡ extended_if e (term.Set ts)

-- what a term is
abbrev pub IsPart : Context → Part → Term → Type 0
IsPart d (part.Set x ms e) t = IsSet d x.now (terms_of d.known (members_of (map view_member ms.now))) e t
IsPart d (part.Signal s e) t = t ≡ term.Read s e
IsPart d (part.Number n) t = IsNumeral d t n
IsPart d (part.Special letter) t = t ≡ special_term letter
IsPart d (part.Operator x) t = IsOperator d x.now t

-- a part represents some term
pub record HasTerm (d : Context) (p : Part) : Type 0 where
  pub term : Term
  pub is : IsPart d p term

abbrev pub AreParts : Context → List Part → List Term → Type 0
AreParts d ps ts = AllZip (IsPart d) ps ts

-- an operator of two operands, after signs
abbrev pub is_computed : Term → Bool
is_computed (term.Number n) = false
is_computed term.X = false
is_computed term.Pulse = false
is_computed term.Release = false
is_computed (term.Read s e) = false
is_computed (term.Set ts) = false
is_computed (term.UnaryOf sign t) = is_computed t
is_computed (term.BinaryOf sign t u) = true

-- what a name represents under an extension: a constant's expression, or what is no operator
abbrev pub IsStand : Context → Option Extension → Stand → Term → Type 0
IsStand d e (stand.Constant x) t = t ≡ extended_if e (term_of d.known (view x.now))
IsStand d e (stand.Part p) t = IsPart d p t × (is_computed t ≡ false)

-- ---- how many parts terms have, with those of their members: a walk takes each once

-- a set counts as one beside its members
abbrev mutual
  pub term_parts : Term → ℕ
  term_parts (term.Number n) = 1
  term_parts term.X = 1
  term_parts term.Pulse = 1
  term_parts term.Release = 1
  term_parts (term.Read s e) = 1
  term_parts (term.Set ts) = suc (terms_parts ts)
  term_parts (term.UnaryOf sign t) = 1
  term_parts (term.BinaryOf sign t u) = 1

  pub terms_parts : Terms → ℕ
  terms_parts term.NoTerm = 0
  terms_parts (term.Before t ts) = term_parts t + terms_parts ts

-- ---- on stacks

abbrev pub part_parts : List Known → Part → ℕ
part_parts ks (part.Set x ms e) = suc (terms_parts (terms_of ks (members_of (map view_member ms.now))))
part_parts ks (part.Signal s e) = 1
part_parts ks (part.Number n) = 1
part_parts ks (part.Special letter) = 1
part_parts ks (part.Operator x) = 1

-- ---- how far an expression leads through signs, parentheses and names of constants; a constant names earlier names
-- alone, so that each step leaves fewer

-- how many names there are up to the one at a place
abbrev pub up_to : Option ℕ → ℕ
up_to None = 0
up_to (Some k) = suc k

-- how many names an expression may still lead to
abbrev pub names_left : List Entry → Tree → ℕ
names_left es (ANumber n) = 0
names_left es (ASpecial letter p) = 0
names_left es (AName word e) = up_to (find es word.text)
names_left es (ASet p ms e) = 0
names_left es (AParen p t) = names_left es t
names_left es (AUnary sign p t) = names_left es t
names_left es (ABinary sign p t u) = 0

-- how many signs and parentheses precede what an expression leads to
abbrev pub signs_left : Tree → ℕ
signs_left (ANumber n) = 0
signs_left (ASpecial letter p) = 0
signs_left (AName word e) = 0
signs_left (ASet p ms e) = 0
signs_left (AParen p t) = suc (signs_left t)
signs_left (AUnary sign p t) = suc (signs_left t)
signs_left (ABinary sign p t u) = 0

abbrev pub kind_signs : Kind → ℕ
kind_signs (APin pin negated) = 0
kind_signs (ANode number) = 0
kind_signs (AConstant value) = signs_left value
kind_signs ADeviceName = 0

-- those of all constants
abbrev pub all_signs : List Entry → ℕ
all_signs [] = 0
all_signs (e ∷ es) = kind_signs e.kind + all_signs es

-- how many steps so many names may take
abbrev pub steps_up_to : List Entry → ℕ → ℕ
steps_up_to es k = k * suc (all_signs es)

-- how many steps an expression may take
abbrev pub steps_left : List Entry → Tree → ℕ
steps_left es t = steps_up_to es (names_left es t) + signs_left t

-- a constant takes fewer steps than its name
abbrev pub LeadsBack : Names → (text : List ℕ) → Stand → Type 0
LeadsBack n w (stand.Constant x) = steps_left (entries_of n) (view x.now) < steps_up_to (entries_of n) (up_to (find (entries_of n) w))
LeadsBack n w (stand.Part p) = Unit {0}

-- a part that has no expression
abbrev pub is_plain : Part → Bool
is_plain (part.Set x ms e) = false
is_plain (part.Signal s e) = true
is_plain (part.Number n) = true
is_plain (part.Special letter) = true
is_plain (part.Operator x) = false

-- the expression of a are is that of a constant
abbrev pub IsOfKind : Stand → Kind → Type 0
IsOfKind (stand.Constant x) k = k ≡ AConstant (view x.now)
IsOfKind (stand.Part p) k = is_plain p ≡ true
