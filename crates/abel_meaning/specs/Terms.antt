-- Expressions over signals: constants represent their expressions, ranges for their names, an extension at each
-- signal (ABEL-HDL Reference Manual, sets and constants).
use Rattle.std.specs.Prelude.{ℕ, suc, Option, None, Some, List, [], ◌∷◌, ◌++◌, if◌then◌else◌, bytes_eq, codes}
use Rattle.abel_meaning.specs.Prelude.{Binary, Extension, Unary, Kind, APin, ANode, AConstant, ADeviceName, Entry, range_names, Tree, ANumber, ASpecial, AName, ASet, AParen, AUnary, ABinary, SetMember, OneMember, SpanMember, Members, NoMember, MoreMembers}

-- a number, a position that is X, .C. and .Z. (which have no value), a signal by its place in the list of names, a
-- set, an operator
mutual
  pub data Term : Type 0 where
    Number : (value : ℕ) → Term
    X : Term
    Pulse : Term
    Release : Term
    Read : (signal : ℕ) → Option Extension → Term
    Set : Terms → Term
    UnaryOf : Unary → Term → Term
    BinaryOf : Binary → Term → Term → Term

  pub data Terms : Type 0 where
    NoTerm : Terms
    Before : Term → Terms → Terms

-- names, each with what it represents
pub record Known : Type 0 where
  pub name : List ℕ
  pub term : Term

-- what a name represents, a number if it is unknown
abbrev pub term_named : List Known → List ℕ → Term
term_named [] name = Number 0
term_named (k ∷ ks) name = if bytes_eq name k.name then k.term else term_named ks name

-- the extension at each signal that has none
abbrev mutual
  pub extended : Extension → Term → Term
  extended e (Number n) = Number n
  extended e X = X
  extended e Pulse = Pulse
  extended e Release = Release
  extended e (Read s None) = Read s (Some e)
  extended e (Read s (Some f)) = Read s (Some f)
  extended e (Set ts) = Set (extended_each e ts)
  extended e (UnaryOf sign t) = UnaryOf sign (extended e t)
  extended e (BinaryOf sign t u) = BinaryOf sign (extended e t) (extended e u)

  pub extended_each : Extension → Terms → Terms
  extended_each e NoTerm = NoTerm
  extended_each e (Before t ts) = Before (extended e t) (extended_each e ts)

abbrev pub extended_if : Option Extension → Term → Term
extended_if None t = t
extended_if (Some e) t = extended e t

-- the names of a range before other members
abbrev pub named_before : List Known → List (List ℕ) → Terms → Terms
named_before known [] ts = ts
named_before known (name ∷ names) ts = Before (term_named known name) (named_before known names ts)

-- a special
abbrev pub special_term : (letter : ℕ) → Term
special_term letter =
    if bytes_eq (letter ∷ []) (codes "X") then X else if bytes_eq (letter ∷ []) (codes "C") then Pulse else Release

-- the term of an expression
abbrev mutual
  pub term_of : List Known → Tree → Term
  term_of known (ANumber n) = Number n.value
  term_of known (ASpecial letter place) = special_term letter
  term_of known (AName word e) = extended_if e (term_named known word.text)
  term_of known (ASet place ms e) = extended_if e (Set (terms_of known ms))
  term_of known (AParen place t) = term_of known t
  term_of known (AUnary sign place t) = UnaryOf sign (term_of known t)
  term_of known (ABinary sign place t u) = BinaryOf sign (term_of known t) (term_of known u)

  pub terms_of : List Known → Members → Terms
  terms_of known NoMember = NoTerm
  terms_of known (MoreMembers m ms) = member_before known m (terms_of known ms)

  pub member_before : List Known → SetMember → Terms → Terms
  member_before known (OneMember t) ts = Before (term_of known t) ts
  member_before known (SpanMember first last) ts = named_before known (range_names first.text last.text) ts

-- what a declared name represents: a signal for itself, a constant for its expression over the names before it
abbrev pub term_meant : List Known → ℕ → Kind → Term
term_meant known s (APin pin negated) = Read s None
term_meant known s (ANode number) = Read s None
term_meant known s (AConstant value) = term_of known value
term_meant known s ADeviceName = Number 0

-- the names known after these, the first of which has this place
abbrev pub known_after : List Known → ℕ → List Entry → List Known
known_after known s [] = known
known_after known s (e ∷ es) =
    known_after (known ++ record { name = e.name; term = term_meant known s e.kind } ∷ []) (suc s) es

-- what all names of the list represent
abbrev pub known_of : List Entry → List Known
known_of es = known_after [] 0 es
