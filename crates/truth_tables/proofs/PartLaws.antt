-- Numbers, operators and specials, what was checked of a part as the value of its term, and how many parts terms have.
use Rattle.std.proofs.Common.{◌≡◌, ℕ, Bool, true, false, Option, None, Some, List, [], ◌∷◌, if◌then◌else◌, bytes_eq, map, get_or, refl, sym, ap, ◌∙◌, subst, suc, ◌+◌, ◌<◌, ap₂, arith, codes}
use Rattle.truth_tables.proofs.Common.{Expr, Names, Extension, entries_of, view_declared, Tree, view, Context, Value, member_width, part_width, Term, Terms, Set, term_of, extended_if, extended, special_term, constant_of, SectionFault, Shape, expression_found, HasShapeIf, Found, HasShape, IsOver, IsNumeral, IsOperator, IsSet, is_operand, Binary, sum_by, sum_by-cons, members_of, view_member, extended_each, terms_of, Part, list_of, each_extended, term_parts, terms_parts, part_parts, IsPart, all_extended, set_extended, list_extended, HasKind, IsLinkedIf, expression_linked}
use Rattle.std.proofs.Math.ListN.{get_or-map}
use Rattle.abel_tree.specs.declared.names.Declared.{Declared}
use Rattle.set_expr.specs.declared.shaped.Shape.TheVariants as shape
use Rattle.expr_bits.proofs.Links.{SameKind, same_kind, extended_alike}
use Rattle.abel_tree.specs.declared.words.Unary.{Unary}
use Rattle.abel_meaning.specs.Terms as term
use Rattle.truth_tables.specs.declared.part.Part.TheVariants as part

-- what holds of numbers and operators holds of operands
pub operand_case : (P : Term → Type 0) → ((n : ℕ) → P (term.Number n)) → ((sign : Unary) (t : Term) → P (term.UnaryOf sign t)) → ((sign : Binary) (t u : Term) → P (term.BinaryOf sign t u)) → (t : Term) → is_operand t ≡ true → P t
operand_case P n u b (term.Number m) h = n m
operand_case P n u b (term.UnaryOf sign t) h = u sign t
operand_case P n u b (term.BinaryOf sign t v) h = b sign t v
operand_case P n u b _ h = absurd cc

-- what holds of .X., .C. and .Z. holds of specials
pub special_case : (P : Term → Type 0) → P term.X → P term.Pulse → P term.Release → (letter : ℕ) → P (special_term letter)
special_case P x p r letter = by_letter (bytes_eq (letter ∷ []) (codes "X")) (bytes_eq (letter ∷ []) (codes "C"))
  where
    by_letter : (a b : Bool) → P (if a then term.X else if b then term.Pulse else term.Release)
    by_letter true b = x
    by_letter false true = p
    by_letter false false = r

pub operand_extended : (e : Option Extension) (t : Term) → is_operand t ≡ true → is_operand (extended_if e t) ≡ true
operand_extended None t h = h
operand_extended (Some e) t h = operand_case (λ u. is_operand (extended e u) ≡ true) (λ n. refl) (λ sign u. refl) (λ sign u v. refl) t h

pub operator_operand : (d : Context) (x : Expr) (t : Term) → IsOperator d x t → is_operand t ≡ true
operator_operand d x t o = ap is_operand o.is ∙ operand_extended o.extension (term_of d.known (view x)) o.operand

pub number_extended : (d : Context) (e : Option Extension) (n : ℕ) → extended_if e (term.Number n) ≡ term.Number n
number_extended d None n = refl
number_extended d (Some e) n = refl

kind_shape : (s : Shape) (v u : Value) → SameKind v u → HasShape s v → HasShape s u
kind_shape (shape.Number n) v u h k = (h.shape ∙ k.0, h.number k.0 ∙ k.1)
kind_shape shape.Single v u h k = h.shape ∙ k
kind_shape (shape.Set w) v u h k = h.shape ∙ k

value_shape : (s : Shape) (o : Option Value) (u : Value) → HasKind o u → HasShapeIf (Some s) o → HasShape s u
value_shape s None u h k = absurd h
value_shape s (Some v) u h k = kind_shape s v u h k

-- ---- under an extension

extended_kind : (d : Context) (e : Option Extension) (t : Term) → SameKind (constant_of d t) (constant_of d (extended_if e t))
extended_kind d None t = same_kind (constant_of d t)
extended_kind d (Some e) t = (extended_alike d e t).kind

-- the value of an operator is that of its expression
operator_kind : (d : Context) (x : Expr) (t : Term) → IsOperator d x t → SameKind (constant_of d (term_of d.known (view x))) (constant_of d t)
operator_kind d x t o = subst (λ u. SameKind (constant_of d (term_of d.known (view x))) (constant_of d u)) (sym o.is) (extended_kind d o.extension (term_of d.known (view x)))

pub operator_numeral : (d : Context) (x : Expr) (t : Term) (n : ℕ) → IsOperator d x t → HasShape (shape.Number n) (constant_of d (term_of d.known (view x))) → IsNumeral d t n
operator_numeral d x t n o k =
    let s = operator_kind d x t o in
    record { operand = operator_operand d x t o; shape = s.shape ∙ k.0; number = s.number k.0 ∙ k.1 }

pub operator_shape : (d : Context) (x : Expr) (t : Term) → IsOperator d x t → (constant_of d t).shape ≡ (constant_of d (term_of d.known (view x))).shape
operator_shape d x t o = (operator_kind d x t o).shape

-- a set and an operator have as many positions as their expressions
pub set_width : (d : Context) (x : Expr) (ts : Terms) (e : Option Extension) (t : Term) → IsSet d x ts e t → part_width d (term_of d.known (view x)) ≡ part_width d t
set_width d x ts e t h =
    ap (part_width d) h.whole
    ∙ ap member_width ((extended_kind d h.extension (Set ts)).shape ∙ sym (extended_kind d e (Set ts)).shape)
    ∙ sym (ap (part_width d) h.is)

pub operator_width : (d : Context) (x : Expr) (t : Term) → IsOperator d x t → part_width d (term_of d.known (view x)) ≡ part_width d t
operator_width d x t o = sym (ap member_width (operator_shape d x t o))

-- ---- over the names of a design

found_kind : (d : Context) (o : Option Value) (xs : List SectionFault) (t : Term) → (o ≡ None → ⊥) → IsLinkedIf d o xs t → HasKind o (constant_of d t)
found_kind d None xs t h l = absurd (h refl)
found_kind d (Some v) xs t h l = l.0

-- what isn't refused has the kind of a value
abbrev pub IsValued : Found → Value → Type 0
IsValued f u = f.refusals ≡ [] → HasKind f.value u

pub over_valued : (n : Names) (d : Context) → IsOver n d → (t : Tree) → IsValued (expression_found (entries_of n) t) (constant_of d (term_of d.known t))
over_valued n d is t =
    let f = expression_found (entries_of n) t in
    let l = expression_linked d (entries_of n) t in
    subst (λ ks. IsValued f (constant_of d (term_of ks t))) (sym is.known) (λ e. found_kind d f.value f.specials _ (l.valued e) l.linked)

-- the shape of an expression of which nothing is refused
pub over_shape : (n : Names) (d : Context) → IsOver n d → (t : Tree) (s : Shape) → (expression_found (entries_of n) t).refusals ≡ [] → HasShapeIf (Some s) (expression_found (entries_of n) t).value → HasShape s (constant_of d (term_of d.known t))
over_shape n d is t s e h = value_shape s (expression_found (entries_of n) t).value (constant_of d (term_of d.known t)) (over_valued n d is t e) h

pub entry_at : (ds : List Declared) (k : ℕ) (x : Declared) → x ≡ get_or ds k x → get_or (map view_declared ds) k (view_declared x) ≡ view_declared x
entry_at ds k x e = get_or-map view_declared ds k x ∙ ap view_declared (sym e)

-- ---- each step of a walk over parts leaves fewer of them

-- an extension changes none
mutual
  extended_parts : (e : Extension) (t : Term) → term_parts (extended e t) ≡ term_parts t
  extended_parts e (term.Read s (Some f)) = refl
  extended_parts e (term.Set ts) = ap suc (each_parts e ts)
  extended_parts e (term.UnaryOf sign t) = refl
  extended_parts e (term.BinaryOf sign t u) = refl
  extended_parts e _ = refl

  each_parts : (e : Extension) (ts : Terms) → terms_parts (extended_each e ts) ≡ terms_parts ts
  each_parts e term.NoTerm = refl
  each_parts e (term.Before t ts) = ap₂ (λ m n. m + n) (extended_parts e t) (each_parts e ts)

parts_if : (e : Option Extension) (t : Term) → term_parts (extended_if e t) ≡ term_parts t
parts_if None t = refl
parts_if (Some e) t = extended_parts e t

pub some_parts : (t : Term) → 0 < term_parts t
some_parts (term.Number n) = omega arith
some_parts _ = omega arith

operand_parts : (t : Term) → is_operand t ≡ true → term_parts t ≡ 1
operand_parts t k = operand_case (λ u. term_parts u ≡ 1) (λ n. refl) (λ sign u. refl) (λ sign u v. refl) t k

-- a part on a stack has those of its term
pub part_counted : (d : Context) (x : Part) (t : Term) → IsPart d x t → part_parts d.known x ≡ term_parts t
part_counted d (part.Set x ms e) t i = sym (ap term_parts i.is ∙ parts_if e (term.Set (terms_of d.known (members_of (map view_member ms.now)))))
part_counted d (part.Signal s e) t i = sym (ap term_parts i)
part_counted d (part.Number n) t i = sym (operand_parts t i.operand)
part_counted d (part.Special letter) t i = sym (ap term_parts i ∙ special_case (λ u. term_parts u ≡ 1) refl refl refl letter)
part_counted d (part.Operator x) t i = sym (operand_parts t (operator_operand d x.now t i))

listed_parts : (ts : Terms) → sum_by term_parts (list_of ts) ≡ terms_parts ts
listed_parts term.NoTerm = refl
listed_parts (term.Before t ts) = sum_by-cons term_parts t (list_of ts) ∙ ap (λ n. term_parts t + n) (listed_parts ts)

-- the members of a set have fewer than the set
pub set_fewer : (t : Term) (e : Option Extension) (ts : Terms) → t ≡ extended_if e (term.Set ts) → sum_by term_parts (each_extended e (list_of ts)) < term_parts t
set_fewer t e ts h =
    let members : sum_by term_parts (each_extended e (list_of ts)) ≡ terms_parts (all_extended e ts) = ap (sum_by term_parts) (sym (list_extended e ts)) ∙ listed_parts (all_extended e ts) in
    let whole : term_parts t ≡ suc (terms_parts (all_extended e ts)) = ap term_parts (h ∙ set_extended e ts) in
    omega arith
