-- A sum over signals makes few nodes.
use Rattle.std.proofs.Common.{◌≡◌, ℕ, ◌+◌, ◌≤◌, Bool, true, false, Option, Some, None, List, [], ◌∷◌, length, refl, sym, ap, subst, ◌∙◌, arith}
use Rattle.decompiler.proofs.Common.{Made, free, fresh, make_not, make_and, make_or, Formula, Const, Read, Not, And, Or, Xor, constant_level, Extension, Tree, AName, AUnary, ABinary, Word, each_not, word_by_position, guard_nodes, Context, bits_of, make_source, met_by, met_word, operator_word, Shape, Number, Single, Set, meeting, width_of, Source, Zero, LeafRead, Term, ReadTerm, UnaryOf, BinaryOf, extended_if, term_named, term_of, constant_of, PinLiteral, name_text, q_if}
use Rattle.bit_expr.proofs.FoldingCases.{and_makes, and_one_left, and_one_right, and_zero_left, and_zero_right, or_makes, or_one_left, or_one_right, or_zero_left, or_zero_right}
use Rattle.abel_tree.specs.declared.words.Unary.TheVariants as unary
use Rattle.abel_tree.specs.declared.words.Binary.TheVariants as binary
use Rattle.abel_meaning.specs.Sources.{source_of}
use Rattle.decompiler.proofs.EachTree.{HoldsBySteps}
use Rattle.decompiler.proofs.FoundBits.{IsNarrow, narrow_met}

-- ---- what folding makes

pub not_gives : (f : Formula) (P : Made Formula → Type 0) → ((level : Bool) → P (free (Const level))) → ((g : Formula) → f ≡ Not g → P (free g)) → P (fresh (Not f)) → P (make_not f)
unfolding make_not
not_gives (Const level) P constant inner new = constant _
not_gives (Read l) P constant inner new = new
not_gives (Not g) P constant inner new = inner g refl
not_gives (And f g) P constant inner new = new
not_gives (Or f g) P constant inner new = new
not_gives (Xor f g) P constant inner new = new

pub and_gives : (f g : Formula) (P : Made Formula → Type 0) → P (free f) → P (free g) → P (free (Const false)) → P (fresh (And f g)) → P (make_and f g)
and_gives f g P left right zero new = by_left (constant_level f) refl
  where
    by_right : (o : Option Bool) → o ≡ constant_level g → None ≡ constant_level f → P (make_and f g)
    by_right (Some true) e none = subst P (sym (and_one_right f g e)) left
    by_right (Some false) e none = subst P (sym (and_zero_right f g e)) zero
    by_right None e none = subst P (sym (and_makes f g none e)) new

    by_left : (o : Option Bool) → o ≡ constant_level f → P (make_and f g)
    by_left (Some true) e = subst P (sym (and_one_left f g e)) right
    by_left (Some false) e = subst P (sym (and_zero_left f g e)) zero
    by_left None e = by_right (constant_level g) refl e

pub or_gives : (f g : Formula) (P : Made Formula → Type 0) → P (free f) → P (free g) → P (free (Const true)) → P (fresh (Or f g)) → P (make_or f g)
or_gives f g P left right one new = by_left (constant_level f) refl
  where
    by_right : (o : Option Bool) → o ≡ constant_level g → None ≡ constant_level f → P (make_or f g)
    by_right (Some true) e none = subst P (sym (or_one_right f g e)) one
    by_right (Some false) e none = subst P (sym (or_zero_right f g e)) left
    by_right None e none = subst P (sym (or_makes f g none e)) new

    by_left : (o : Option Bool) → o ≡ constant_level f → P (make_or f g)
    by_left (Some true) e = subst P (sym (or_one_left f g e)) one
    by_left (Some false) e = subst P (sym (or_zero_left f g e)) right
    by_left None e = by_right (constant_level g) refl e

-- at most one node
abbrev IsOne : Made Formula → Type 0
IsOne x = x.nodes ≤ 1

one_not : (f : Formula) → IsOne (make_not f)
one_not f = not_gives f IsOne (λ level. omega arith) (λ g e. omega arith) (omega arith)

one_and : (f g : Formula) → IsOne (make_and f g)
one_and f g = and_gives f g IsOne (omega arith) (omega arith) (omega arith) (omega arith)

one_or : (f g : Formula) → IsOne (make_or f g)
one_or f g = or_gives f g IsOne (omega arith) (omega arith) (omega arith) (omega arith)

-- ---- words of at most one bit

-- at most one bit, by at most one node
pub record IsOneBit (x : Made Word) : Type 0 where
  pub few : length x.what ≤ 1
  pub nodes : x.nodes ≤ 1

not_few : (xs : Word) → length xs ≤ 1 → IsOneBit (each_not xs)
not_few [] few = record { few = omega arith; nodes = omega arith }
not_few (x ∷ []) few = let one = one_not x in record { few = omega arith; nodes = omega (arith, one) }
not_few (x ∷ y ∷ xs) few = absurd (omega (arith, few))

module _ (make : Formula → Formula → Made Formula) (one : (f g : Formula) → IsOne (make f g)) where
  positions_few : (xs ys : Word) → length xs ≤ 1 → length ys ≤ 1 → IsOneBit (word_by_position make xs ys)
  positions_few [] ys few_x few_y = record { few = omega arith; nodes = omega arith }
  positions_few (x ∷ []) [] few_x few_y = record { few = omega arith; nodes = omega arith }
  positions_few (x ∷ []) (y ∷ ys) few_x few_y = let n = one x y in record { few = omega arith; nodes = omega (arith, n) }
  positions_few (x ∷ z ∷ xs) ys few_x few_y = absurd (omega (arith, few_x))

pub met_few : (s : Shape) (n : ℕ) (xs : Word) → IsNarrow s → length xs ≤ 1 → length (met_by 1 s n xs) ≤ 1
met_few Number n xs narrow few = omega arith
met_few Single n [] narrow few = omega arith
met_few Single n (x ∷ xs) narrow few = omega arith
met_few (Set w) n xs narrow few = absurd narrow

-- ---- terms

-- a number or one bit, by at most so many nodes
pub record IsSmall (d : Context) (u : Term) (weight : ℕ) : Type 0 where
  pub narrow : IsNarrow (constant_of d u).shape
  pub few : length (bits_of d u).what ≤ 1
  pub nodes : (bits_of d u).nodes ≤ weight

source_nodes : (x : Source) → (make_source x).nodes ≤ 2
source_nodes Zero = omega arith
source_nodes (LeafRead false l) = omega arith
source_nodes (LeafRead true l) = let one = one_not (Read l) in omega (arith, one)

module _ (d : Context) where
  pub read_small : (s : ℕ) (e : Option Extension) → IsSmall d (ReadTerm s e) 2
  read_small s e = let n = source_nodes (source_of d s e) in record { narrow = tt; few = omega arith; nodes = omega (arith, n) }

  pub not_small : (u : Term) (w : ℕ) → IsSmall d u w → IsSmall d (UnaryOf unary.Not u) (w + 1)
  not_small u w a =
      let one = not_few (bits_of d u).what a.few in
      record { narrow = a.narrow; few = one.few; nodes = omega (arith, one.nodes, a.nodes) }

  abbrev met_one : Term → Word
  met_one u = met_word 1 (constant_of d u) (bits_of d u).what

  one_met : (u : Term) (w : ℕ) → IsSmall d u w → length (met_one u) ≤ 1
  one_met u w a = met_few (constant_of d u).shape (constant_of d u).number (bits_of d u).what a.narrow a.few

  -- the operator on two terms, by the shape in which they meet
  abbrev and_word : (t u : Term) → Shape → Made Word
  and_word t u s = operator_word binary.And s (met_word (width_of s) (constant_of d t) (bits_of d t).what) (met_word (width_of s) (constant_of d u) (bits_of d u).what)

  abbrev or_word : (t u : Term) → Shape → Made Word
  or_word t u s = operator_word binary.Or s (met_word (width_of s) (constant_of d t) (bits_of d t).what) (met_word (width_of s) (constant_of d u) (bits_of d u).what)

  and_one : (t u : Term) (v w : ℕ) → IsSmall d t v → IsSmall d u w → (s : Shape) → IsNarrow s → IsOneBit (and_word t u s)
  and_one t u v w a b Number narrow = record { few = omega arith; nodes = omega arith }
  and_one t u v w a b Single narrow = positions_few make_and one_and (met_one t) (met_one u) (one_met t v a) (one_met u w b)
  and_one t u v w a b (Set n) narrow = absurd narrow

  or_one : (t u : Term) (v w : ℕ) → IsSmall d t v → IsSmall d u w → (s : Shape) → IsNarrow s → IsOneBit (or_word t u s)
  or_one t u v w a b Number narrow = record { few = omega arith; nodes = omega arith }
  or_one t u v w a b Single narrow = positions_few make_or one_or (met_one t) (met_one u) (one_met t v a) (one_met u w b)
  or_one t u v w a b (Set n) narrow = absurd narrow

  pub and_small : (t u : Term) (v w : ℕ) → IsSmall d t v → IsSmall d u w → IsSmall d (BinaryOf binary.And t u) (v + w + 1)
  and_small t u v w a b =
      let narrow = narrow_met (constant_of d t).shape (constant_of d u).shape a.narrow b.narrow in
      let one = and_one t u v w a b (meeting (constant_of d t).shape (constant_of d u).shape) narrow in
      record { narrow = narrow; few = one.few; nodes = omega (arith, one.nodes, a.nodes, b.nodes) }

  pub or_small : (t u : Term) (v w : ℕ) → IsSmall d t v → IsSmall d u w → IsSmall d (BinaryOf binary.Or t u) (v + w + 1)
  or_small t u v w a b =
      let narrow = narrow_met (constant_of d t).shape (constant_of d u).shape a.narrow b.narrow in
      let one = or_one t u v w a b (meeting (constant_of d t).shape (constant_of d u).shape) narrow in
      record { narrow = narrow; few = one.few; nodes = omega (arith, one.nodes, a.nodes, b.nodes) }

-- ---- trees

-- what a tree of names, numbers and operators makes at most
abbrev pub weight : Tree → ℕ
weight (AName word e) = 2
weight (AUnary sign p t) = weight t + 1
weight (ABinary sign p t u) = weight t + weight u + 1
weight _ = 0

module _ (d : Context) where
  pub record IsKnownPin (l : PinLiteral) : Type 0 where
    pub signal : ℕ
    pub known : term_named d.known (name_text l.pin) ≡ ReadTerm signal None

  abbrev pub IsSmallTree : Tree → Type 0
  IsSmallTree tree = IsSmall d (term_of d.known tree) (weight tree)

  extended_read : (e : Option Extension) (s : ℕ) → extended_if e (ReadTerm s None) ≡ ReadTerm s e
  extended_read None s = refl
  extended_read (Some e) s = refl

  pub small_steps : HoldsBySteps IsKnownPin IsSmallTree
  small_steps = record {
    number = λ n p low. record { narrow = tt; few = omega arith; nodes = omega arith };
    name = λ l p known.
        subst (λ (u : Term). IsSmall d u 2) (sym (ap (extended_if (q_if l.of_q)) known.known ∙ extended_read (q_if l.of_q) known.signal))
        (read_small d known.signal (q_if l.of_q));
    complement = λ p tree here. not_small d (term_of d.known tree) (weight tree) here;
    both = λ p left right here there. and_small d (term_of d.known left) (term_of d.known right) (weight left) (weight right) here there;
    either = λ p left right here there. or_small d (term_of d.known left) (term_of d.known right) (weight left) (weight right) here there;
  }

-- a guard that always holds makes none
pub unguarded_nodes : (fs : List Formula) → guard_nodes (Const true) fs ≡ 0
unfolding make_and
unguarded_nodes [] = refl
unguarded_nodes (f ∷ fs) = let later = unguarded_nodes fs in omega (arith, later)
