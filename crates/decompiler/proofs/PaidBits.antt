-- The bits of a sum over signals have no more nodes than were counted for it.
use Rattle.std.proofs.Common.{◌≡◌, ℕ, ◌+◌, ◌≤◌, Bool, true, false, Option, Some, None, [], ◌∷◌, length, reverse, refl, sym, ap, subst, ◌∙◌, arith}
use Rattle.decompiler.proofs.Common.{Leaf, Made, make_not, make_and, make_or, Formula, Read, Not, all_nodes_of, nodes_of, Extension, Tree, Word, each_not, word_by_position, Context, bits_of, formulas, make_held, make_source, met_by, met_word, operator_word, Shape, Number, Single, Set, meeting, width_of, Source, Zero, LeafRead, Term, ReadTerm, UnaryOf, BinaryOf, extended_if, term_of, constant_of, q_if}
use Rattle.abel_tree.specs.declared.words.Unary.TheVariants as unary
use Rattle.abel_tree.specs.declared.words.Binary.TheVariants as binary
use Rattle.abel_meaning.specs.Sources.{source_of}
use Rattle.decompiler.proofs.EachTree.{HoldsBySteps}
use Rattle.decompiler.proofs.FoundBits.{IsNarrow, narrow_met}
use Rattle.decompiler.proofs.SmallBits.{IsKnownPin, IsSmall, and_gives, and_small, met_few, not_gives, not_small, or_gives, or_small, read_small, weight}

-- ---- folding

-- what is made has no more nodes than what it is of, and those that were counted
not_paid : (f : Formula) → nodes_of (make_not f).what ≤ nodes_of f + (make_not f).nodes
not_paid f =
    not_gives f (λ (x : Made Formula). nodes_of x.what ≤ nodes_of f + x.nodes) (λ level. omega arith)
    (λ g is. let outer : nodes_of f ≡ nodes_of g + 1 = ap nodes_of is in omega (arith, outer)) (omega arith)

and_paid : (f g : Formula) → nodes_of (make_and f g).what ≤ nodes_of f + nodes_of g + (make_and f g).nodes
and_paid f g = and_gives f g (λ (x : Made Formula). nodes_of x.what ≤ nodes_of f + nodes_of g + x.nodes) (omega arith) (omega arith) (omega arith) (omega arith)

or_paid : (f g : Formula) → nodes_of (make_or f g).what ≤ nodes_of f + nodes_of g + (make_or f g).nodes
or_paid f g = or_gives f g (λ (x : Made Formula). nodes_of x.what ≤ nodes_of f + nodes_of g + x.nodes) (omega arith) (omega arith) (omega arith) (omega arith)

-- ---- words

nots_paid : (xs : Word) → all_nodes_of (each_not xs).what ≤ all_nodes_of xs + (each_not xs).nodes
nots_paid [] = omega arith
nots_paid (x ∷ xs) =
    let one = not_paid x in
    let later = nots_paid xs in
    omega (arith, one, later)

module _ (make : Formula → Formula → Made Formula) (paid : (f g : Formula) → nodes_of (make f g).what ≤ nodes_of f + nodes_of g + (make f g).nodes) where
  positions_paid : (xs ys : Word) → all_nodes_of (word_by_position make xs ys).what ≤ all_nodes_of xs + all_nodes_of ys + (word_by_position make xs ys).nodes
  positions_paid [] ys = omega arith
  positions_paid (x ∷ xs) [] = omega arith
  positions_paid (x ∷ xs) (y ∷ ys) =
      let one = paid x y in
      let later = positions_paid xs ys in
      omega (arith, one, later)

met_paid : (s : Shape) (n : ℕ) (xs : Word) → IsNarrow s → all_nodes_of (met_by 1 s n xs) ≤ all_nodes_of xs
met_paid Number n xs narrow = omega arith
met_paid Single n [] narrow = omega arith
met_paid Single n (x ∷ xs) narrow = omega arith
met_paid (Set w) n xs narrow = absurd narrow

-- ---- terms

held_paid : (complement : Bool) (l : Leaf) → nodes_of (make_held complement l).what ≤ (make_held complement l).nodes
held_paid false l = omega arith
held_paid true l = let one = not_paid (Read l) in omega (arith, one)

source_paid : (x : Source) → nodes_of (make_source x).what ≤ (make_source x).nodes
source_paid Zero = omega arith
source_paid (LeafRead complement l) = held_paid complement l

-- a number or one bit, with no more nodes than were counted
pub record IsPaid (d : Context) (u : Term) (weight : ℕ) : Type 0 where
  pub small : IsSmall d u weight
  pub paid : all_nodes_of (bits_of d u).what ≤ (bits_of d u).nodes

module _ (d : Context) where
  read_paid : (s : ℕ) (e : Option Extension) → IsPaid d (ReadTerm s e) 2
  read_paid s e = let one = source_paid (source_of d s e) in record { small = read_small d s e; paid = omega (arith, one) }

  not_term : (u : Term) (w : ℕ) → IsPaid d u w → IsPaid d (UnaryOf unary.Not u) (w + 1)
  not_term u w a =
      let one = nots_paid (bits_of d u).what in
      record { small = not_small d u w a.small; paid = omega (arith, one, a.paid) }

  abbrev met_one : Term → Word
  met_one u = met_word 1 (constant_of d u) (bits_of d u).what

  one_paid : (u : Term) (w : ℕ) → IsPaid d u w → all_nodes_of (met_one u) ≤ (bits_of d u).nodes
  one_paid u w a =
      let one = met_paid (constant_of d u).shape (constant_of d u).number (bits_of d u).what a.small.narrow in
      omega (arith, one, a.paid)

  abbrev and_word : (t u : Term) → Shape → Made Word
  and_word t u s = operator_word binary.And s (met_word (width_of s) (constant_of d t) (bits_of d t).what) (met_word (width_of s) (constant_of d u) (bits_of d u).what)

  abbrev or_word : (t u : Term) → Shape → Made Word
  or_word t u s = operator_word binary.Or s (met_word (width_of s) (constant_of d t) (bits_of d t).what) (met_word (width_of s) (constant_of d u) (bits_of d u).what)

  and_words : (t u : Term) (v w : ℕ) → IsPaid d t v → IsPaid d u w → (s : Shape) → IsNarrow s
      → all_nodes_of (and_word t u s).what ≤ (bits_of d t).nodes + ((bits_of d u).nodes + (and_word t u s).nodes)
  and_words t u v w a b Number narrow = omega arith
  and_words t u v w a b Single narrow =
      let both = positions_paid make_and and_paid (met_one t) (met_one u) in
      let left = one_paid t v a in
      let right = one_paid u w b in
      omega (arith, both, left, right)
  and_words t u v w a b (Set n) narrow = absurd narrow

  or_words : (t u : Term) (v w : ℕ) → IsPaid d t v → IsPaid d u w → (s : Shape) → IsNarrow s
      → all_nodes_of (or_word t u s).what ≤ (bits_of d t).nodes + ((bits_of d u).nodes + (or_word t u s).nodes)
  or_words t u v w a b Number narrow = omega arith
  or_words t u v w a b Single narrow =
      let both = positions_paid make_or or_paid (met_one t) (met_one u) in
      let left = one_paid t v a in
      let right = one_paid u w b in
      omega (arith, both, left, right)
  or_words t u v w a b (Set n) narrow = absurd narrow

  and_term : (t u : Term) (v w : ℕ) → IsPaid d t v → IsPaid d u w → IsPaid d (BinaryOf binary.And t u) (v + w + 1)
  and_term t u v w a b = record {
    small = and_small d t u v w a.small b.small;
    paid = and_words t u v w a b (meeting (constant_of d t).shape (constant_of d u).shape) (narrow_met (constant_of d t).shape (constant_of d u).shape a.small.narrow b.small.narrow);
  }

  or_term : (t u : Term) (v w : ℕ) → IsPaid d t v → IsPaid d u w → IsPaid d (BinaryOf binary.Or t u) (v + w + 1)
  or_term t u v w a b = record {
    small = or_small d t u v w a.small b.small;
    paid = or_words t u v w a b (meeting (constant_of d t).shape (constant_of d u).shape) (narrow_met (constant_of d t).shape (constant_of d u).shape a.small.narrow b.small.narrow);
  }

  abbrev pub IsPaidTree : Tree → Type 0
  IsPaidTree tree = IsPaid d (term_of d.known tree) (weight tree)

  extended_read : (e : Option Extension) (s : ℕ) → extended_if e (ReadTerm s None) ≡ ReadTerm s e
  extended_read None s = refl
  extended_read (Some e) s = refl

  pub paid_steps : HoldsBySteps (IsKnownPin d) IsPaidTree
  paid_steps = record {
    number = λ n p low. record { small = record { narrow = tt; few = omega arith; nodes = omega arith }; paid = omega arith };
    name = λ l p known.
        subst (λ (u : Term). IsPaid d u 2) (sym (ap (extended_if (q_if l.of_q)) known.known ∙ extended_read (q_if l.of_q) known.signal))
        (read_paid known.signal (q_if l.of_q));
    complement = λ p tree here. not_term (term_of d.known tree) (weight tree) here;
    both = λ p left right here there. and_term (term_of d.known left) (term_of d.known right) (weight left) (weight right) here there;
    either = λ p left right here there. or_term (term_of d.known left) (term_of d.known right) (weight left) (weight right) here there;
  }

  turned_few : (xs : Word) → length xs ≤ 1 → all_nodes_of (reverse xs) ≡ all_nodes_of xs
  turned_few [] few = refl
  turned_few (x ∷ []) few = refl
  turned_few (x ∷ y ∷ xs) few = absurd (omega (arith, few))

  -- the formula of one bit has no more nodes than were counted
  pub bit_paid : (u : Term) (w : ℕ) (f : Formula) → IsPaid d u w → (formulas d).word 1 u ≡ f ∷ [] → nodes_of f ≤ (bits_of d u).nodes
  bit_paid u w f a is =
      let one = one_paid u w a in
      let turned = turned_few (met_one u) (met_few (constant_of d u).shape (constant_of d u).number (bits_of d u).what a.small.narrow a.small.few) in
      let whole : all_nodes_of (reverse (met_one u)) ≡ nodes_of f + 0 = ap all_nodes_of is in
      omega (arith, one, turned, whole)
