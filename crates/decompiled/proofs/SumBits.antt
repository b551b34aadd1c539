-- A printed sum is a number of one bit, or one bit, with its formula.
use Rattle.std.proofs.Common.{◌≡◌, ℕ, ◌⊎◌, inl, inr, Bool, true, false, Option, None, Some, List, [], ◌∷◌, refl, sym, ap, subst, ◌∙◌, ◌||◌, if◌then◌else◌, fold, reverse}
use Rattle.decompiled.proofs.Common.{AllByRecursion, Leaf, make_not, make_and, make_or, Formula, Const, Not, Extension, Tree, ABinary, Context, formulas, bits_of, met_word, met_by, make_source, operator_word, Source, LeafRead, Term, ReadTerm, UnaryOf, BinaryOf, term_of, extended_if, PinLiteral, q_if, IsNumber, IsNamed, IsSigned, IsLiteral, IsJoined, IsProduct, IsSum, ReadsLeaf, literal_formula, product_formula, sum_formula, SumsHaveFormulas}
use Rattle.bit_expr.specs.Formulas.{Read}
use Rattle.abel_tree.specs.declared.words.Unary.TheVariants as unary
use Rattle.abel_tree.specs.declared.words.Binary.TheVariants as binary
use Rattle.abel_meaning.specs.BitWords.{Word, each_not}
use Rattle.abel_meaning.specs.Numbers.{Shape, Number, Single, Value, one_bit, meeting, met, met_number, width_of}
use Rattle.abel_meaning.specs.Sources.{source_of}
use Rattle.abel_meaning.specs.Values.{constant_of, operator_number, computes_numbers}

-- one bit with this formula
pub record IsBit (d : Context) (t : Term) (f : Formula) : Type 0 where
  pub shape : (constant_of d t).shape ≡ Single
  pub bits : (bits_of d t).what ≡ f ∷ []

-- a number, 0 or 1, with the constant
pub record IsLevel (d : Context) (t : Term) (f : Formula) : Type 0 where
  pub level : Bool
  pub shape : (constant_of d t).shape ≡ Number
  pub number : (constant_of d t).number ≡ one_bit level
  pub bits : (bits_of d t).what ≡ []
  pub formula : f ≡ Const level

abbrev IsEither : Context → Term → Formula → Type 0
IsEither d t f = IsBit d t f ⊎ IsLevel d t f

-- ---- in one position

level_met : (b : Bool) → met_by 1 Number (one_bit b) [] ≡ Const b ∷ []
level_met true = refl
level_met false = refl

met_bit : (v : Value) (xs : Word) (f : Formula) → v.shape ≡ Single → xs ≡ f ∷ [] → met_word 1 v xs ≡ f ∷ []
met_bit v xs f s e = ap (λ (x : Shape). met_by 1 x v.number xs) s ∙ ap (λ (ys : Word). met_by 1 Single v.number ys) e

met_level : (v : Value) (xs : Word) (b : Bool) → v.shape ≡ Number → v.number ≡ one_bit b → xs ≡ [] → met_word 1 v xs ≡ Const b ∷ []
met_level v xs b s n e =
    ap (λ (x : Shape). met_by 1 x v.number xs) s ∙ ap (λ (i : ℕ). met_by 1 Number i xs) n ∙ ap (λ (ys : Word). met_by 1 Number (one_bit b) ys) e ∙ level_met b

met_either : (d : Context) (t : Term) (f : Formula) → IsEither d t f → met_word 1 (constant_of d t) (bits_of d t).what ≡ f ∷ []
met_either d t f (inl b) = met_bit (constant_of d t) (bits_of d t).what f b.shape b.bits
met_either d t f (inr l) = met_level (constant_of d t) (bits_of d t).what l.level l.shape l.number l.bits ∙ ap (λ (g : Formula). g ∷ []) (sym l.formula)

pub word_is : (d : Context) (t : Term) (f : Formula) → IsEither d t f → (formulas d).word 1 t ≡ f ∷ []
word_is d t f e = ap reverse (met_either d t f e)

-- ---- literals

named_bit : (d : Context) (s : ℕ) (e : Option Extension) (leaf : Leaf) → source_of d s e ≡ LeafRead false leaf → IsBit d (ReadTerm s e) (Read leaf)
named_bit d s e leaf reads =
    record { shape = refl; bits = ap (λ (x : Source). (make_source x).what ∷ []) reads }

complement_bit : (d : Context) (t : Term) (leaf : Leaf) → IsBit d t (Read leaf) → IsBit d (UnaryOf unary.Not t) (Not (Read leaf))
unfolding make_not
complement_bit d t leaf b = record { shape = b.shape; bits = ap (λ (xs : Word). (each_not xs).what) b.bits }

extended_read : (e : Option Extension) (s : ℕ) → extended_if e (ReadTerm s None) ≡ ReadTerm s e
extended_read None s = refl
extended_read (Some e) s = refl

module _ (d : Context) (leaf_of : PinLiteral → Leaf) where
  abbrev meaning : Tree → Term
  meaning tree = term_of d.known tree

  name_bit : (l : PinLiteral) (tree : Tree) → ReadsLeaf d leaf_of l → IsNamed l.pin (q_if l.of_q) tree → IsBit d (meaning tree) (Read (leaf_of l))
  name_bit l tree reads named =
      let is : meaning tree ≡ ReadTerm reads.signal (q_if l.of_q) =
      ap meaning named.1 ∙ ap (extended_if (q_if l.of_q)) reads.known ∙ extended_read (q_if l.of_q) reads.signal in
      subst (λ (t : Term). IsBit d t (Read (leaf_of l))) (sym is) (named_bit d reads.signal (q_if l.of_q) (leaf_of l) reads.reads)

  signed_bit : (l : PinLiteral) (negated : Bool) (tree : Tree) → ReadsLeaf d leaf_of l → IsSigned negated l.pin (q_if l.of_q) tree
      → IsBit d (meaning tree) (if negated then Not (Read (leaf_of l)) else Read (leaf_of l))
  signed_bit l false tree reads is = name_bit l tree reads is
  signed_bit l true tree reads is =
      subst (λ (t : Tree). IsBit d (meaning t) (Not (Read (leaf_of l)))) (sym is.3)
      (complement_bit d (meaning is.1) (leaf_of l) (name_bit l is.1 reads is.2))

  literal_bit : (l : PinLiteral) (tree : Tree) → ReadsLeaf d leaf_of l → IsLiteral l tree → IsBit d (meaning tree) (literal_formula leaf_of l)
  literal_bit l tree reads is = signed_bit l l.negated tree reads is

-- ---- two operands

-- if they meet in one bit
and_bits : (d : Context) (t u : Term) (f g : Formula) → meeting (constant_of d t).shape (constant_of d u).shape ≡ Single → met_word 1 (constant_of d t) (bits_of d t).what ≡ f ∷ []
    → met_word 1 (constant_of d u) (bits_of d u).what ≡ g ∷ [] → IsBit d (BinaryOf binary.And t u) (make_and f g).what
and_bits d t u f g m a b =
    record {
      shape = m;
      bits = ap (λ (s : Shape). (operator_word binary.And s (met_word (width_of s) (constant_of d t) (bits_of d t).what) (met_word (width_of s) (constant_of d u) (bits_of d u).what)).what) m
          ∙ ap (λ (xs : Word). (operator_word binary.And Single xs (met_word 1 (constant_of d u) (bits_of d u).what)).what) a
          ∙ ap (λ (ys : Word). (operator_word binary.And Single (f ∷ []) ys).what) b;
    }

or_bits : (d : Context) (t u : Term) (f g : Formula) → meeting (constant_of d t).shape (constant_of d u).shape ≡ Single → met_word 1 (constant_of d t) (bits_of d t).what ≡ f ∷ []
    → met_word 1 (constant_of d u) (bits_of d u).what ≡ g ∷ [] → IsBit d (BinaryOf binary.Or t u) (make_or f g).what
or_bits d t u f g m a b =
    record {
      shape = m;
      bits = ap (λ (s : Shape). (operator_word binary.Or s (met_word (width_of s) (constant_of d t) (bits_of d t).what) (met_word (width_of s) (constant_of d u) (bits_of d u).what)).what) m
          ∙ ap (λ (xs : Word). (operator_word binary.Or Single xs (met_word 1 (constant_of d u) (bits_of d u).what)).what) a
          ∙ ap (λ (ys : Word). (operator_word binary.Or Single (f ∷ []) ys).what) b;
    }

-- two numbers
or_number : (b c : Bool) → computes_numbers binary.Or (met_number 32 Number (one_bit b)) (met_number 32 Number (one_bit c)) ≡ one_bit (b || c)
or_number true true = refl
or_number true false = refl
or_number false true = refl
or_number false false = refl

or_formula : (b c : Bool) → (make_or (Const b) (Const c)).what ≡ Const (b || c)
unfolding make_or
or_formula true true = refl
or_formula true false = refl
or_formula false true = refl
or_formula false false = refl

or_levels : (d : Context) (t u : Term) (f g : Formula) → IsLevel d t f → IsLevel d u g → IsLevel d (BinaryOf binary.Or t u) (make_or f g).what
or_levels d t u f g a b =
    let v : Value = constant_of d t in
    let w : Value = constant_of d u in
    let m : meeting v.shape w.shape ≡ Number = ap (λ (s : Shape). meeting s w.shape) a.shape ∙ b.shape in
    record {
      level = a.level || b.level;
      shape = m;
      number = ap (λ (s : Shape). operator_number binary.Or s (met (width_of s) v) (met (width_of s) w)) m
          ∙ ap (λ (s : Shape). computes_numbers binary.Or (met_number 32 s v.number) (met 32 w)) a.shape
          ∙ ap (λ (n : ℕ). computes_numbers binary.Or (met_number 32 Number n) (met 32 w)) a.number
          ∙ ap (λ (s : Shape). computes_numbers binary.Or (met_number 32 Number (one_bit a.level)) (met_number 32 s w.number)) b.shape
          ∙ ap (λ (n : ℕ). computes_numbers binary.Or (met_number 32 Number (one_bit a.level)) (met_number 32 Number n)) b.number
          ∙ or_number a.level b.level;
      bits = ap (λ (s : Shape). (operator_word binary.Or s (met_word (width_of s) v (bits_of d t).what) (met_word (width_of s) w (bits_of d u).what)).what) m;
      formula = ap (λ (x : Formula). (make_or x g).what) a.formula ∙ ap (λ (x : Formula). (make_or (Const a.level) x).what) b.formula ∙ or_formula a.level b.level;
    }

or_either : (d : Context) (t u : Term) (f g : Formula) → IsEither d t f → IsEither d u g → IsEither d (BinaryOf binary.Or t u) (make_or f g).what
or_either d t u f g (inl a) (inl b) =
    inl (or_bits d t u f g (ap (λ (s : Shape). meeting s (constant_of d u).shape) a.shape ∙ ap (meeting Single) b.shape) (met_either d t f (inl a)) (met_either d u g (inl b)))
or_either d t u f g (inl a) (inr b) =
    inl (or_bits d t u f g (ap (λ (s : Shape). meeting s (constant_of d u).shape) a.shape ∙ ap (meeting Single) b.shape) (met_either d t f (inl a)) (met_either d u g (inr b)))
or_either d t u f g (inr a) (inl b) =
    inl (or_bits d t u f g (ap (λ (s : Shape). meeting s (constant_of d u).shape) a.shape ∙ b.shape) (met_either d t f (inr a)) (met_either d u g (inl b)))
or_either d t u f g (inr a) (inr b) = inr (or_levels d t u f g a b)

and_both_bits : (d : Context) (t u : Term) (f g : Formula) → IsBit d t f → IsBit d u g → IsBit d (BinaryOf binary.And t u) (make_and f g).what
and_both_bits d t u f g a b =
    and_bits d t u f g (ap (λ (s : Shape). meeting s (constant_of d u).shape) a.shape ∙ ap (meeting Single) b.shape) (met_either d t f (inl a)) (met_either d u g (inl b))

-- ---- products and sums

number_level : (d : Context) (b : Bool) (tree : Tree) → IsNumber (one_bit b) tree → IsLevel d (term_of d.known tree) (Const b)
number_level d b tree is =
    subst (λ (t : Tree). IsLevel d (term_of d.known t) (Const b)) (sym is.1) (record { level = b; shape = refl; number = refl; bits = refl; formula = refl })

module _ (d : Context) (leaf_of : PinLiteral → Leaf) where
  abbrev and_literal : Formula → PinLiteral → Formula
  and_literal f k = (make_and f (literal_formula leaf_of k)).what

  literals_bit : (ls : List PinLiteral) (left tree : Tree) (f : Formula) → AllByRecursion (ReadsLeaf d leaf_of) ls → IsBit d (term_of d.known left) f
      → IsJoined binary.And IsLiteral left ls tree → IsBit d (term_of d.known tree) (fold and_literal f ls)
  literals_bit [] left tree f reads bit is = subst (λ (t : Tree). IsBit d (term_of d.known t) f) (sym is) bit
  literals_bit (l ∷ ls) left tree f reads bit is =
      let right = literal_bit d leaf_of l is.1 reads.0 is.2 in
      let both = and_both_bits d (term_of d.known left) (term_of d.known is.1) f (literal_formula leaf_of l) bit right in
      literals_bit ls (ABinary binary.And is.0 left is.1) tree (and_literal f l) reads.1 both is.3

  product_either : (p : List PinLiteral) (tree : Tree) → AllByRecursion (ReadsLeaf d leaf_of) p → IsProduct p tree → IsEither d (term_of d.known tree) (product_formula leaf_of p)
  product_either [] tree reads is = inr (number_level d true tree is)
  product_either (l ∷ ls) tree reads is = inl (literals_bit ls is.0 tree (literal_formula leaf_of l) reads.1 (literal_bit d leaf_of l is.0 reads.0 is.1) is.2)

  abbrev or_product : Formula → List PinLiteral → Formula
  or_product f q = (make_or f (product_formula leaf_of q)).what

  products_either : (ps : List (List PinLiteral)) (left tree : Tree) (f : Formula) → AllByRecursion (AllByRecursion (ReadsLeaf d leaf_of)) ps → IsEither d (term_of d.known left) f
      → IsJoined binary.Or IsProduct left ps tree → IsEither d (term_of d.known tree) (fold or_product f ps)
  products_either [] left tree f reads either is = subst (λ (t : Tree). IsEither d (term_of d.known t) f) (sym is) either
  products_either (p ∷ ps) left tree f reads either is =
      let right = product_either p is.1 reads.0 is.2 in
      let both = or_either d (term_of d.known left) (term_of d.known is.1) f (product_formula leaf_of p) either right in
      products_either ps (ABinary binary.Or is.0 left is.1) tree (or_product f p) reads.1 both is.3

  sum_either : (ps : List (List PinLiteral)) (tree : Tree) → AllByRecursion (AllByRecursion (ReadsLeaf d leaf_of)) ps → IsSum ps tree → IsEither d (term_of d.known tree) (sum_formula leaf_of ps)
  sum_either [] tree reads is = inr (number_level d false tree is)
  sum_either (p ∷ ps) tree reads is = products_either ps is.0 tree (product_formula leaf_of p) reads.1 (product_either p is.0 reads.0 is.1) is.2

pub sums : SumsHaveFormulas
sums d leaf_of ps tree reads is = word_is d (term_of d.known tree) (sum_formula leaf_of ps) (sum_either d leaf_of ps tree reads is)
