-- The bit formulas of an expression, position 0 first (this project's rule).
use Rattle.std.specs.Prelude.{ℕ, zero, suc, Bool, true, false, List, [], ◌∷◌, ◌++◌, map, reverse, replicate}
use Rattle.abel_meaning.specs.Prelude.{Leaf, Made, free, fresh, ◌>>=◌, make_not, make_and, make_or, Formula, Const, Read, Binary}
use Rattle.abel_meaning.specs.Terms.{Term, Terms}
use Rattle.abel_meaning.specs.Terms as term
use Rattle.abel_meaning.specs.Designs.{Context}
use Rattle.abel_meaning.specs.Sources.{Source, Zero, LeafRead, source_of}
use Rattle.abel_meaning.specs.Numbers.{Shape, Number, Single, Set, width_of, member_width, meeting, Value, met_unknown, either_unknown, digits_low_first}
use Rattle.abel_meaning.specs.Values.{is_relation, constant_of}
use Rattle.abel_meaning.specs.Contributions.{Evaluator}
use Rattle.abel_meaning.specs.BitWords.{Word, unary_word, relation_bit, operator_bits}

-- a read makes a leaf, and a Not if it reads the complement
abbrev pub make_held : (complement : Bool) → Leaf → Made Formula
make_held false leaf = fresh (Read leaf)
make_held true leaf = fresh (Read leaf) >>= make_not

-- what is read; the value 0 makes nothing
abbrev pub make_source : Source → Made Formula
make_source Zero = free (Const false)
make_source (LeafRead complement leaf) = make_held complement leaf

-- the first w positions, filled with zeros
abbrev pub resized : ℕ → Word → Word
resized zero xs = []
resized (suc w) [] = Const false ∷ resized w []
resized (suc w) (x ∷ xs) = x ∷ resized w xs

-- a word in w positions, by shape: a number's digits, one bit spread; a set has w bits, or is refused
abbrev pub met_by : ℕ → Shape → (number : ℕ) → Word → Word
met_by w Number n xs = map Const (digits_low_first w n)
met_by w Single n [] = []
met_by w Single n (x ∷ xs) = replicate w x
met_by w (Set v) n xs = resized w xs

-- a word of a value in w positions
abbrev pub met_word : ℕ → Value → Word → Word
met_word w v xs = met_by w v.shape v.number xs

-- the positions that are not dropped
abbrev pub kept_bits : (dropped : List Bool) → Word → Word
kept_bits [] xs = []
kept_bits (b ∷ bs) [] = []
kept_bits (true ∷ bs) (x ∷ xs) = kept_bits bs xs
kept_bits (false ∷ bs) (x ∷ xs) = x ∷ kept_bits bs xs

-- a relation of w bits without the dropped positions
abbrev pub relation_word : Binary → (w : ℕ) → (dropped : List Bool) → Word → Word → Made Word
relation_word sign w dropped xs ys =
    relation_bit sign (kept_bits dropped xs) (kept_bits dropped ys) >>= λ f. free (f ∷ [])

-- two numbers compute without bits
abbrev pub operator_word : Binary → Shape → Word → Word → Made Word
operator_word sign Number xs ys = free []
operator_word sign Single xs ys = operator_bits sign xs ys
operator_word sign (Set w) xs ys = operator_bits sign xs ys

-- an operator that is a relation or not
abbrev pub binary_word : (relation : Bool) → Binary → Shape → Value → Value → Word → Word → Made Word
binary_word true sign shape v u xs ys =
    relation_word sign (width_of shape) (either_unknown (met_unknown (width_of shape) v) (met_unknown (width_of shape) u))
    (met_word (width_of shape) v xs) (met_word (width_of shape) u ys)
binary_word false sign shape v u xs ys =
    operator_word sign shape (met_word (width_of shape) v xs) (met_word (width_of shape) u ys)

-- the bits of a term; a number has none, and an X position has 0
abbrev mutual
  pub bits_of : Context → Term → Made Word
  bits_of d (term.Number n) = free []
  bits_of d term.X = free (Const false ∷ [])
  bits_of d term.Pulse = free []
  bits_of d term.Release = free []
  bits_of d (term.Read s e) = make_source (source_of d s e) >>= λ f. free (f ∷ [])
  bits_of d (term.Set ts) = bits_of_all d ts
  bits_of d (term.UnaryOf sign t) = bits_of d t >>= unary_word sign
  bits_of d (term.BinaryOf sign t u) =
      bits_of d t >>= λ xs. bits_of d u >>= λ ys.
      binary_word (is_relation sign) sign (meeting (constant_of d t).shape (constant_of d u).shape)
      (constant_of d t) (constant_of d u) xs ys

  pub bits_of_all : Context → Terms → Made Word
  bits_of_all d term.NoTerm = free []
  bits_of_all d (term.Before t ts) =
      bits_of d t >>= λ xs. bits_of_all d ts >>= λ ys.
      free (ys ++ met_word (member_width (constant_of d t).shape) (constant_of d t) xs)

-- terms as folded formulas
abbrev pub formulas : Context → Evaluator Formula
formulas d =
    record {
      constant = Const;
      not = λ f. (make_not f).what;
      both = λ f g. (make_and f g).what;
      either = λ f g. (make_or f g).what;
      word = λ w t. reverse (met_word w (constant_of d t) (bits_of d t).what);
    }
