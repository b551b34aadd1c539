-- What the contributions of a module read: the walk over its sections, with the signals that terms use in place of
-- their values (this project's rule).
use Rattle.std.specs.Prelude.{ℕ, Bool, false, Option, List, [], ◌∷◌, ◌++◌, replicate}
use Rattle.netlist_laws.specs.Prelude.{list_any, Leaf, same_leaf, Extension, Evaluator, Contribution, Context, Design}
use Rattle.abel_meaning.specs.Sections.{contributions}
use Rattle.abel_meaning.specs.Sources.{Source, Zero, LeafRead, source_of}
use Rattle.abel_meaning.specs.Terms.{Term, Terms, Number, X, Pulse, Release, Read, Set, UnaryOf, BinaryOf, NoTerm, Before}

-- a signal if an expression reads it, with what is asked of it
pub record SignalUse : Type 0 where
  pub signal : ℕ
  pub extension : Option Extension

-- the reads of a term, from the left
abbrev mutual
  pub term_uses : Term → List SignalUse
  term_uses (Number n) = []
  term_uses X = []
  term_uses Pulse = []
  term_uses Release = []
  term_uses (Read s e) = record { signal = s; extension = e } ∷ []
  term_uses (Set ts) = all_term_uses ts
  term_uses (UnaryOf sign t) = term_uses t
  term_uses (BinaryOf sign t u) = term_uses t ++ term_uses u

  pub all_term_uses : Terms → List SignalUse
  all_term_uses NoTerm = []
  all_term_uses (Before t ts) = term_uses t ++ all_term_uses ts

-- terms as what they read, whether or not the value depends on it
abbrev pub reads_of_terms : Evaluator (List SignalUse)
reads_of_terms =
    record {
      constant = λ b. [];
      not = λ us. us;
      both = λ us vs. us ++ vs;
      either = λ us vs. us ++ vs;
      word = λ w t. replicate w (term_uses t);
    }

-- what each contribution reads, in its guards and its value
abbrev pub given_uses : Design → List (Contribution (List SignalUse))
given_uses d = contributions reads_of_terms d

-- what is read is this leaf, or its complement
abbrev pub holds_leaf : Source → Leaf → Bool
holds_leaf Zero l = false
holds_leaf (LeafRead complement other) l = same_leaf other l

-- the use reads the leaf
abbrev pub use_reads : Context → Leaf → SignalUse → Bool
use_reads d l u = holds_leaf (source_of d u.signal u.extension) l

-- some of the uses does
abbrev pub uses_read : Context → List SignalUse → Leaf → Bool
uses_read d us l = list_any (use_reads d l) us
