-- What values read: a signal at all, and a leaf under an extension at the signals that have none (ABEL-HDL Reference
-- Manual, constants and extensions; that only leaves make nodes is this project's rule).
use Rattle.std.specs.Prelude.{◌≡◌, ℕ, Bool, true, false, ◌||◌, Option, None, Some, List, [], ◌∷◌}
use Rattle.expr_bits.specs.Prelude.{list_any, Extension, innermost, Context, Source, Zero, LeafRead, source_of, Term, Terms, Known, term_named, range_names}
use Rattle.abel_tree.specs.declared.words.Extension.TheVariants as extension
use Rattle.abel_tree.specs.declared.words.Word.{Word}
use Rattle.abel_meaning.specs.Terms as term
use Rattle.name_uses.specs.NamesUsed.{UsedName}
use Rattle.expr_bits.specs.declared.reads.Reads.{Reads}

-- some read passes, by its signal and its extension, or that under which it is
abbrev mutual
  pub some_read : (passes : ℕ → Option Extension → Bool) → Option Extension → Term → Bool
  some_read passes e (term.Number n) = false
  some_read passes e term.X = false
  some_read passes e term.Pulse = false
  some_read passes e term.Release = false
  some_read passes e (term.Read s own) = passes s (innermost own e)
  some_read passes e (term.Set ts) = some_of_read passes e ts
  some_read passes e (term.UnaryOf sign t) = some_read passes e t
  some_read passes e (term.BinaryOf sign t u) = some_read passes e t || some_read passes e u

  pub some_of_read : (passes : ℕ → Option Extension → Bool) → Option Extension → Terms → Bool
  some_of_read passes e term.NoTerm = false
  some_of_read passes e (term.Before t ts) = some_read passes e t || some_of_read passes e ts

-- some signal is read, whether or not the value depends on it
abbrev pub reads_signal : Term → Bool
reads_signal t = some_read (λ s e. true) None t

abbrev pub any_reads_signal : Terms → Bool
any_reads_signal ts = some_of_read (λ s e. true) None ts

abbrev pub is_leaf : Source → Bool
is_leaf Zero = false
is_leaf (LeafRead complement leaf) = true

-- some leaf is read under an extension
abbrev pub reads_leaf : Context → Option Extension → Term → Bool
reads_leaf d e t = some_read (λ s f. is_leaf (source_of d s f)) e t

abbrev pub any_reads_leaf : Context → Option Extension → Terms → Bool
any_reads_leaf d e ts = some_of_read (λ s f. is_leaf (source_of d s f)) e ts

-- ---- what may be asked of a term

-- whether it reads a signal at all, and whether a leaf under an extension
pub data Asked : Type 0 where
  ASignal : Asked
  ALeaf : Option Extension → Asked

abbrev pub answer_of : Context → Asked → Term → Bool
answer_of d ASignal t = reads_signal t
answer_of d (ALeaf e) t = reads_leaf d e t

-- what it asks of a term inside an extension
abbrev pub inside : Option Extension → Asked → Asked
inside own ASignal = ASignal
inside own (ALeaf e) = ALeaf (innermost own e)

-- ---- by the names that an expression uses

abbrev pub names_to : Word → Option Word → List (List ℕ)
names_to first None = first.text ∷ []
names_to first (Some last) = range_names first.text last.text

abbrev pub named_answer : Context → List Known → Asked → List ℕ → Bool
named_answer d known q name = answer_of d q (term_named known name)

abbrev pub used_answer : Context → List Known → Asked → UsedName → Bool
used_answer d known q u = list_any (named_answer d known (inside u.extension q)) (names_to u.first u.last)

-- ---- as the code has it

abbrev pub no_reads : Reads
no_reads = record { signal = false; bare = false; q = false; fb = false; pin = false; control = false }

abbrev pub leaf_under : Reads → Option Extension → Bool
leaf_under r None = r.bare
leaf_under r (Some extension.Q) = r.q
leaf_under r (Some extension.Fb) = r.fb
leaf_under r (Some extension.Pin) = r.pin
leaf_under r (Some _) = r.control

abbrev pub told_by : Reads → Asked → Bool
told_by r ASignal = r.signal
told_by r (ALeaf e) = leaf_under r e

abbrev pub Finds : Reads → (Asked → Bool) → Type 0
Finds r answers = (q : Asked) → told_by r q ≡ answers q

abbrev pub IsReads : Context → Reads → Term → Type 0
IsReads d r t = Finds r (λ q. answer_of d q t)
