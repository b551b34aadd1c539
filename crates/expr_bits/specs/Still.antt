-- Private: constants that make no node (this project's rule).
use Rattle.std.specs.Prelude.{◌≡◌, ℕ, suc, false, Option, None, Some, List, [], ◌∷◌, slice_get}
use Rattle.expr_bits.specs.Prelude.{Node, arena, Extension, Entry, Context, bits_of, Term, extended_if}
use Rattle.expr_bits.specs.declared.forms.Bits.{Bits}
use Rattle.expr_bits.specs.Parts.{IsPart}
use Rattle.expr_bits.specs.declared.rows.Row.{Row}
use Rattle.expr_bits.specs.declared.reads.Reads.{Reads}
use Rattle.expr_bits.specs.Reads.{IsReads, no_reads, reads_leaf}
use Rattle.expr_bits.specs.Stacks.{here_term}
use Rattle.expr_bits.specs.Steps.{term_part}

-- in every arena, the bits are those of a term, which makes no node
pub record IsKept (d : Context) (b : Bits) (t : Term) : Type 0 where
  pub free : (bits_of d t).nodes ≡ 0
  pub shows : (ns : List Node) → IsPart (arena ns) b (term_part d t).what

-- under each extension with which a term reads no leaf
abbrev pub IsKeptUnder : Context → Bits → Term → Type 0
IsKeptUnder d b t = (e : Option Extension) → reads_leaf d e t ≡ false → IsKept d b (extended_if e t)

abbrev pub IsKeptIf : Context → Option Bits → Term → Type 0
IsKeptIf d None t = Unit {0}
IsKeptIf d (Some b) t = IsKeptUnder d b t

-- a row is that of a term
abbrev pub IsRow : Context → Row → Term → Type 0
IsRow d r t = IsReads d r.reads t × IsKeptIf d r.bits t

-- rows are those of the names from the number k on
abbrev pub AreRows : List Entry → Context → (k : ℕ) → List Row → Type 0
AreRows es d k [] = Unit {0}
AreRows es d k (r ∷ rs) = IsRow d r (here_term es k (slice_get es k)) × AreRows es d (suc k) rs

abbrev pub reads_of_row : Option Row → Reads
reads_of_row None = no_reads
reads_of_row (Some r) = r.reads

abbrev pub reads_at : List Row → ℕ → Reads
reads_at rs k = reads_of_row (slice_get rs k)
