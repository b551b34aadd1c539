-- Rows by the places of their names, and bits that are kept: built alone, the same under each extension with which no leaf is read.
use Rattle.std.proofs.Common.{◌≡◌, ℕ, zero, suc, ◌+◌, ◌<◌, Option, None, Some, List, [], ◌∷◌, ◌++◌, get_or, length, slice_get, take, refl, sym, ap, ◌∙◌, subst, arith, Ok, ap₂, ◌||◌, Bool, true, false}
use Rattle.expr_bits.proofs.Common.{slice_get_within, slice_get-get_or, Table, Names, Entry, entries_of, find, Context, name_at, no_name, Read, known_of, term_meant, term_named, context_for, Reads, IsReads, here_term, AreRows, IsRow, reads_at, reads_of_row, ExprId, Node, arena, arena_count, low_formula, Term, AllIn, word_at, Makes, Bits, Part, IsPart, term_part, IsKept, Made, free, ◌>>=◌, Extension, bits_of_all, make_source, Source, Zero, LeafRead, source_of, source_value, Terms, NoTerm, Before, extended, extended_each, extended_if, bit_value, empty_point, set_value, with_value, under_part, both_part, joined_part, any_reads_leaf, is_leaf, reads_leaf}
use Rattle.expr_bits.specs.declared.rows.Row.{Row}
use Rattle.expr_bits.proofs.NamesBefore.{here_is, named_past, none_past}
use Rattle.expr_bits.proofs.ReadLaws.{nothing_read}
use Rattle.abel_meaning.specs.Terms as term
use Rattle.expr_bits.proofs.Extensions.{all_extended, both_extended, first_extended, set_extended, under_extended}

-- what the row of a name is that of
abbrev pub IsRowOf : List Entry → Context → (k : ℕ) → Row → Type 0
IsRowOf es d k r = IsRow d r (here_term es k (slice_get es k))

row_from : (es : List Entry) (d : Context) (k : ℕ) (rs : List Row) (i : ℕ) (r : Row) → AreRows es d k rs → slice_get rs i ≡ Some r → IsRowOf es d (k + i) r
row_from es d k [] i r h e = absurd cc
row_from es d k (x ∷ rs) zero r h e =
    let here : x ≡ r = cc in
    subst (λ j. IsRowOf es d j r) (omega arith) (subst (IsRowOf es d k) here h.0)
row_from es d k (x ∷ rs) (suc i) r h e = subst (λ j. IsRowOf es d j r) (omega arith) (row_from es d (suc k) rs i r h.1 e)

row_got : (es : List Entry) (d : Context) (rs : List Row) (i : ℕ) (r : Row) → AreRows es d 0 rs → slice_get rs i ≡ Some r → IsRowOf es d i r
row_got es d rs i r h e = subst (λ j. IsRowOf es d j r) (omega arith) (row_from es d 0 rs i r h e)

pub row_here : (es : List Entry) (d : Context) (rs : List Row) (i : ℕ) (r : Row) → AreRows es d 0 rs → i < length rs → r ≡ get_or rs i r → IsRowOf es d i r
row_here es d rs i r h lt e = row_got es d rs i r h (slice_get-get_or rs i r lt ∙ ap Some (sym e))

-- what a name reads, of the first names
pub named_reads : (es : List Entry) (d : Context) (rs : List Row) (w : List ℕ) (k : ℕ) → AreRows es d 0 rs → find es w ≡ Some k → IsReads d (reads_at rs k) (term_named (known_of (take (length rs) es)) w)
named_reads es d rs w k h f = by (slice_get rs k) refl
  where
    by : (o : Option Row) → slice_get rs k ≡ o → IsReads d (reads_of_row o) (term_named (known_of (take (length rs) es)) w)
    by None e = subst (IsReads d (reads_of_row None)) (sym (named_past (length rs) k es w f (none_past rs k e))) (nothing_read d 0)
    by (Some r) e = subst (IsReads d r.reads) (sym (here_is (length rs) k es w f (slice_get_within rs k r e))) (row_got es d rs k r h e).0

-- the row of a signal
pub name_here : (t : Table) (n : Names) (k : ℕ) (x : Entry) → slice_get (entries_of n) k ≡ Some x → name_at (context_for t n) k ≡ x
name_here t n k x e =
    let there = slice_get-get_or (entries_of n) k no_name (slice_get_within (entries_of n) k x e) in
    inside (sym there ∙ e)
  where
    inside : {a b : Entry} → Some a ≡ Some b → a ≡ b
    inside e = cc

pub signal_row : (t : Table) (n : Names) (k : ℕ) (x : Entry) (r : Row) (s : Reads) → slice_get (entries_of n) k ≡ Some x → term_meant (known_of (take k (entries_of n))) k x.kind ≡ Read k None → r ≡ record { reads = s; bits = None } → IsReads (context_for t n) s (Read k None) → IsRowOf (entries_of n) (context_for t n) k r
signal_row t n k x r s e meant is reads = rw (is, e) (subst (IsRow (context_for t n) (record { reads = s; bits = None })) (sym meant) (reads, tt))

-- one row more
pub row_more : (es : List Entry) (d : Context) (k : ℕ) (rs : List Row) (r : Row) → AreRows es d k rs → IsRowOf es d (k + length rs) r → AreRows es d k (rs ++ r ∷ [])
row_more es d k [] r h g = (subst (λ j. IsRowOf es d j r) (omega arith) g, tt)
row_more es d k (x ∷ rs) r h g = (h.0, row_more es d (suc k) rs r h.1 (subst (λ j. IsRowOf es d j r) (omega arith) g))

-- ---- bits of an arena without nodes

low_in : (ns : List Node) (ids : List ExprId) → AllIn 2 ids → AllIn (length (arena ns)) ids
low_in ns [] h = tt
low_in ns (i ∷ is) h = (omega (arith, arena_count ns, h.0), low_in ns is h.1)

low_word : (old ns : List Node) (ids : List ExprId) → AllIn 2 ids → word_at (arena ns) ids ≡ word_at (arena old) ids
low_word old ns [] h = refl
low_word old ns (i ∷ is) h = ap₂ (λ f fs. f ∷ fs) (sym (low_formula ns i.0 h.0) ∙ low_formula old i.0 h.0) (low_word old ns is h.1)

anywhere : (old ns : List Node) (b : Bits) (p : Part) → length (arena old) ≡ 2 → IsPart (arena old) b p → IsPart (arena ns) b p
anywhere old ns b p e is =
    let low : AllIn 2 b.word = subst (λ n. AllIn n b.word) e is.word.0 in
    record {
      form = is.form;
      unknown = is.unknown;
      positions = is.positions;
      word = (low_in ns b.word low, low_word old ns b.word low ∙ is.word.1);
    }

-- what is built alone without a node is kept
pub kept_alone : (d : Context) (new : List Node) (b : Bits) (t : Term) → length new ≡ 0 → Makes IsPart [] new (Ok b) (term_part d t) → IsKept d b t
kept_alone d new b t none made =
    record {
      free = omega (arith, none, made.grew.count, arena_count [], arena_count new);
      shows = λ ns. anywhere new ns b (term_part d t).what (omega (arith, none, arena_count new)) made.shows;
    }

neither : (a b : Bool) → (a || b) ≡ false → (a ≡ false) × (b ≡ false)
neither false b h = (refl, h)
neither true b h = absurd cc

zero_of : (s : Source) → is_leaf s ≡ false → s ≡ Zero
zero_of Zero h = refl
zero_of (LeafRead c l) h = absurd cc

-- ---- it amounts to the same

read_alike : (d : Context) (s : ℕ) (e f : Option Extension) → is_leaf (source_of d s e) ≡ false → is_leaf (source_of d s f) ≡ false → term_part d (term.Read s e) ≡ term_part d (term.Read s f)
read_alike d s e f h k =
    ap (λ x. with_value (bit_value (source_value empty_point x)) (make_source x >>= λ g. free (g ∷ [])))
    (zero_of (source_of d s e) h ∙ sym (zero_of (source_of d s f) k))

abbrev set_part : Context → Terms → Made Part
set_part d ts = with_value (set_value d empty_point ts) (bits_of_all d ts)

mutual
  alike : (d : Context) (e : Extension) (f : Option Extension) (t : Term) → reads_leaf d (Some e) t ≡ false → reads_leaf d f t ≡ false → term_part d (extended e t) ≡ term_part d (extended_if f t)
  alike d e None (term.Number n) h k = refl
  alike d e None (term.Read s None) h k = read_alike d s (Some e) None h k
  alike d e (Some f) (term.Read s None) h k = read_alike d s (Some e) (Some f) h k
  alike d e f (term.Set ts) h k = all_alike d e f ts h k ∙ ap (term_part d) (sym (set_extended f ts))
  alike d e f (term.UnaryOf sign t) h k = ap (λ m. m >>= under_part sign) (alike d e f t h k) ∙ ap (term_part d) (under_extended f sign t)
  alike d e f (term.BinaryOf sign t u) h k =
      let x = neither (reads_leaf d (Some e) t) (reads_leaf d (Some e) u) h in
      let y = neither (reads_leaf d f t) (reads_leaf d f u) k in
      ap₂ (λ m n. m >>= λ p. n >>= both_part sign p) (alike d e f t x.0 y.0) (alike d e f u x.1 y.1) ∙ ap (term_part d) (both_extended f sign t u)
  alike d e _ _ h k = refl

  all_alike : (d : Context) (e : Extension) (f : Option Extension) (ts : Terms) → any_reads_leaf d (Some e) ts ≡ false → any_reads_leaf d f ts ≡ false → set_part d (extended_each e ts) ≡ set_part d (all_extended f ts)
  all_alike d e None NoTerm h k = refl
  all_alike d e (Some f) NoTerm h k = refl
  all_alike d e f (Before t ts) h k =
      let x = neither (reads_leaf d (Some e) t) (any_reads_leaf d (Some e) ts) h in
      let y = neither (reads_leaf d f t) (any_reads_leaf d f ts) k in
      ap₂ (λ m n. m >>= λ p. n >>= λ q. free (joined_part p q)) (alike d e f t x.0 y.0) (all_alike d e f ts x.1 y.1) ∙ ap (set_part d) (first_extended f t ts)

-- bits that are kept under one are so under another
pub kept_under : (d : Context) (e : Extension) (f : Option Extension) (t : Term) (b : Bits) → reads_leaf d (Some e) t ≡ false → IsKept d b (extended e t) → reads_leaf d f t ≡ false → IsKept d b (extended_if f t)
kept_under d e f t b h kept k =
    let same = alike d e f t h k in
    record { free = sym (ap (λ (m : Made Part). m.nodes) same) ∙ kept.free; shows = λ ns. subst (λ (m : Made Part). IsPart (arena ns) b m.what) same (kept.shows ns) }
