-- What reads no signal makes no node: each of its bits is a level.
use Rattle.std.proofs.Common.{◌≡◌, ℕ, zero, suc, Bool, true, false, List, [], ◌∷◌, ◌++◌, map, reverse, replicate, Result, Ok, Err, refl, arith}
use Rattle.state_diagrams.proofs.Common.{Const, Formula, free, ◌>>=◌, make_and, make_not, reverse-append, Context, bits_of, digits_low_first, width_of, Value, Term, Terms, constant_of, term_of, Tree, Node}
use Rattle.state_diagrams.proofs.LevelWords.{IsLevel, AreLevels, IsStill, then_still, not_still, and_still, or_still, xor_still, xnor_still, nots_still, zeros, positions_still, sums_still, difference_still, equals_still, lesses_still}
use Rattle.state_diagrams.proofs.NumberLaws.{neither}
use Rattle.abel_meaning.specs.BitWords.{Word, equal_bits, less_bits, operator_bits, relation_bit, unary_word}
use Rattle.abel_meaning.specs.FormulaBits.{bits_of_all, binary_word, kept_bits, met_by, met_word, operator_word, resized}
use Rattle.abel_meaning.specs.Numbers as number
use Rattle.abel_meaning.specs.Numbers.{either_unknown, meeting, member_width, met_unknown}
use Rattle.abel_meaning.specs.Terms as term
use Rattle.abel_meaning.specs.Values.{is_relation}
use Rattle.abel_tree.specs.declared.words.Binary.{Binary}
use Rattle.abel_tree.specs.declared.words.Binary.TheVariants as binary
use Rattle.abel_tree.specs.declared.words.Unary.{Unary}
use Rattle.abel_tree.specs.declared.words.Unary.TheVariants as unary
unfoldable use Rattle.bit_expr.specs.Folding.{make_or, make_xor}
use Rattle.bit_expr.specs.declared.fault.ExprFault.{ExprFault}
use Rattle.bit_expr.specs.declared.fault.ExprFault.TheVariants as fault
use Rattle.expr_bits.specs.ExpressionBits.{MakesBits}
use Rattle.expr_bits.specs.Reads.{reads_signal, any_reads_signal}
use Rattle.set_expr.specs.declared.shaped.Shaped.{Shaped}

-- ---- words that are cut, filled, spread or joined

joined : (xs ys : Word) → AreLevels xs → AreLevels ys → AreLevels (xs ++ ys)
joined [] ys l m = m
joined (x ∷ xs) ys l m = (l.0, joined xs ys l.1 m)

reversed : (xs : Word) → AreLevels xs → AreLevels (reverse xs)
reversed [] l = tt
reversed (x ∷ xs) l = rw (reverse-append (x ∷ []) xs) (joined (reverse xs) (x ∷ []) (reversed xs l.1) (l.0, tt))

constants : (bs : List Bool) → AreLevels (map Const bs)
constants [] = tt
constants (b ∷ bs) = (tt, constants bs)

spread : (w : ℕ) (x : Formula) → IsLevel x → AreLevels (replicate w x)
spread zero x l = tt
spread (suc w) x l = (l, spread w x l)

filled : (w : ℕ) (xs : Word) → AreLevels xs → AreLevels (resized w xs)
filled zero xs l = tt
filled (suc w) [] l = (tt, filled w [] tt)
filled (suc w) (x ∷ xs) l = (l.0, filled w xs l.1)

some_kept : (dropped : List Bool) (xs : Word) → AreLevels xs → AreLevels (kept_bits dropped xs)
some_kept [] xs l = tt
some_kept (b ∷ bs) [] l = tt
some_kept (true ∷ bs) (x ∷ xs) l = some_kept bs xs l.1
some_kept (false ∷ bs) (x ∷ xs) l = (l.0, some_kept bs xs l.1)

met_levels : (w : ℕ) (s : number.Shape) (n : ℕ) (xs : Word) → AreLevels xs → AreLevels (met_by w s n xs)
met_levels w number.Number n xs l = constants (digits_low_first w n)
met_levels w number.Single n [] l = tt
met_levels w number.Single n (x ∷ xs) l = spread w x l.0
met_levels w (number.Set v) n xs l = filled w xs l

-- ---- operators

unary_still : (sign : Unary) (xs : Word) → AreLevels xs → IsStill AreLevels (unary_word sign xs)
unary_still unary.Not xs l = nots_still xs l
unary_still unary.Minus xs l = difference_still (map (λ x. Const false) xs) xs (zeros xs) l

relation_still : (sign : Binary) (xs ys : Word) → AreLevels xs → AreLevels ys → IsStill IsLevel (relation_bit sign xs ys)
relation_still binary.Equal xs ys l m = equals_still (Const true) (reverse xs) (reverse ys) tt (reversed xs l) (reversed ys m)
relation_still binary.Unequal xs ys l m =
    then_still IsLevel IsLevel (equal_bits (Const true) (reverse xs) (reverse ys)) make_not (equals_still (Const true) (reverse xs) (reverse ys) tt (reversed xs l) (reversed ys m)) not_still
relation_still binary.Less xs ys l m = lesses_still (Const false) xs ys tt l m
relation_still binary.Greater xs ys l m = lesses_still (Const false) ys xs tt m l
relation_still binary.LessEqual xs ys l m = then_still IsLevel IsLevel (less_bits (Const false) ys xs) make_not (lesses_still (Const false) ys xs tt m l) not_still
relation_still binary.GreaterEqual xs ys l m = then_still IsLevel IsLevel (less_bits (Const false) xs ys) make_not (lesses_still (Const false) xs ys tt l m) not_still
relation_still _ xs ys l m = (refl, tt)

operator_still : (sign : Binary) (xs ys : Word) → AreLevels xs → AreLevels ys → IsStill AreLevels (operator_bits sign xs ys)
operator_still binary.And xs ys l m = positions_still make_and and_still xs ys l m
operator_still binary.Or xs ys l m = positions_still make_or or_still xs ys l m
operator_still binary.Xor xs ys l m = positions_still make_xor xor_still xs ys l m
operator_still binary.Xnor xs ys l m = positions_still (λ x y. make_xor x y >>= make_not) xnor_still xs ys l m
operator_still binary.Plus xs ys l m = sums_still xs ys (Const false) l m tt
operator_still binary.Minus xs ys l m = difference_still xs ys l m
operator_still _ xs ys l m = (refl, zeros xs)

shaped_still : (sign : Binary) (s : number.Shape) (xs ys : Word) → AreLevels xs → AreLevels ys → IsStill AreLevels (operator_word sign s xs ys)
shaped_still sign number.Number xs ys l m = (refl, tt)
shaped_still sign number.Single xs ys l m = operator_still sign xs ys l m
shaped_still sign (number.Set w) xs ys l m = operator_still sign xs ys l m

binary_still : (r : Bool) (sign : Binary) (s : number.Shape) (v u : Value) (xs ys : Word) → AreLevels xs → AreLevels ys → IsStill AreLevels (binary_word r sign s v u xs ys)
binary_still true sign s v u xs ys l m =
    let w = width_of s in
    let dropped = either_unknown (met_unknown w v) (met_unknown w u) in
    let ls = kept_bits dropped (met_word w v xs) in
    let rs = kept_bits dropped (met_word w u ys) in
    then_still IsLevel AreLevels (relation_bit sign ls rs) (λ f. free (f ∷ []))
    (relation_still sign ls rs (some_kept dropped (met_word w v xs) (met_levels w v.shape v.number xs l)) (some_kept dropped (met_word w u ys) (met_levels w u.shape u.number ys m)))
    (λ f k. (refl, (k, tt)))
binary_still false sign s v u xs ys l m =
    let w = width_of s in
    shaped_still sign s (met_word w v xs) (met_word w u ys) (met_levels w v.shape v.number xs l) (met_levels w u.shape u.number ys m)

-- ---- terms

mutual
  term_still : (d : Context) (t : Term) → reads_signal t ≡ false → IsStill AreLevels (bits_of d t)
  term_still d (term.Read s e) h = absurd cc
  term_still d term.X h = (refl, (tt, tt))
  term_still d (term.Set ts) h = terms_still d ts h
  term_still d (term.UnaryOf sign t) h = then_still AreLevels AreLevels (bits_of d t) (unary_word sign) (term_still d t h) (unary_still sign)
  term_still d (term.BinaryOf sign t u) h =
      let n = neither (reads_signal t) (reads_signal u) h in
      let v = constant_of d t in
      let x = constant_of d u in
      let last = λ (xs ys : Word). binary_word (is_relation sign) sign (meeting v.shape x.shape) v x xs ys in
      then_still AreLevels AreLevels (bits_of d t) (λ xs. bits_of d u >>= λ ys. last xs ys) (term_still d t n.0) (λ xs i.
      then_still AreLevels AreLevels (bits_of d u) (λ ys. last xs ys) (term_still d u n.1) (λ ys j.
      binary_still (is_relation sign) sign (meeting v.shape x.shape) v x xs ys i j))
  term_still d _ h = (refl, tt)

  terms_still : (d : Context) (ts : Terms) → any_reads_signal ts ≡ false → IsStill AreLevels (bits_of_all d ts)
  terms_still d term.NoTerm h = (refl, tt)
  terms_still d (term.Before t ts) h =
      let n = neither (reads_signal t) (any_reads_signal ts) h in
      let v = constant_of d t in
      let w = member_width v.shape in
      then_still AreLevels AreLevels (bits_of d t) (λ xs. bits_of_all d ts >>= λ ys. free (ys ++ met_word w v xs)) (term_still d t n.0) (λ xs i.
      then_still AreLevels AreLevels (bits_of_all d ts) (λ ys. free (ys ++ met_word w v xs)) (terms_still d ts n.1) (λ ys j.
      (refl, joined ys (met_word w v xs) j (met_levels w v.shape v.number xs i))))

-- no limit is passed
pub never_past : (d : Context) (t : Tree) (old new : List Node) (r : Result Shaped ExprFault) (f : ExprFault) → reads_signal (term_of d.known t) ≡ false → MakesBits d t old new r → r ≡ Err f → f ≡ fault.NodeLimit → ⊥
never_past d t old new (Ok s) f still made e k = absurd cc
never_past d t old new (Err fault.OutOfMemory) f still made e k = absurd cc
never_past d t old new (Err fault.NodeLimit) f still made e k = let none = (term_still d (term_of d.known t) still).0 in omega (arith, made.1.0, none)
