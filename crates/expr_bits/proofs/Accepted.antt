-- What an accepted expression amounts to: what is X in it has the bit 0.
use Rattle.std.proofs.Common.{◌≡◌, ℕ, zero, suc, Bool, true, false, List, [], ◌∷◌, ◌++◌, length, replicate, refl, sym, ap, ◌∙◌, arith, length-append, ◌<◌, ◌≤◌, Option, None, Some, Ok, subst}
use Rattle.expr_bits.proofs.Common.{length-map, length-replicate, Formula, formula_value, Binary, Word, Context, bits_of, bits_of_all, met_by, resized, Shape, Single, Set, Value, width_of, member_width, meeting, met_unknown_by, Term, Terms, constant_of, set_value, empty_point, is_relation, binary_by, IsBlank, Node, arena, Names, entries_of, Tree, known_of, term_of, MakesBits, IsMade, IsShaped, refusal_of, SectionFault, Shaped, expression_found, Bits, Form, IsPart, HasForm, IsBits, term_part}
use Rattle.abel_meaning.specs.Terms as term
use Rattle.abel_meaning.proofs.DigitLaws.{length_digits}
use Rattle.abel_meaning.proofs.FormulasFollow.{term_agrees}
use Rattle.expr_bits.proofs.OperatedBits.{member_flags}
use Rattle.expr_bits.proofs.Links.{AllKnown, known_spread, known_binary, Sound, AllSound}
use Rattle.abel_tree.proofs.FirstRefusals.{none_refused}
use Rattle.set_expr.specs.SectionOrder.{section_order}
use Rattle.expr_bits.specs.declared.forms.Form.TheVariants as form
use Rattle.expr_bits.proofs.Linked.{IsLinkedIf, expression_linked}

-- ---- words

blank_none : (xs : List Bool) → IsBlank xs []
blank_none [] = tt
blank_none (x ∷ xs) = tt

known_blank : (xs : List Bool) (w : Word) → AllKnown xs → IsBlank xs w
known_blank (true ∷ xs) (f ∷ w) a = let e = a.0 in absurd cc
known_blank (false ∷ xs) (f ∷ w) a = known_blank xs w a.1
known_blank _ _ a = tt

blank_append : (xs ys : List Bool) (u v : Word) → length xs ≡ length u → IsBlank xs u → IsBlank ys v → IsBlank (xs ++ ys) (u ++ v)
blank_append [] ys [] v e a b = b
blank_append (true ∷ xs) ys (f ∷ u) v e a b = (a.0, blank_append xs ys u v (omega (arith, e)) a.1 b)
blank_append (false ∷ xs) ys (f ∷ u) v e a b = blank_append xs ys u v (omega (arith, e)) a b
blank_append _ ys _ v e a b = absurd (omega (arith, e))

blank_spread : (w : ℕ) (f : Formula) (x : Bool) (xs : List Bool) (u : Word) → IsBlank (x ∷ xs) (f ∷ u) → IsBlank (replicate w x) (replicate w f)
blank_spread zero f x xs u a = tt
blank_spread (suc w) f true xs u a = (a.0, blank_spread w f true xs u a)
blank_spread (suc w) f false xs u a = blank_spread w f false xs u a

blank_resized : (w : ℕ) (xs : List Bool) (u : Word) → IsBlank xs u → IsBlank xs (resized w u)
blank_resized zero xs u a = blank_none xs
blank_resized (suc w) [] u a = tt
blank_resized (suc w) (true ∷ xs) [] a = (refl, blank_resized w xs [] (blank_none xs))
blank_resized (suc w) (false ∷ xs) [] a = blank_resized w xs [] (blank_none xs)
blank_resized (suc w) (true ∷ xs) (f ∷ u) a = (a.0, blank_resized w xs u a.1)
blank_resized (suc w) (false ∷ xs) (f ∷ u) a = blank_resized w xs u a

blank_met : (w : ℕ) (s : Shape) (n : ℕ) (xs : List Bool) (u : Word) → IsBlank xs u → IsBlank (met_unknown_by w s xs) (met_by w s n u)
blank_met w Single n (x ∷ xs) [] a = blank_none (replicate w x)
blank_met w Single n (x ∷ xs) (f ∷ u) a = blank_spread w f x xs u a
blank_met w (Set v) n xs u a = blank_resized w xs u a
blank_met w _ n _ u a = known_blank (replicate w false) _ (known_spread w false refl)

-- ---- how many flags and bits a set has

abbrev FlagsLong : Value → Type 0
FlagsLong v = (k : ℕ) → v.shape ≡ Set k → length v.unknown ≡ k

flags_by : (relation : Bool) (sign : Binary) (v u : Value) → FlagsLong (binary_by relation sign v u)
flags_by true sign v u k e = absurd cc
flags_by false sign v u k e = length-replicate (width_of (meeting v.shape u.shape)) false ∙ ap width_of e

mutual
  term_flags : (d : Context) (t : Term) → FlagsLong (constant_of d t)
  term_flags d (term.Read s f) k e = absurd cc
  term_flags d (term.Set ts) k e = set_flags d ts ∙ ap width_of e
  term_flags d (term.UnaryOf sign t) k e = term_flags d t k e
  term_flags d (term.BinaryOf sign t u) k e = flags_by (is_relation sign) sign (constant_of d t) (constant_of d u) k e
  term_flags d _ k e = absurd cc

  set_flags : (d : Context) (ts : Terms) → length (set_value d empty_point ts).unknown ≡ width_of (set_value d empty_point ts).shape
  set_flags d term.NoTerm = refl
  set_flags d (term.Before t ts) =
      let c = constant_of d t in
      let rest = set_flags d ts in
      let own = member_flags c.shape c.unknown (term_flags d t) in
      length-append (set_value d empty_point ts).unknown (met_unknown_by (member_width c.shape) c.shape c.unknown) ∙ omega (arith, rest, own)

set_long : (d : Context) (ts : Terms) → length (bits_of_all d ts).what ≡ width_of (set_value d empty_point ts).shape
set_long d term.NoTerm = refl
set_long d (term.Before t ts) =
    let agrees = term_agrees d empty_point (term.Set (term.Before t ts)) in
    let v = set_value d empty_point (term.Before t ts) in
    sym (length-map (bits_of_all d (term.Before t ts)).what (formula_value empty_point)) ∙ ap length agrees.has.1 ∙ length_digits (width_of v.shape) v.number

-- ---- terms

mutual
  pub blank : (d : Context) (t : Term) → Sound d t → IsBlank (constant_of d t).unknown (bits_of d t).what
  blank d term.X s = (refl, tt)
  blank d (term.Read r e) s = tt
  blank d (term.Set ts) s = all_blank d ts s
  blank d (term.UnaryOf sign t) s = known_blank (constant_of d t).unknown _ s
  blank d (term.BinaryOf sign t u) s = known_blank _ _ (known_binary sign (constant_of d t) (constant_of d u))
  blank d _ s = tt

  all_blank : (d : Context) (ts : Terms) → AllSound d ts → IsBlank (set_value d empty_point ts).unknown (bits_of_all d ts).what
  all_blank d term.NoTerm s = tt
  all_blank d (term.Before t ts) s =
      let c = constant_of d t in
      blank_append (set_value d empty_point ts).unknown (met_unknown_by (member_width c.shape) c.shape c.unknown) (bits_of_all d ts).what (met_by (member_width c.shape) c.shape c.number (bits_of d t).what)
      (set_flags d ts ∙ sym (set_long d ts)) (all_blank d ts s.1) (blank_met (member_width c.shape) c.shape c.number c.unknown (bits_of d t).what (blank d t s.0))

-- ---- values

-- the value of what is found is sound and has few positions
found_if : (d : Context) (o : Option Value) (xs : List SectionFault) (t : Term) → (o ≡ None → ⊥) → IsLinkedIf d o xs t → Sound d t × (width_of (constant_of d t).shape ≤ 32)
found_if d None xs t h l = absurd (h refl)
found_if d (Some v) xs t h l = (l.2, subst (λ s. width_of s ≤ 32) (sym l.0.shape) l.3)

found : (n : Names) (d : Context) (t : Tree) → refusal_of n t ≡ None → d.known ≡ known_of (entries_of n) → Sound d (term_of d.known t) × (width_of (constant_of d (term_of d.known t)).shape ≤ 32)
found n d t e known =
    let l = expression_linked d (entries_of n) t in
    let f = expression_found (entries_of n) t in
    subst (λ ks. Sound d (term_of ks t) × (width_of (constant_of d (term_of ks t)).shape ≤ 32)) (sym known)
    (found_if d f.value f.specials (term_of (known_of (entries_of n)) t) (l.valued (none_refused section_order f.refusals (sym e))) l.linked)

few_by : (f : Form) (v : Value) (k : ℕ) → HasForm f v k → width_of v.shape ≤ 32 → k < 256
few_by form.Set v k h w = omega (arith, subst (λ s. width_of s ≤ 32) h w)
few_by _ v k h w = omega (arith, h.1)

-- an accepted expression has few positions
pub few : (n : Names) (d : Context) (t : Tree) (old new : List Node) (b : Bits) → refusal_of n t ≡ None → d.known ≡ known_of (entries_of n) → IsMade IsPart (arena old) (arena new) b (term_part d (term_of d.known t)) → length b.word < 256
few n d t old new b e known m = few_by b.form (constant_of d (term_of d.known t)) (length b.word) m.shows.form (found n d t e known).1

pub accepted : (n : Names) (d : Context) (t : Tree) (old new : List Node) (b : Bits) (s : Shaped) → refusal_of n t ≡ None → d.known ≡ known_of (entries_of n) → IsMade IsPart (arena old) (arena new) b (term_part d (term_of d.known t))
    → ((v : Value) → IsBits (arena new) b v (bits_of d (term_of d.known t)).what → IsBlank v.unknown (bits_of d (term_of d.known t)).what → IsShaped (arena new) s v (bits_of d (term_of d.known t)).what)
    → MakesBits d t old new (Ok s)
accepted n d t old new b s e known m shaped =
    record { shows = shaped (constant_of d (term_of d.known t)) m.shows (blank d (term_of d.known t) (found n d t e known).0); grew = m.grew; within = m.within }
