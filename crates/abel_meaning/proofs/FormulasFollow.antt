-- The formulas of all terms follow their values, and so the formulas of a module follow its contributions.
use Rattle.std.proofs.Common.{◌≡◌, ℕ, ◌+◌, ◌-◌, ◌*◌, ◌%◌, ◌^◌, ◌<◌, Bool, false, not, List, [], ◌∷◌, ◌++◌, map, reverse, refl, sym, ap, ap₂, subst, subst₂, ◌∙◌, arith, pow_pos}
use Rattle.abel_meaning.proofs.Common.{map-append, pow-add, mod-eq_of_lt, mod-lt, mul-le-mul_right, Levels, Term, Terms, Context, Design, source_of, source_value, Shape, Number, Single, Set, width_of, member_width, Value, met_number, met, digits_low_first, number_with, term_value, set_value, constant_of, empty_point, is_relation, binary_value, unary_number, unary_value, joined_value, Const, formula_value, Word, unary_word, each_not, met_word, bits_of, bits_of_all, formulas, truth_at, given_at, given_formulas, Follows, seen, not_value, and_value, or_value}
use Rattle.abel_meaning.specs.Terms as term
use Rattle.abel_tree.specs.declared.words.Unary.TheVariants as unary
use Rattle.abel_tree.specs.declared.words.Unary.{Unary}
use Rattle.abel_meaning.proofs.Walk.{contributions_seen}
use Rattle.abel_meaning.proofs.DigitLaws.{digits_mod, digits_joined, length_digits, number_small}
use Rattle.abel_meaning.proofs.TermValues.{HasBits, met_value, source_formula, one_digit, one_small, each_not_value, length_map, not_bits, difference_value}
use Rattle.abel_meaning.proofs.OperatorValues.{zeros_value}
use Rattle.abel_meaning.proofs.RelationWords.{map_reverse}
use Rattle.abel_meaning.proofs.Agreement.{Agrees, at_number, binary_agrees}

-- the complement of each position, and two's complement, in w bits
not_has : (at : Levels) (w n : ℕ) (xs : Word) → (n < 2 ^ w) × (map (formula_value at) xs ≡ digits_low_first w n) → (number_with (map not (digits_low_first w n)) < 2 ^ w) × (map (formula_value at) (each_not xs).what ≡ digits_low_first w (number_with (map not (digits_low_first w n))))
not_has at w n xs has = (
  subst (λ m. number_with (map not (digits_low_first w n)) < 2 ^ m)
      (length_map not (digits_low_first w n) ∙ length_digits w n) (number_small (map not (digits_low_first w n))),
  each_not_value at xs ∙ ap (λ bs. map not bs) has.1 ∙ not_bits w n,
)

minus_has : (at : Levels) (w n : ℕ) (xs : Word) → (n < 2 ^ w) × (map (formula_value at) xs ≡ digits_low_first w n) → ((2 ^ w - n % 2 ^ w) % 2 ^ w < 2 ^ w) × (map (formula_value at) (unary_word unary.Minus xs).what ≡ digits_low_first w ((2 ^ w - n % 2 ^ w) % 2 ^ w))
minus_has at w n xs has = (
  mod-lt (2 ^ w - n % 2 ^ w) (pow_pos w),
  difference_value at w 0 n (map (λ x. Const false) xs) xs has.0 (zeros_value at w n xs has.1) has.1
      ∙ ap (λ m. digits_low_first w (m % 2 ^ w)) plain,
)
  where
    plain : 0 + (2 ^ w - n) ≡ 2 ^ w - n % 2 ^ w
    plain = let e = mod-eq_of_lt has.0 in omega arith

unary_has : (at : Levels) (sign : Unary) (s : Shape) (k n : ℕ) (xs : Word) → HasBits s k n (map (formula_value at) xs) → HasBits s (unary_number sign (width_of s) k) (unary_number sign (width_of s) n) (map (formula_value at) (unary_word sign xs).what)
unary_has at sign Number k n xs has = ap (λ m. unary_number sign 32 m) has
unary_has at unary.Not Single k n xs has = not_has at 1 n xs has
unary_has at unary.Minus Single k n xs has = minus_has at 1 n xs has
unary_has at unary.Not (Set w) k n xs has = not_has at w n xs has
unary_has at unary.Minus (Set w) k n xs has = minus_has at w n xs has

-- as a member of a set
member_digits : (s : Shape) (n : ℕ) → digits_low_first (member_width s) (met_number (member_width s) s n) ≡ digits_low_first (member_width s) n
member_digits Number n = digits_mod 1 n
member_digits Single n = ap (λ m. digits_low_first 1 m) once
  where
    once : n * (2 ^ 1 - 1) ≡ n
    once = omega arith
member_digits (Set w) n = digits_mod w n

-- the values of members, joined
record SetAgrees (c v : Value) (bs : List Bool) : Type 0 where
  same : v ≡ at_number c v.number
  small : v.number < 2 ^ width_of c.shape
  bits : bs ≡ digits_low_first (width_of c.shape) v.number

part_small : (m w a r : ℕ) → a < m → r < w → a * w + r < m * w
part_small m w a r high low = let e = mul-le-mul_right w high in omega arith

joined_agrees : (at : Levels) (c1 cr : Value) (n r : ℕ) (xs ys : Word) → HasBits c1.shape c1.number n (map (formula_value at) xs) → r < 2 ^ width_of cr.shape → map (formula_value at) ys ≡ digits_low_first (width_of cr.shape) r → SetAgrees (joined_value c1 cr) (joined_value (at_number c1 n) (at_number cr r)) (map (formula_value at) (ys ++ met_word (member_width c1.shape) c1 xs))
joined_agrees at c1 cr n r xs ys has low e =
    record {
      same = refl;
      small = subst (λ p. n % 2 ^ member_width c1.shape * 2 ^ width_of cr.shape + r < p) (sym (pow-add 2 (member_width c1.shape) (width_of cr.shape)))
          (part_small (2 ^ member_width c1.shape) (2 ^ width_of cr.shape) (n % 2 ^ member_width c1.shape) r (mod-lt n (pow_pos (member_width c1.shape))) low);
      bits = map-append (formula_value at) ys (met_word (member_width c1.shape) c1 xs)
          ∙ ap₂ (λ a b. a ++ b) e (met_value at (member_width c1.shape) c1.shape c1.number n xs has ∙ member_digits c1.shape n)
          ∙ sym (digits_joined (member_width c1.shape) (width_of cr.shape) n r low);
    }

as_set : (d : Context) (at : Levels) (ts : Terms) (bs : List Bool) → SetAgrees (set_value d empty_point ts) (set_value d at ts) bs → Agrees (set_value d empty_point ts) (set_value d at ts) bs
as_set d at term.NoTerm bs p = record { same = p.same; has = (p.small, p.bits) }
as_set d at (term.Before t ts) bs p = record { same = p.same; has = (p.small, p.bits) }

-- every term agrees
mutual
  pub term_agrees : (d : Context) (at : Levels) (t : Term) → Agrees (constant_of d t) (term_value d at t) (map (formula_value at) (bits_of d t).what)
  term_agrees d at (term.Number n) = record { same = refl; has = refl }
  term_agrees d at term.X = record { same = refl; has = (omega arith, refl) }
  term_agrees d at term.Pulse = record { same = refl; has = refl }
  term_agrees d at term.Release = record { same = refl; has = refl }
  term_agrees d at (term.Read s e) =
      record {
        same = refl;
        has = (
          one_small (source_value at (source_of d s e)),
          ap (λ b. b ∷ []) (source_formula at (source_of d s e)) ∙ one_digit (source_value at (source_of d s e)),
        );
      }
  term_agrees d at (term.Set ts) = as_set d at ts _ (terms_agree d at ts)
  term_agrees d at (term.UnaryOf sign t) =
      let p = term_agrees d at t in
      subst (λ (v : Value). Agrees (unary_value sign (constant_of d t)) (unary_value sign v) (map (formula_value at) (bits_of d (term.UnaryOf sign t)).what)) (sym p.same)
      (record { same = refl; has = unary_has at sign (constant_of d t).shape (constant_of d t).number (term_value d at t).number (bits_of d t).what p.has })
  term_agrees d at (term.BinaryOf sign t u) =
      let p = term_agrees d at t in
      let q = term_agrees d at u in
      subst₂ (λ (v w : Value). Agrees (binary_value sign (constant_of d t) (constant_of d u)) (binary_value sign v w) (map (formula_value at) (bits_of d (term.BinaryOf sign t u)).what)) (sym p.same) (sym q.same)
      (binary_agrees at (is_relation sign) sign (constant_of d t) (constant_of d u) (term_value d at t).number (term_value d at u).number (bits_of d t).what (bits_of d u).what p.has q.has)

  terms_agree : (d : Context) (at : Levels) (ts : Terms) → SetAgrees (set_value d empty_point ts) (set_value d at ts) (map (formula_value at) (bits_of_all d ts).what)
  terms_agree d at term.NoTerm = record { same = refl; small = omega arith; bits = refl }
  terms_agree d at (term.Before t ts) =
      let p = term_agrees d at t in
      let q = terms_agree d at ts in
      subst₂ (λ (v w : Value). SetAgrees (joined_value (constant_of d t) (set_value d empty_point ts)) (joined_value v w) (map (formula_value at) (bits_of_all d (term.Before t ts)).what)) (sym p.same) (sym q.same)
      (joined_agrees at (constant_of d t) (set_value d empty_point ts) (term_value d at t).number (set_value d at ts).number (bits_of d t).what (bits_of_all d ts).what p.has q.small q.bits)

-- the word of a term has its digits at every point
pub word_follows : (d : Context) (at : Levels) (w : ℕ) (t : Term) → map (formula_value at) ((formulas d).word w t) ≡ (truth_at d at).word w t
word_follows d at w t =
    let p = term_agrees d at t in
    map_reverse (formula_value at) (met_word w (constant_of d t) (bits_of d t).what)
    ∙ ap (λ bs. reverse bs)
    (met_value at w (constant_of d t).shape (constant_of d t).number (term_value d at t).number (bits_of d t).what p.has
    ∙ ap (λ (v : Value). digits_low_first w (met w v)) (sym p.same))

-- formulas follow values
pub formulas_follow : (d : Context) (at : Levels) → Follows (formula_value at) (formulas d) (truth_at d at)
formulas_follow d at =
    record {
      constant = λ b. refl;
      negates = not_value at;
      both = and_value at;
      either = or_value at;
      word = word_follows d at;
    }

-- at every point the formulas of all contributions have the values of the contributions there
pub formulas_have_values : (d : Design) (at : Levels) → map (seen (formula_value at)) (given_formulas d) ≡ given_at d at
formulas_have_values d at = contributions_seen (formula_value at) (formulas d.context) (truth_at d.context at) (formulas_follow d.context at) d
