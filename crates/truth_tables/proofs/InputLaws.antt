-- The positions of an input header represent its bits.
use Rattle.std.proofs.Common.{◌≡◌, ℕ, zero, suc, ◌<◌, Bool, true, false, Option, None, Some, List, [], ◌∷◌, ◌++◌, All, length, map, reverse, replicate, if◌then◌else◌, refl, sym, ap, ap₂, ◌∙◌, subst, arith}
use Rattle.truth_tables.proofs.Common.{reverse-append, ExprId, formula_at, Formula, Const, Binary, Extension, row_literals, Context, bits_of, formulas, met_by, met_word, resized, Single, Value, width_of, Term, NoTerm, Before, extended, extended_if, binary_by, constant_of, is_relation, map_reverse, Shape, AreIn, HasUnknown, bits_at, positions, unknown_at, HasShape, AreBits, met_length, bits_length, is_computed, IsShapedTerm, StandForInputs}
use Rattle.abel_meaning.specs.BitWords.{Word}
use Rattle.abel_meaning.specs.Numbers.{Number}
use Rattle.abel_meaning.specs.Terms as term
use Rattle.set_expr.specs.declared.shaped.Shape.TheVariants as shape
use Rattle.set_expr.specs.declared.shaped.Shaped.{Shaped}

-- ---- positions in the other order

abbrev is_unknown : Option ExprId → Bool
is_unknown None = true
is_unknown (Some id) = false

abbrev bit_of : List Formula → Option ExprId → Formula
bit_of fs None = Const false
bit_of fs (Some id) = formula_at fs id

unknown_each : (ps : List (Option ExprId)) → unknown_at ps ≡ map is_unknown ps
unknown_each [] = refl
unknown_each (None ∷ ps) = ap (λ bs. true ∷ bs) (unknown_each ps)
unknown_each (Some id ∷ ps) = ap (λ bs. false ∷ bs) (unknown_each ps)

bits_each : (fs : List Formula) (ps : List (Option ExprId)) → bits_at fs ps ≡ map (bit_of fs) ps
bits_each fs [] = refl
bits_each fs (None ∷ ps) = ap (λ gs. Const false ∷ gs) (bits_each fs ps)
bits_each fs (Some id ∷ ps) = ap (λ gs. formula_at fs id ∷ gs) (bits_each fs ps)

unknown_reverse : (ps : List (Option ExprId)) → unknown_at (reverse ps) ≡ reverse (unknown_at ps)
unknown_reverse ps = unknown_each (reverse ps) ∙ map_reverse is_unknown ps ∙ ap reverse (sym (unknown_each ps))

bits_reverse : (fs : List Formula) (ps : List (Option ExprId)) → bits_at fs (reverse ps) ≡ reverse (bits_at fs ps)
bits_reverse fs ps = bits_each fs (reverse ps) ∙ map_reverse (bit_of fs) ps ∙ ap reverse (sym (bits_each fs ps))

in_more : (count : ℕ) (ps qs : List (Option ExprId)) → AreIn count ps → AreIn count qs → AreIn count (ps ++ qs)
in_more count [] qs h g = g
in_more count (None ∷ ps) qs h g = in_more count ps qs h g
in_more count (Some id ∷ ps) qs h g = (h.0, in_more count ps qs h.1 g)

in_reverse : (count : ℕ) (ps : List (Option ExprId)) → AreIn count ps → AreIn count (reverse ps)
in_reverse count [] h = tt
in_reverse count (None ∷ ps) h = subst (AreIn count) (sym (reverse-append (None ∷ []) ps)) (in_more count (reverse ps) (None ∷ []) (in_reverse count ps h) tt)
in_reverse count (Some id ∷ ps) h = subst (AreIn count) (sym (reverse-append (Some id ∷ []) ps)) (in_more count (reverse ps) (Some id ∷ []) (in_reverse count ps h.1) (h.0, tt))

-- positions that have the flags and the bits of a header, from the right
pub stand_reversed : (d : Context) (h : Term) (fs : List Formula) (ps : List (Option ExprId)) → AreIn (length fs) ps → (constant_of d h).unknown ≡ unknown_at ps
    → met_word (width_of (constant_of d h).shape) (constant_of d h) (bits_of d h).what ≡ bits_at fs ps → StandForInputs d h fs (reverse ps)
stand_reversed d h fs ps i u w =
    record {
      inside = in_reverse (length fs) ps i;
      same = λ ls.
          ap₂ (λ xs ws. row_literals (Const true) xs ws ls)
          (ap reverse u ∙ sym (unknown_reverse ps))
          (ap reverse w ∙ sym (bits_reverse fs ps));
    }

-- ---- one bit, and sets

resized_same : (n : ℕ) (w : Word) → length w ≡ n → resized n w ≡ w
resized_same zero [] e = refl
resized_same (suc n) (x ∷ w) e = ap (λ v. x ∷ v) (resized_same n w (omega (arith, e)))
resized_same _ _ e = absurd (omega (arith, e))

single_same : (n : ℕ) (w : Word) → length w ≡ 1 → met_by 1 Single n w ≡ w
single_same n (x ∷ []) e = refl
single_same n _ e = absurd (omega (arith, e))

bits_many : (fs : List Formula) (ps : List (Option ExprId)) → length (bits_at fs ps) ≡ length ps
bits_many fs [] = refl
bits_many fs (None ∷ ps) = omega (arith, bits_many fs ps)
bits_many fs (Some id ∷ ps) = omega (arith, bits_many fs ps)

-- what has positions of its own
pub stand_places : (d : Context) (fs : List Formula) (h : Term) (s : Shaped) → IsShapedTerm d fs h s → ((n : ℕ) → s.shape ≡ shape.Number n → ⊥) → StandForInputs d h fs (reverse s.places)
stand_places d fs h s k other = by_shape s.shape refl
  where
    v : Value
    v = constant_of d h

    w : Word
    w = (bits_of d h).what

    many : (x : Shape) → s.shape ≡ x → length w ≡ positions x
    many x e = ap length (sym k.bits) ∙ bits_many fs s.places ∙ k.positions ∙ ap positions e

    by_shape : (x : Shape) → s.shape ≡ x → StandForInputs d h fs (reverse s.places)
    by_shape (shape.Number n) e = absurd (other n e)
    by_shape shape.Single e =
        stand_reversed d h fs s.places k.inside (sym (subst (λ x. HasUnknown x v.unknown s.places) e k.unknown))
        (ap (λ y. met_by (width_of y) y v.number w) (subst (λ x. HasShape x v) e k.shape) ∙ single_same v.number w (many shape.Single e) ∙ sym k.bits)
    by_shape (shape.Set n) e =
        stand_reversed d h fs s.places k.inside (sym (subst (λ x. HasUnknown x v.unknown s.places) e k.unknown))
        (ap (λ y. met_by (width_of y) y v.number w) (subst (λ x. HasShape x v) e k.shape) ∙ resized_same n w (many (shape.Set n) e) ∙ sym k.bits)

-- ---- numbers

relation_or_not : (b : Bool) (sign : Binary) (v u : Value) → (binary_by b sign v u).shape ≡ Number → (binary_by b sign v u).unknown ≡ replicate 32 false
relation_or_not true sign v u e = absurd cc
relation_or_not false sign v u e = ap (λ s. replicate (width_of s) false) e

-- the X positions of a number: none, or those of the 32 bits that an operator makes
number_unknown : (d : Context) (t : Term) → (constant_of d t).shape ≡ Number → (constant_of d t).unknown ≡ (if is_computed t then replicate 32 false else [])
number_unknown d term.X e = absurd cc
number_unknown d (term.Read s f) e = absurd cc
number_unknown d (term.Set NoTerm) e = absurd cc
number_unknown d (term.Set (Before t ts)) e = absurd cc
number_unknown d (term.UnaryOf sign t) e = number_unknown d t e
number_unknown d (term.BinaryOf sign t u) e = relation_or_not (is_relation sign) sign (constant_of d t) (constant_of d u) e
number_unknown d _ e = refl

pub computed_extended : (e : Option Extension) (t : Term) → is_computed (extended_if e t) ≡ is_computed t
computed_extended None t = refl
computed_extended (Some e) t = each t
  where
    each : (t : Term) → is_computed (extended e t) ≡ is_computed t
    each (term.Read s (Some f)) = refl
    each (term.Set ts) = refl
    each (term.UnaryOf sign t) = each t
    each (term.BinaryOf sign t u) = refl
    each _ = refl

-- a number that no operator makes has no position
pub stand_none : (d : Context) (fs : List Formula) (h : Term) → (constant_of d h).shape ≡ Number → is_computed h ≡ false → StandForInputs d h fs []
stand_none d fs h n e =
    let none : (constant_of d h).unknown ≡ [] = number_unknown d h n ∙ ap (λ b. if b then replicate 32 false else []) e in
    record {
      inside = tt;
      same = λ ls. ap (λ (bs : List Bool). row_literals (Const true) (reverse bs) ((formulas d).word (width_of (constant_of d h).shape) h) ls) none;
    }

given_unknown : (ids : List ExprId) → unknown_at (map Some ids) ≡ replicate (length ids) false
given_unknown [] = refl
given_unknown (id ∷ ids) = ap (λ bs. false ∷ bs) (given_unknown ids)

given_bits : (fs : List Formula) (ids : List ExprId) → bits_at fs (map Some ids) ≡ map (formula_at fs) ids
given_bits fs [] = refl
given_bits fs (id ∷ ids) = ap (λ gs. formula_at fs id ∷ gs) (given_bits fs ids)

given_in : (count : ℕ) (ids : List ExprId) → All (λ (id : ExprId). id.0 < count) ids → AreIn count (map Some ids)
given_in count [] h = tt
given_in count (id ∷ ids) h = (h zero id (omega arith), given_in count ids (λ k d lt. h (suc k) d (omega (arith, lt))))

-- one that an operator makes has 32
pub stand_all : (d : Context) (fs : List Formula) (h : Term) (s : Shaped) (ids : List ExprId) → IsShapedTerm d fs h s → (constant_of d h).shape ≡ Number → is_computed h ≡ true → AreBits fs ids (met_word 32 (constant_of d h) (bits_of d h).what) → StandForInputs d h fs (reverse (map Some ids))
stand_all d fs h s ids k n e b =
    let v = constant_of d h in
    let w = (bits_of d h).what in
    let many : length ids ≡ 32 = bits_length fs ids (met_word 32 v w) b ∙ met_length 32 fs s v w k in
    let flags : v.unknown ≡ replicate 32 false = number_unknown d h n ∙ ap (λ b. if b then replicate 32 false else []) e in
    stand_reversed d h fs (map Some ids) (given_in (length fs) ids b.0)
    (flags ∙ sym (given_unknown ids ∙ ap (λ n. replicate n false) many))
    (ap (λ y. met_word (width_of y) v w) n ∙ sym b.1 ∙ sym (given_bits fs ids))
