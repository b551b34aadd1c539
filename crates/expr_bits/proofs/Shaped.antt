-- Values in so many positions, and the shape and the positions of bits as those of a value.
use Rattle.std.proofs.Common.{◌≡◌, ℕ, zero, suc, ◌/◌, ◌<◌, ◌≤◌, max, Bool, false, ◌||◌, List, [], ◌∷◌, ◌++◌, length, get_or, take, replicate, refl, sym, ap, ap₂, ◌∙◌, subst, arith, add-one, true, Option, None, Some}
use Rattle.expr_bits.proofs.Common.{take_all, take_more, or-false, ExprId, Node, arena, Formula, Word, met_by, met_word, Value, either_unknown, AllIn, word_at, ShowsAll, digit_ids, resized_ids, Bits, HasForm, IsBits, formula_at, IsShaped, AreIn, bits_at, unknown_at, positions, Shaped, Form, HasUnknown, IsBlank, place_of, shown_ids, shape_of}
use Rattle.abel_meaning.specs.Numbers as number
use Rattle.expr_bits.proofs.PositionWords.{digits_in, digits_at, resized_in, resized_at, spread_in, spread_at}
use Rattle.expr_bits.specs.declared.forms.Form.TheVariants as form
use Rattle.set_expr.specs.Answer as answer
use Rattle.set_expr.specs.Shapes.{HasShape}

-- ---- widths

pub digits_length : (w n : ℕ) → length (digit_ids w n) ≡ w
digits_length zero n = refl
digits_length (suc w) n = ap suc (digits_length w (n / 2))

pub resized_length : (w : ℕ) (xs : List ExprId) → length (resized_ids w xs) ≡ w
resized_length zero xs = refl
resized_length (suc w) [] = ap suc (resized_length w [])
resized_length (suc w) (x ∷ xs) = ap suc (resized_length w xs)

-- ---- bits by form

pub met_number : (ns : List Node) (b : Bits) (v : Value) (w : Word) (k n : ℕ) → b.form ≡ form.Number n → IsBits (arena ns) b v w → ShowsAll (arena ns) (digit_ids k n) (met_word k v w)
met_number ns b v w k n e is =
    let h = subst (λ f. HasForm f v (length b.word)) e is.form in
    (digits_in ns k n, digits_at ns k n ∙ sym (ap₂ (λ s m. met_by k s m w) h.0.0 h.0.1))

met_first : (fs : List Formula) (k n : ℕ) (ids : List ExprId) → length ids ≡ 1 → AllIn (length fs) ids → ShowsAll fs (replicate k (get_or ids 0 (record { 0 = 0 }))) (met_by k number.Single n (word_at fs ids))
met_first fs k n [] e a = absurd (omega (arith, e))
met_first fs k n (x ∷ xs) e a = (spread_in (length fs) k x a.0, spread_at fs k x)

pub met_single : (ns : List Node) (b : Bits) (v : Value) (w : Word) (k : ℕ) → b.form ≡ form.Single → IsBits (arena ns) b v w → ShowsAll (arena ns) (replicate k (get_or b.word 0 (record { 0 = 0 }))) (met_word k v w)
met_single ns b v w k e is =
    let h = subst (λ f. HasForm f v (length b.word)) e is.form in
    let met = met_first (arena ns) k v.number b.word h.1 is.word.0 in
    (met.0, met.1 ∙ ap₂ (λ s x. met_by k s v.number x) (sym h.0) is.word.1)

pub met_set : (ns : List Node) (b : Bits) (v : Value) (w : Word) (k : ℕ) → b.form ≡ form.Set → IsBits (arena ns) b v w → ShowsAll (arena ns) (resized_ids k b.word) (met_word k v w)
met_set ns b v w k e is =
    let h = subst (λ f. HasForm f v (length b.word)) e is.form in
    (resized_in ns k b.word is.word.0, resized_at ns k b.word ∙ ap₂ (λ s x. met_by k s v.number x) (sym h) is.word.1)

-- ---- X on either side

alone : (xs : List Bool) (i : ℕ) → i < length xs → take (suc i) xs ≡ take i xs ++ get_or xs i false ∷ []
alone xs i h = ap (λ n. take n xs) (sym (add-one i)) ∙ take_more xs i false h

pub either_next : (xs ys : List Bool) (i : ℕ) → i < max (length xs) (length ys) → either_unknown (take (suc i) xs) (take (suc i) ys) ≡ either_unknown (take i xs) (take i ys) ++ (get_or xs i false || get_or ys i false) ∷ []
either_next [] [] i h = absurd (omega (arith, h))
either_next [] (y ∷ ys) zero h = refl
either_next [] (y ∷ ys) (suc i) h = ap (λ zs. y ∷ zs) (alone ys i (omega (arith, h)))
either_next (x ∷ xs) [] zero h = ap (λ b. b ∷ []) (sym (or-false x))
either_next (x ∷ xs) [] (suc i) h = ap (λ zs. x ∷ zs) (alone xs i (omega (arith, h)) ∙ ap (λ b. take i xs ++ b ∷ []) (sym (or-false (get_or xs i false))))
either_next (x ∷ xs) (y ∷ ys) zero h = refl
either_next (x ∷ xs) (y ∷ ys) (suc i) h = ap (λ zs. (x || y) ∷ zs) (either_next xs ys i (omega (arith, h)))

pub either_all : (xs ys : List Bool) (i : ℕ) → max (length xs) (length ys) ≤ i → either_unknown (take i xs) (take i ys) ≡ either_unknown xs ys
either_all xs ys i h = ap₂ either_unknown (take_all i xs (omega (arith, h))) (take_all i ys (omega (arith, h)))

-- ---- the loop: what is there of the first positions

pub places_next : (ids : List ExprId) (xs : List Bool) (i : ℕ) (d : ExprId) (x : Bool) → i < length ids → length xs ≡ length ids → shown_ids (take (suc i) ids) (take (suc i) xs) ≡ shown_ids (take i ids) (take i xs) ++ place_of (get_or ids i d) (get_or xs i x) ∷ []
places_next [] xs i d x h e = absurd (omega (arith, h))
places_next (y ∷ ids) [] i d x h e = absurd (omega (arith, e))
places_next (y ∷ ids) (z ∷ xs) zero d x h e = refl
places_next (y ∷ ids) (z ∷ xs) (suc i) d x h e = ap (λ ps. place_of y z ∷ ps) (places_next ids xs i d x (omega (arith, h)) (omega (arith, e)))

-- ---- positions

unknown_places : (ids : List ExprId) (xs : List Bool) → length xs ≡ length ids → unknown_at (shown_ids ids xs) ≡ xs
unknown_places [] [] e = refl
unknown_places (id ∷ ids) (true ∷ xs) e = ap (λ ys. true ∷ ys) (unknown_places ids xs (omega (arith, e)))
unknown_places (id ∷ ids) (false ∷ xs) e = ap (λ ys. false ∷ ys) (unknown_places ids xs (omega (arith, e)))
unknown_places _ _ e = absurd (omega (arith, e))

places_long : (ids : List ExprId) (xs : List Bool) → length xs ≡ length ids → length (shown_ids ids xs) ≡ length ids
places_long [] xs e = refl
places_long (id ∷ ids) [] e = absurd (omega (arith, e))
places_long (id ∷ ids) (x ∷ xs) e = ap suc (places_long ids xs (omega (arith, e)))

places_in : (count : ℕ) (ids : List ExprId) (xs : List Bool) → AllIn count ids → AreIn count (shown_ids ids xs)
places_in count (id ∷ ids) (true ∷ xs) a = places_in count ids xs a.1
places_in count (id ∷ ids) (false ∷ xs) a = (a.0, places_in count ids xs a.1)
places_in count _ _ a = tt

places_bits : (fs : List Formula) (ids : List ExprId) (xs : List Bool) → length xs ≡ length ids → IsBlank xs (word_at fs ids) → bits_at fs (shown_ids ids xs) ≡ word_at fs ids
places_bits fs [] xs e b = refl
places_bits fs (id ∷ ids) [] e b = absurd (omega (arith, e))
places_bits fs (id ∷ ids) (true ∷ xs) e b = ap₂ (λ y ys. y ∷ ys) (sym b.0) (places_bits fs ids xs (omega (arith, e)) b.1)
places_bits fs (id ∷ ids) (false ∷ xs) e b = ap (λ ys. formula_at fs id ∷ ys) (places_bits fs ids xs (omega (arith, e)) b)

-- ---- by form

shape_is : (f : Form) (k : ℕ) (v : Value) → HasForm f v k → HasShape (shape_of f k) v
shape_is form.Set k v h = h
shape_is _ k v h = h.0

flags_are : (f : Form) (k : ℕ) (v : Value) (xs ys : List Bool) (ps : List (Option ExprId)) → HasUnknown f v xs → unknown_at ps ≡ xs → answer.HasUnknown (shape_of f k) v.unknown ps
flags_are (form.Number n) k v xs ys ps h e = tt
flags_are _ k v xs ys ps h e = e ∙ h

long_as : (f : Form) (k : ℕ) (v : Value) → HasForm f v k → k ≡ positions (shape_of f k)
long_as form.Set k v h = refl
long_as _ k v h = h.1

no_blank : (fs : List Formula) (ids : List ExprId) (xs : List Bool) → length ids ≡ 0 → length xs ≡ length ids → IsBlank xs (word_at fs ids)
no_blank fs [] [] e f = tt
no_blank fs [] (x ∷ xs) e f = tt
no_blank fs (id ∷ ids) xs e f = absurd (omega (arith, e))

blank_as : (fs : List Formula) (f : Form) (v : Value) (ids : List ExprId) (xs : List Bool) → HasForm f v (length ids) → HasUnknown f v xs → length xs ≡ length ids → IsBlank v.unknown (word_at fs ids) → IsBlank xs (word_at fs ids)
blank_as fs (form.Number n) v ids xs h u e b = no_blank fs ids xs h.1 e
blank_as fs _ v ids xs h u e b = subst (λ ys. IsBlank ys (word_at fs ids)) (sym u) b

pub shaped_is : (fs : List Formula) (b : Bits) (s : Shaped) (v : Value) (w : Word) → s.shape ≡ shape_of b.form (length b.word) → s.places ≡ shown_ids b.word b.unknown → IsBits fs b v w → IsBlank v.unknown w → IsShaped fs s v w
shaped_is fs b s v w e p is blank =
    let k = length b.word in
    let same = is.positions in
    let here = blank_as fs b.form v b.word b.unknown is.form is.unknown same (subst (λ x. IsBlank v.unknown x) (sym is.word.1) blank) in
    record {
      shape = subst (λ x. HasShape x v) (sym e) (shape_is b.form k v is.form);
      unknown = subst (λ x. answer.HasUnknown x v.unknown s.places) (sym e) (flags_are b.form k v b.unknown b.unknown s.places is.unknown (ap unknown_at p ∙ unknown_places b.word b.unknown same));
      positions = ap length p ∙ places_long b.word b.unknown same ∙ long_as b.form k v is.form ∙ ap positions (sym e);
      inside = subst (AreIn (length fs)) (sym p) (places_in (length fs) b.word b.unknown is.word.0);
      bits = ap (bits_at fs) p ∙ places_bits fs b.word b.unknown same here ∙ is.word.1;
    }

-- a position that isn't X lies in the arena
pub place_in : (count : ℕ) (ps : List (Option ExprId)) (i : ℕ) (d : Option ExprId) (id : ExprId) → AreIn count ps → i < length ps → get_or ps i d ≡ Some id → id.0 < count
place_in count [] i d id a h e = absurd (omega (arith, h))
place_in count (None ∷ ps) zero d id a h e = absurd cc
place_in count (Some x ∷ ps) zero d id a h e =
    let same : x ≡ id = cc in
    subst (λ (y : ExprId). y.0 < count) same a.0
place_in count (None ∷ ps) (suc i) d id a h e = place_in count ps i d id a (omega (arith, h)) e
place_in count (Some x ∷ ps) (suc i) d id a h e = place_in count ps i d id a.1 (omega (arith, h)) e
