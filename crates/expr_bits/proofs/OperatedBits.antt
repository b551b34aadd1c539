-- What operators and sets make of bits are the bits of values.
use Rattle.std.proofs.Common.{◌≡◌, ℕ, ◌+◌, Bool, List, [], ◌∷◌, ◌++◌, length, Result, refl, sym, ap, ap₂, ◌∙◌, subst, arith, length-append, false, replicate, Err}
use Rattle.expr_bits.proofs.Common.{length-map, map-append, Vec, ExprFault, ExprId, Node, arena, formula_at, Formula, Binary, Unary, Word, unary_word, relation_bit, kept_bits, Shape, Value, member_width, width_of, met_unknown, met_unknown_by, either_unknown, unary_value, word_at, ShowsAll, ShowsItems, ShowsOne, IsMade, Makes, Bits, Form, Part, IsPart, under_part, width_of_two, word_in, relation_of, joined_part, HasForm, HasUnknown, length-replicate, Grew, Made, free, ◌>>=◌, operator_bits, operator_word, meeting, MeetsAs, computed_part, positions_of, with_value, computed_value, IsBits}
use Rattle.abel_meaning.specs.Numbers as number
use Rattle.expr_bits.specs.declared.forms.Form.TheVariants as form
use Rattle.expr_bits.proofs.Making.{in_append, grew_none, stopped}
use Rattle.expr_bits.proofs.AlongWords.{unary_length, operator_length}

pub shown_length : (fs : List Formula) (ids : List ExprId) (w : Word) → ShowsAll fs ids w → length ids ≡ length w
shown_length fs ids w s = sym (length-map ids (λ id. formula_at fs id)) ∙ ap length s.1

-- ---- one value

pub under_made : (old new : List Node) (inner made : Bits) (sign : Unary) (ids : Vec ExprId) (p : Part) → IsPart (arena old) inner p → IsMade ShowsItems (arena old) (arena new) ids (unary_word sign (word_at (arena old) inner.word)) → made.word ≡ ids.items → made.unknown ≡ inner.unknown
    → ((v : Value) (k : ℕ) → HasForm inner.form v k → HasForm made.form (unary_value sign v) k) → ((v : Value) (xs : List Bool) → HasUnknown inner.form v xs → HasUnknown made.form (unary_value sign v) xs)
    → IsMade IsPart (arena old) (arena new) made (under_part sign p)
under_made old new inner made sign ids p is m w u by_form by_unknown =
    let n = subst (λ word. IsMade ShowsItems (arena old) (arena new) ids (unary_word sign word)) is.word.1 m in
    let here = shown_length (arena new) ids.items (unary_word sign p.word).what n.shows in
    let there = shown_length (arena old) inner.word p.word is.word in
    let same : length inner.word ≡ length made.word = there ∙ sym (unary_length sign p.word) ∙ sym here ∙ ap length (sym w) in
    record {
      shows = record {
        form = subst (λ k. HasForm made.form (unary_value sign p.value) k) same (by_form p.value (length inner.word) is.form);
        unknown = subst (λ xs. HasUnknown made.form (unary_value sign p.value) xs) (sym u) (by_unknown p.value inner.unknown is.unknown);
        positions = ap length u ∙ is.positions ∙ same;
        word = subst (λ xs. ShowsAll (arena new) xs (unary_word sign p.word).what) (sym w) n.shows;
      };
      grew = n.grew;
      within = n.within;
    }

-- ---- two values

pub relation_made : (old new : List Node) (r : Result ExprId ExprFault) (sign : Binary) (p q : Part) (width : ℕ) (flags : List Bool) (first second : List ExprId) → width ≡ width_of_two p q → flags ≡ either_unknown (met_unknown width p.value) (met_unknown width q.value)
    → word_at (arena old) first ≡ word_in width p → word_at (arena old) second ≡ word_in width q
    → Makes ShowsOne old new r (relation_bit sign (kept_bits flags (word_at (arena old) first)) (kept_bits flags (word_at (arena old) second))) → Makes ShowsOne old new r (relation_of sign p q)
relation_made old new r sign p q width flags first second w f x y m = rw (f, x, y, w) at m

-- ---- a member before others

pub member_flags : (s : Shape) (xs : List Bool) → ((k : ℕ) → s ≡ number.Set k → length xs ≡ k) → length (met_unknown_by (member_width s) s xs) ≡ member_width s
member_flags number.Single (x ∷ xs) h = refl
member_flags (number.Set k) xs h = h k refl
member_flags _ _ h = refl

set_flags : (f : Form) (v : Value) (k m : ℕ) (xs : List Bool) → HasForm f v k → HasUnknown f v xs → length xs ≡ k → v.shape ≡ number.Set m → length v.unknown ≡ m
set_flags (form.Number n) v k m xs h u l e = let p = h.0.0 in absurd (cc)
set_flags form.Single v k m xs h u l e = let p = h.0 in absurd (cc)
set_flags form.Set v k m xs h u l e =
    let same : number.Set k ≡ number.Set m = sym h ∙ e in
    let width : k ≡ m = cc in
    ap length (sym u) ∙ l ∙ width

pub joined_shown : (ns : List Node) (member others whole : Bits) (p q : Part) (width : ℕ) (ids : List ExprId) (flags : List Bool) → others.form ≡ form.Set → whole.form ≡ form.Set → width ≡ member_width p.value.shape
    → ShowsAll (arena ns) ids (word_in width p) → length ids ≡ width → flags ≡ met_unknown width p.value → whole.word ≡ others.word ++ ids → whole.unknown ≡ others.unknown ++ flags
    → IsPart (arena ns) member p → IsPart (arena ns) others q → IsPart (arena ns) whole (joined_part p q)
joined_shown ns member others whole p q width ids flags o f w shows long flagged words unknowns is rest =
    let m = member_width p.value.shape in
    let set = subst (λ g. HasForm g q.value (length others.word)) o rest.form in
    let known = subst (λ g. HasUnknown g q.value others.unknown) o rest.unknown in
    let wide : width_of q.value.shape ≡ length others.word = ap width_of set in
    let longer : length whole.word ≡ length others.word + length ids = ap length words ∙ length-append others.word ids in
    let flags_here : flags ≡ met_unknown m p.value = flagged ∙ ap (λ n. met_unknown n p.value) w in
    let flags_long : length flags ≡ m = ap length flags_here ∙ member_flags p.value.shape p.value.unknown (λ k e. set_flags member.form p.value (length member.word) k member.unknown is.form is.unknown is.positions e) in
    let word_here : ShowsAll (arena ns) ids (word_in m p) = subst (λ n. ShowsAll (arena ns) ids (word_in n p)) w shows in
    record {
      form = subst (λ g. HasForm g (joined_part p q).value (length whole.word)) (sym f) (ap number.Set (omega (arith, wide, longer, long, w)));
      unknown = subst (λ g. HasUnknown g (joined_part p q).value whole.unknown) (sym f) (unknowns ∙ ap₂ (λ xs ys. xs ++ ys) known flags_here);
      positions = ap length unknowns ∙ length-append others.unknown flags ∙ omega (arith, rest.positions, flags_long, longer, long, w);
      word = subst (λ xs. ShowsAll (arena ns) xs (joined_part p q).word) (sym words)
          (in_append (length (arena ns)) others.word ids rest.word.0 word_here.0, map-append (λ id. formula_at (arena ns) id) others.word ids ∙ ap₂ (λ xs ys. xs ++ ys) rest.word.1 word_here.1);
    }

-- ---- values that have bits

-- not the form of a number
abbrev IsNoNumber : Form → Type 0
IsNoNumber f = (n : ℕ) → f ≡ form.Number n → ⊥

no_number : (f : Form) (v : Value) → MeetsAs f v → IsNoNumber f → v.shape ≡ number.Number → ⊥
no_number (form.Number n) v h p e = p n refl
no_number form.Single v h p e = let s = h.0 in cc
no_number form.Set v h p e = cc

-- an operator on values that meet in positions works on their words
by_shape : (sign : Binary) (s : Shape) (x y : Word) → (s ≡ number.Number → ⊥) → operator_bits sign x y ≡ operator_word sign s x y
by_shape sign number.Number x y h = absurd (h refl)
by_shape sign _ x y h = refl

operated_word : (sign : Binary) (f : Form) (p q : Part) → MeetsAs f (computed_value sign p q) → IsNoNumber f
    → operator_bits sign (word_in (width_of_two p q) p) (word_in (width_of_two p q) q) ≡ operator_word sign (meeting p.value.shape q.value.shape) (word_in (width_of_two p q) p) (word_in (width_of_two p q) q)
operated_word sign f p q meets plain = by_shape sign (meeting p.value.shape q.value.shape) _ _ (no_number f (computed_value sign p q) meets plain)

width_positions : (f : Form) (v : Value) → MeetsAs f v → IsNoNumber f → width_of v.shape ≡ positions_of v.shape
width_positions (form.Number n) v h p = absurd (p n refl)
width_positions form.Single v h p = ap width_of h.0 ∙ sym (ap positions_of h.0)
width_positions form.Set v h p = ap width_of h

flags_are : (f : Form) (v : Value) (xs : List Bool) → IsNoNumber f → xs ≡ v.unknown → HasUnknown f v xs
flags_are (form.Number n) v xs p e = absurd (p n refl)
flags_are _ v xs p e = e

pub operated_made : (old new : List Node) (made : Bits) (sign : Binary) (ids : Vec ExprId) (p q : Part) → length (word_in (width_of_two p q) p) ≡ width_of_two p q → length (word_in (width_of_two p q) q) ≡ width_of_two p q
    → IsMade ShowsItems (arena old) (arena new) ids (operator_bits sign (word_in (width_of_two p q) p) (word_in (width_of_two p q) q)) → made.word ≡ ids.items → made.unknown ≡ replicate (width_of_two p q) false → MeetsAs made.form (computed_value sign p q) → IsNoNumber made.form
    → IsMade IsPart (arena old) (arena new) made (computed_part sign p q)
operated_made old new made sign ids p q pl ql n words known meets has =
    let wide = width_of_two p q in
    let long : length made.word ≡ wide = ap length words ∙ shown_length (arena new) ids.items (operator_bits sign (word_in wide p) (word_in wide q)).what n.shows ∙ operator_length sign (word_in wide p) (word_in wide q) (pl ∙ sym ql) ∙ pl in
    let at : positions_of (computed_value sign p q).shape ≡ length made.word = sym (width_positions made.form (computed_value sign p q) meets has) ∙ sym long in
    subst (λ m. IsMade IsPart (arena old) (arena new) made (with_value (computed_value sign p q) m)) (operated_word sign made.form p q meets has)
    (record {
      shows = record {
        form = subst (λ k. HasForm made.form (computed_value sign p q) k) at meets;
        unknown = flags_are made.form (computed_value sign p q) made.unknown has known;
        positions = ap length known ∙ length-replicate wide false ∙ sym long;
        word = (subst (λ xs. ShowsAll (arena new) xs (operator_bits sign (word_in wide p) (word_in wide q)).what) (sym words) n.shows);
      };
      grew = n.grew;
      within = n.within;
    })

pub operated_stops : (old new : List Node) (sign : Binary) (f : Form) (p q : Part) (e : ExprFault) → MeetsAs f (computed_value sign p q) → IsNoNumber f
    → Makes {R = Vec ExprId} ShowsItems old new (Err e) (operator_bits sign (word_in (width_of_two p q) p) (word_in (width_of_two p q) q)) → Makes {R = Bits} IsPart old new (Err e) (computed_part sign p q)
operated_stops old new sign f p q e meets plain m =
    let word = operated_word sign f p q meets plain in
    stopped ShowsItems IsPart old new e _ (computed_part sign p q) m (omega (arith, ap (λ (x : Made Word). x.nodes) word))

-- ---- one bit

pub one_made : (old new : List Node) (bit : ExprId) (b : Bits) (m : Made Formula) (v : Value) → IsMade ShowsOne (arena old) (arena new) bit m
    → ((fs : List Formula) (f : Formula) (u : Value) → u.shape ≡ number.Single → u.unknown ≡ false ∷ [] → ShowsOne fs bit f → IsBits fs b u (f ∷ []))
    → v.shape ≡ number.Single → v.unknown ≡ false ∷ [] → IsMade IsPart (arena old) (arena new) b (with_value v (m >>= λ f. free (f ∷ [])))
one_made old new bit b m v made by s u =
    let none : m.nodes ≡ m.nodes + 0 = omega arith in
    record {
      shows = by (arena new) m.what v s u made.shows;
      grew = subst (λ n. Grew (arena old) (arena new) n) none made.grew;
      within = λ past. made.within (omega (arith, past.0), omega (arith, past.1));
    }

-- ---- numbers

pub number_made : (ns : List Node) (b : Bits) (n : ℕ) (sign : Binary) (p q : Part) → ((v : Value) → v.shape ≡ number.Number → v.number ≡ n → IsBits (arena ns) b v []) → MeetsAs (form.Number n) (computed_value sign p q) → IsMade IsPart (arena ns) (arena ns) b (computed_part sign p q)
number_made ns b n sign p q is meets =
    let word : operator_word sign (meeting p.value.shape q.value.shape) (word_in (width_of_two p q) p) (word_in (width_of_two p q) q) ≡ free [] = ap (λ s. operator_word sign s (word_in (width_of s) p) (word_in (width_of s) q)) meets.0.0 in
    subst (λ m. IsMade IsPart (arena ns) (arena ns) b (with_value (computed_value sign p q) m)) (sym word)
    (record { shows = is (computed_value sign p q) meets.0.0 meets.0.1; grew = grew_none (arena ns); within = λ past. omega (arith, past.0) })
