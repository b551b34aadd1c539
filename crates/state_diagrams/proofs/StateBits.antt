-- The bit of a state: bits in an arena that grows, a bit that is made in parts, and the literals of registers, one after
-- another, which are if the present state has the value.
use Rattle.std.proofs.Common.{◌≡◌, suc, ◌<◌, false, List, [], ◌∷◌, ◌++◌, length, map, get_or, refl, sym, ap, ap₂, ◌∙◌, subst, arith, ℕ, Bool, true, None, ◌/◌, ◌%◌, Result, Ok, Err, subst₂, add-one, length-append, ◌==◌}
use Rattle.state_diagrams.proofs.Common.{get_or-map, length-map, map-append, All-append, AreIn, ExprId, formula_at, Formula, Const, StateTree, Context, Keeps, Aim, IsBit, AreBits, kept_formula, kept_inside, state_bit, state_bits, make_not, make_and, condition, register_literals, registers_equal, is_state, formulas, digits, Term, constant_of, number_guard, length-reverse, Place, Node, arena, Made, free, ◌>>=◌, digits_low_first, length_digits, SectionFault, high_bit, two_parts, NoMemory, built_nodes, leaves_nodes, limit_here, stops_longer, MakesBit, bare_read, register_literal, signals_of, make_literal, reverse-append, All-cons, All-nil}
use Rattle.abel_meaning.specs.Terms as term
use Rattle.set_expr.specs.declared.fault.SectionFault.TheVariants as fault
use Rattle.expr_bits.specs.Making.{ShowsOne, IsMade, IsPast}
use Rattle.expr_bits.proofs.Making.{made_is, grew_none}

-- ---- bits of an arena

kept_bits : (old new : List Formula) (ids : List ExprId) → Keeps old new → AreIn (length old) ids → map (formula_at new) ids ≡ map (formula_at old) ids
kept_bits old new [] k h = refl
kept_bits old new (id ∷ ids) k h =
    ap₂ (λ f fs. f ∷ fs) (kept_formula old new id k (h 0 id (omega arith))) (kept_bits old new ids k (λ i x lt. h (suc i) x (omega (arith, lt))))

-- what was added changes no bit
pub bits_kept : (old new : List Formula) (ids : List ExprId) (fs : List Formula) → Keeps old new → AreBits old ids fs → AreBits new ids fs
bits_kept old new ids fs k b = (λ i x lt. kept_inside old new (get_or ids i x) k (b.0 i x lt), kept_bits old new ids k b.0 ∙ b.1)

-- a bit among several
pub bit_at : (fs : List Formula) (ids : List ExprId) (gs : List Formula) (i : ℕ) (id : ExprId) → AreBits fs ids gs → i < length ids → IsBit fs (get_or ids i id) (get_or gs i (Const false))
bit_at fs ids gs i id b lt = (b.0 i id lt, sym (get_or-map (formula_at fs) ids i id (Const false) lt) ∙ ap (λ hs. get_or hs i (Const false)) b.1)

pub bits_more : (fs : List Formula) (ids : List ExprId) (gs : List Formula) (id : ExprId) (g : Formula) → AreBits fs ids gs → IsBit fs id g → AreBits fs (ids ++ id ∷ []) (gs ++ g ∷ [])
bits_more fs ids gs id g b o = (
  All-append (λ (x : ExprId). x.0 < length fs) ids (id ∷ []) b.0 (All-cons (λ (x : ExprId). x.0 < length fs) id [] o.0 (All-nil _)),
  map-append (formula_at fs) ids (id ∷ []) ∙ ap₂ (λ xs x. xs ++ x ∷ []) b.1 o.1,
)

-- the bit of one state more
pub states_more : (d : Context) (xs : List Aim) (old new : List Formula) (ids : List ExprId) (id : ExprId) (ss ts : List StateTree) (s : StateTree) → ts ≡ ss ++ s ∷ [] → Keeps old new
    → AreBits old ids (state_bits d xs ss) → IsBit new id (state_bit d xs s) → AreBits new (ids ++ id ∷ []) (state_bits d xs ts)
states_more d xs old new ids id ss ts s e k b o =
    subst (AreBits new (ids ++ id ∷ [])) (sym (ap (state_bits d xs) e ∙ map-append (λ (x : StateTree). state_bit d xs x) ss (s ∷ [])))
    (bits_more new ids (state_bits d xs ss) id (state_bit d xs s) (bits_kept old new ids (state_bits d xs ss) k b) o)

-- there is a bit for each state
pub states_counted : (d : Context) (xs : List Aim) (fs : List Formula) (ids : List ExprId) (ss : List StateTree) → AreBits fs ids (state_bits d xs ss) → length ids ≡ length ss
states_counted d xs fs ids ss b = sym (length-map ids (formula_at fs)) ∙ ap length b.1 ∙ length-map ss (λ (s : StateTree). state_bit d xs s)

-- the literals of registers are what it is for them to read these digits, whatever was found before
pub registers_hold : (d : Context) (found : Formula) (ss : List ℕ) (bs : List Bool) → (register_literals d found ss bs).what ≡ registers_equal (formulas d) found ss bs
registers_hold d found (s ∷ ss) (true ∷ bs) = registers_hold d (make_and found (condition (formulas d) (term.Read s None))).what ss bs
registers_hold d found (s ∷ ss) (false ∷ bs) = registers_hold d (make_and found (make_not (condition (formulas d) (term.Read s None))).what).what ss bs
registers_hold d found _ _ = refl

-- so the guard of a value's number is what it is to be in that state
pub guard_is_state : (d : Context) (ss : List ℕ) (v : Term) → (number_guard d ss (constant_of d v).number).what ≡ is_state (formulas d) d ss v
guard_is_state d ss v = registers_hold d (Const true) ss (digits (length ss) (constant_of d v).number)

-- ---- a bit, by what making it leaves

pub bit_made : (p : Place) (old new : List Node) (id : ExprId) (m : Made Formula) → IsMade ShowsOne (arena old) (arena new) id m → MakesBit p m old new (Ok id)
bit_made p old new id m h = (λ list. built_nodes p m.nodes old new list h.grew h.within, h.shows)

pub bit_past : (p : Place) (old new : List Node) (m : Made Formula) → Keeps (arena old) (arena new) → IsPast (arena old) m.nodes → MakesBit p m old new (Err (fault.NodeLimit p))
bit_past p old new m k h = (λ list. (limit_here p m.nodes (length (arena old)) h, leaves_nodes old new list k), tt)

pub no_memory : (p : Place) (old new : List Node) (m : Made Formula) → Keeps (arena old) (arena new) → MakesBit p m old new (Err fault.OutOfMemory)
no_memory p old new m k = (λ list. (NoMemory refl, leaves_nodes old new list k), tt)

pub bit_keeps : (p : Place) (old new : List Node) (r : Result ExprId SectionFault) (m : Made Formula) → MakesBit p m old new r → Keeps (arena old) (arena new)
bit_keeps p old new (Ok id) m b = (b.0 []).made.grew.keeps
bit_keeps p old new (Err f) m b = (b.0 []).1.keeps

-- ---- a bit over a bit

pub bit_then : (p : Place) (old mid new : List Node) (id : ExprId) (r : Result ExprId SectionFault) (m : Made Formula) (k : Formula → Made Formula) → MakesBit p m old mid (Ok id) → MakesBit p (k m.what) mid new r → MakesBit p (m >>= k) old new r
bit_then p old mid new id r m k a b =
    (λ list. two_parts p m.nodes (k m.what).nodes (record { exprs = old; list = list }) (record { exprs = mid; list = list }) (record { exprs = new; list = list }) r (a.0 list) (b.0 list), b.1)

-- what stops the first stops both
pub bit_stops : (p : Place) (old new : List Node) (f : SectionFault) (m : Made Formula) (k : Formula → Made Formula) → MakesBit p m old new (Err f) → MakesBit p (m >>= k) old new (Err f)
bit_stops p old new f m k a =
    (λ list. stops_longer p [] m.nodes (k m.what).nodes (record { exprs = old; list = list }) (record { exprs = new; list = list }) f (a.0 list), tt)

-- ---- registers

-- a literal over what its register reads
literal_then : (d : Context) (p : Place) (old mid new : List Node) (found bit : ExprId) (s : ℕ) (b : Bool) (r : Result ExprId SectionFault) → found.0 < length (arena old) → MakesBit p (bare_read d s) old mid (Ok bit)
    → MakesBit p (make_literal (formula_at (arena mid) found) b (formula_at (arena mid) bit)) mid new r → MakesBit p (register_literal d (formula_at (arena old) found) s b) old new r
literal_then d p old mid new found bit s b r lt a m =
    let same = kept_formula (arena old) (arena mid) found (bit_keeps p old mid (Ok bit) (bare_read d s) a) lt in
    bit_then p old mid new bit r (bare_read d s) (λ f. make_literal (formula_at (arena old) found) b f) a (subst₂ (λ f h. MakesBit p (make_literal f b h) mid new r) same a.1.1 m)

-- registers with one more on the right
literals_last : (d : Context) (f : Formula) (ss : List ℕ) (s : ℕ) (bs : List Bool) (b : Bool) → length ss ≡ length bs → register_literals d f (ss ++ s ∷ []) (bs ++ b ∷ []) ≡ (register_literals d f ss bs >>= λ g. register_literal d g s b)
literals_last d f [] s [] b e = made_is (register_literals d f (s ∷ []) (b ∷ [])) (register_literals d f [] [] >>= λ g. register_literal d g s b) refl (omega arith)
literals_last d f (t ∷ ss) s (c ∷ bs) b e =
    let next = (register_literal d f t c).what in
    let same = literals_last d next ss s bs b (omega (arith, e)) in
    made_is (register_literals d f (t ∷ ss ++ s ∷ []) (c ∷ bs ++ b ∷ [])) (register_literals d f (t ∷ ss) (c ∷ bs) >>= λ g. register_literal d g s b)
    (ap (λ (m : Made Formula). m.what) same) (omega (arith, ap (λ (m : Made Formula). m.nodes) same))
literals_last d f _ s _ b e = absurd (omega (arith, e))

more_digits : (w n : ℕ) → digits (suc w) n ≡ digits w (n / 2) ++ (n % 2 == 1) ∷ []
more_digits w n = reverse-append ((n % 2 == 1) ∷ []) (digits_low_first w (n / 2))

-- so the guard of a number reads its last digit last
pub guard_last : (d : Context) (xs : List Aim) (x : Aim) (n : ℕ) → number_guard d (signals_of (xs ++ x ∷ [])) n ≡ (number_guard d (signals_of xs) (n / 2) >>= λ f. register_literal d f x.signal (n % 2 == 1))
guard_last d xs x n =
    let ss = signals_of xs in
    let w = length ss in
    subst (λ (ts : List ℕ). number_guard d ts n ≡ (number_guard d ss (n / 2) >>= λ f. register_literal d f x.signal (n % 2 == 1))) (sym (map-append (λ (a : Aim). a.signal) xs (x ∷ [])))
    (ap (λ (k : ℕ). register_literals d (Const true) (ss ++ x.signal ∷ []) (digits k n)) (length-append ss (x.signal ∷ []) ∙ add-one w)
    ∙ ap (λ (bs : List Bool). register_literals d (Const true) (ss ++ x.signal ∷ []) bs) (more_digits w n)
    ∙ literals_last d (Const true) ss x.signal (digits w (n / 2)) (n % 2 == 1) (sym (length-reverse (digits_low_first w (n / 2)) ∙ length_digits w (n / 2))))

-- the literal of one register more on the right, after the others
pub guard_then : (d : Context) (p : Place) (xs ys : List Aim) (x : Aim) (n : ℕ) (old mid new : List Node) (found : ExprId) (r : Result ExprId SectionFault) → xs ≡ ys ++ x ∷ []
    → MakesBit p (number_guard d (signals_of ys) (n / 2)) old mid (Ok found) → MakesBit p (register_literal d (formula_at (arena mid) found) x.signal (n % 2 == 1)) mid new r → MakesBit p (number_guard d (signals_of xs) n) old new r
guard_then d p xs ys x n old mid new found r e a m =
    let front = number_guard d (signals_of ys) (n / 2) in
    let literal = λ (f : Formula). register_literal d f x.signal (n % 2 == 1) in
    subst (λ (m : Made Formula). MakesBit p m old new r) (sym (ap (λ (zs : List Aim). number_guard d (signals_of zs) n) e ∙ guard_last d ys x n))
    (bit_then p old mid new found r front literal a (subst (λ f. MakesBit p (literal f) mid new r) a.1.1 m))

-- its last literal is made over what the last register reads
pub guard_more : (d : Context) (p : Place) (xs ys : List Aim) (x : Aim) (n : ℕ) (old mid far new : List Node) (found bit : ExprId) (r : Result ExprId SectionFault) (digit : Bool) → (n % 2 == 1) ≡ digit → xs ≡ ys ++ x ∷ []
    → MakesBit p (number_guard d (signals_of ys) (n / 2)) old mid (Ok found) → MakesBit p (bare_read d x.signal) mid far (Ok bit)
    → MakesBit p (make_literal (formula_at (arena far) found) digit (formula_at (arena far) bit)) far new r → MakesBit p (number_guard d (signals_of xs) n) old new r
guard_more d p xs ys x n old mid far new found bit r digit k e a b m =
    guard_then d p xs ys x n old mid new found r e a
    (literal_then d p mid far new found bit x.signal (n % 2 == 1) r a.1.0 b (subst (λ y. MakesBit p (make_literal (formula_at (arena far) found) y (formula_at (arena far) bit)) far new r) (sym k) m))

-- no register makes no node
pub no_literal : (d : Context) (ns : List Node) (p : Place) (xs : List Aim) (n : ℕ) → length xs ≡ 0 → MakesBit p (number_guard d (signals_of xs) n) ns ns (Ok (record { 0 = 1 }))
no_literal d ns p [] n e = bit_made p ns ns (record { 0 = 1 }) (free (Const true)) (record { shows = high_bit ns (record { 0 = 1 }) refl; grew = grew_none (arena ns); within = λ p. omega (arith, p.0) })
no_literal d ns p (x ∷ xs) n e = absurd (omega (arith, e))
