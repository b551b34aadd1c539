-- Making one thing after another.
use Rattle.std.proofs.Common.{◌≡◌, ℕ, zero, suc, ◌+◌, ◌<◌, ◌≤◌, false, List, [], ◌∷◌, length, get_or, drop, reverse, ◌++◌, Result, Ok, Err, refl, sym, ap, ap₂, ◌∙◌, subst, arith}
use Rattle.expr_bits.proofs.Common.{reverse-append, slice_get_within, slice_get-get_or, get_or_from_slice_get, MOST, arena, formula_at, Grew, Adds, PassesLimit, Made, free, ◌>>=◌, Formula, Const, ExprFault, ExprId, Node, or_and_of, IsMade, ShowsOne, AllIn, word_at, Makes}
use Rattle.bit_expr.specs.declared.fault.ExprFault.TheVariants as fault

-- two things that were made of the same nodes
pub made_is : {A : Type 0} (m n : Made A) → m.what ≡ n.what → m.nodes ≡ n.nodes → m ≡ n
made_is m n e f = ap₂ (λ w k. record { what = w; nodes = k }) e f

-- ---- what was there

pub kept : (old new : List Formula) (n : ℕ) (id : ExprId) → Grew old new n → id.0 < length old → formula_at new id ≡ formula_at old id
kept old new n id g h = get_or_from_slice_get new id.0 (formula_at old id) (Const false) (g.keeps id.0 (formula_at old id) (slice_get-get_or old id.0 (Const false) h))

pub in_kept : (old new : List Formula) (n : ℕ) (ids : List ExprId) → Grew old new n → AllIn (length old) ids → AllIn (length new) ids
in_kept old new n [] g s = tt
in_kept old new n (i ∷ is) g s = (omega (arith, g.count, s.0), in_kept old new n is g s.1)

pub word_kept : (old new : List Formula) (n : ℕ) (ids : List ExprId) → Grew old new n → AllIn (length old) ids → word_at new ids ≡ word_at old ids
word_kept old new n [] g s = refl
word_kept old new n (i ∷ is) g s = ap₂ (λ f fs. f ∷ fs) (kept old new n i g s.0) (word_kept old new n is g s.1)

pub one_kept : (old new : List Formula) (n : ℕ) (id : ExprId) (f : Formula) → Grew old new n → ShowsOne old id f → ShowsOne new id f
one_kept old new n id f g s = (omega (arith, g.count, s.0), kept old new n id g s.0 ∙ s.1)

-- ---- one after the other

pub grew_then : (a b c : List Formula) (m n : ℕ) → Grew a b m → Grew b c n → Grew a c (m + n)
grew_then a b c m n g h = record { keeps = λ i f e. h.keeps i f (g.keeps i f e); count = omega (arith, g.count, h.count) }

-- what passes the limit only with the second part passes it there
apart : (m n a b : ℕ) → b ≡ a + m → (PassesLimit MOST a m → ⊥) → PassesLimit MOST a (m + n) → PassesLimit MOST b n
apart m zero a b e h p = absurd (h (omega (arith, p.0), omega (arith, p.1)))
apart m (suc n) a b e h p = (omega arith, omega (arith, p.1, e))

-- one thing was made, and then the whole
pub then_all : {A B R S : Type 0} (ShowsA : List Formula → R → A → Type 0) (ShowsB : List Formula → S → B → Type 0) (old mid new : List Node) (r : R) (result : Result S ExprFault) (m : Made A) (k all : Made B) → Makes ShowsA old mid (Ok r) m → Makes ShowsB mid new result k → all.what ≡ k.what → all.nodes ≡ m.nodes + k.nodes → Makes ShowsB old new result all
then_all ShowsA ShowsB old mid new r (Ok s) m k all a b e f =
    record {
      shows = subst (ShowsB (arena new) s) (sym e) b.shows;
      grew = subst (λ n. Grew (arena old) (arena new) n) (sym f) (grew_then (arena old) (arena mid) (arena new) m.nodes k.nodes a.grew b.grew);
      within = λ p. b.within (apart m.nodes k.nodes (length (arena old)) (length (arena mid)) a.grew.count a.within (subst (λ n. PassesLimit MOST (length (arena old)) n) f p));
    }
then_all ShowsA ShowsB old mid new r (Err fault.NodeLimit) m k all a b e f = (
  λ i t g. b.0 i t (a.grew.keeps i t g),
  (omega (arith, b.1.0, f), omega (arith, b.1.1, a.grew.count, f)),
)
then_all ShowsA ShowsB old mid new r (Err fault.OutOfMemory) m k all a b e f = λ i t g. b i t (a.grew.keeps i t g)

-- two bits were made, and then `p # q & other` of them
pub then_or_and : (old mid last new : List Node) (p q other : ExprId) (r : Result ExprId ExprFault) (f g : Made Formula) (h : Formula) → Makes ShowsOne old mid (Ok p) f → Makes ShowsOne mid last (Ok q) g → ShowsOne (arena old) other h
    → Makes ShowsOne last new r (or_and_of (formula_at (arena last) p) (formula_at (arena last) q) (formula_at (arena last) other)) → Makes ShowsOne old new r (f >>= λ x. g >>= λ y. or_and_of x y h)
then_or_and old mid last new p q other r f g h one two there made =
    let x = (one_kept (arena mid) (arena last) g.nodes p f.what two.grew one.shows).1 in
    let z = (one_kept (arena mid) (arena last) g.nodes other h two.grew (one_kept (arena old) (arena mid) f.nodes other h one.grew there)).1 in
    let three : Makes ShowsOne last new r (or_and_of f.what g.what h) = rw (x, two.shows.1, z) at made in
    then_all ShowsOne ShowsOne old mid new p r f (g >>= λ y. or_and_of f.what y h) (f >>= λ x. g >>= λ y. or_and_of x y h) one
    (then_all ShowsOne ShowsOne mid last new q r g (or_and_of f.what g.what h) (g >>= λ y. or_and_of f.what y h) two three refl refl)
    refl refl

-- a part was refused
pub stopped : {A B R S : Type 0} (ShowsA : List Formula → R → A → Type 0) (ShowsB : List Formula → S → B → Type 0) (old new : List Node) (e : ExprFault) (m : Made A) (all : Made B) → Makes ShowsA old new (Err e) m → m.nodes ≤ all.nodes → Makes ShowsB old new (Err e) all
stopped ShowsA ShowsB old new fault.NodeLimit m all a h = (a.0, (omega (arith, a.1.0, h), omega (arith, a.1.1, h)))
stopped ShowsA ShowsB old new fault.OutOfMemory m all a h = a

pub grew_none : (fs : List Formula) → Grew fs fs 0
grew_none fs = record { keeps = λ i f e. e; count = omega arith }

-- nothing was made
pub nothing_made : {A R : Type 0} (Shows : List Formula → R → A → Type 0) (old : List Node) (r : R) (a : A) → Shows (arena old) r a → Makes Shows old old (Ok r) (free a)
nothing_made Shows old r a s = record { shows = s; grew = grew_none (arena old); within = λ p. omega (arith, p.0) }

pub adds_makes : (old new : List Node) (result : Result ExprId ExprFault) (m : Made Formula) → Adds MOST old new result m → Makes ShowsOne old new result m
adds_makes old new (Ok id) m a =
    record {
      shows = (slice_get_within (arena new) id.0 m.what a.formula, get_or_from_slice_get (arena new) id.0 m.what (Const false) a.formula);
      grew = a.grew;
      within = a.within;
    }
adds_makes old new (Err fault.NodeLimit) m a = (λ i t e. rw a.0 e, a.1)
adds_makes old new (Err fault.OutOfMemory) m a = λ i t e. rw a e

-- ---- in a loop

-- on the way: this was made, and with what is left to make it gives all
pub record Going {A B R : Type 0} (Shows : List Formula → R → A → Type 0) (old now : List Node) (r : R) (rest : A → Made B) (all : Made B) : Type 0 where
  pub part : Made A
  pub is : IsMade Shows (arena old) (arena now) r part
  pub what : all.what ≡ (rest part.what).what
  pub total : all.nodes ≡ part.nodes + (rest part.what).nodes

pub going_start : {A B R : Type 0} (Shows : List Formula → R → A → Type 0) (old : List Node) (r : R) (rest : A → Made B) (all : Made B) (a : A) → Shows (arena old) r a → all.what ≡ (rest a).what → all.nodes ≡ (rest a).nodes → Going Shows old old r rest all
going_start Shows old r rest all a s e f = record { part = free a; is = nothing_made Shows old r a s; what = e; total = omega (arith, f) }

-- a step was made
pub going_on : {A A' B C R R' S : Type 0} (Shows : List Formula → R → A → Type 0) (ShowsC : List Formula → S → C → Type 0) (Shows' : List Formula → R' → A' → Type 0) (old now new : List Node) (r : R) (s : S) (r' : R') (rest : A → Made B) (all : Made B) (step : Made C) (rest' : A' → Made B) (a' : A') → (g : Going Shows old now r rest all) → Makes ShowsC now new (Ok s) step → Shows' (arena new) r' a' → (rest g.part.what).what ≡ (rest' a').what → (rest g.part.what).nodes ≡ step.nodes + (rest' a').nodes → Going Shows' old new r' rest' all
going_on {A' = A'} Shows ShowsC Shows' old now new r s r' rest all step rest' a' g m shows e f =
    let here : Made A' = record { what = a'; nodes = step.nodes } in
    record {
      part = record { what = a'; nodes = g.part.nodes + step.nodes };
      is = then_all Shows Shows' old now new r (Ok r') g.part here _ g.is (record { shows = shows; grew = m.grew; within = m.within }) refl refl;
      what = g.what ∙ e;
      total = omega (arith, g.total, f);
    }

-- a step was refused
pub going_stop : {A B C R S T : Type 0} (Shows : List Formula → R → A → Type 0) (ShowsC : List Formula → S → C → Type 0) (ShowsB : List Formula → T → B → Type 0) (old now new : List Node) (r : R) (e : ExprFault) (rest : A → Made B) (all : Made B) (step : Made C) → (g : Going Shows old now r rest all) → Makes ShowsC now new (Err e) step → step.nodes ≤ (rest g.part.what).nodes → Makes ShowsB old new (Err e) all
going_stop Shows ShowsC ShowsB old now new r e rest all step g m h = then_all Shows ShowsB old now new r (Err e) g.part (rest g.part.what) all g.is (stopped ShowsC ShowsB now new e step (rest g.part.what) m h) g.what g.total

-- all is made
pub going_done : {A B R T : Type 0} (Shows : List Formula → R → A → Type 0) (ShowsB : List Formula → T → B → Type 0) (old now : List Node) (r : R) (s : T) (rest : A → Made B) (all : Made B) → (g : Going Shows old now r rest all) → (rest g.part.what).nodes ≡ 0 → ShowsB (arena now) s (rest g.part.what).what → Makes ShowsB old now (Ok s) all
going_done Shows ShowsB old now r s rest all g e b =
    let last : IsMade ShowsB (arena now) (arena now) s (rest g.part.what) = record { shows = b; grew = record { keeps = λ i f h. h; count = omega (arith, e) }; within = λ p. omega (arith, p.0, e) } in
    then_all Shows ShowsB old now now r (Ok s) g.part (rest g.part.what) all g.is last g.what g.total

-- ---- places of words

pub in_at : (count : ℕ) (ids : List ExprId) (i : ℕ) (d : ExprId) → AllIn count ids → i < length ids → (get_or ids i d).0 < count
in_at count [] i d a h = absurd (omega (arith, h))
in_at count (x ∷ xs) zero d a h = a.0
in_at count (x ∷ xs) (suc i) d a h = in_at count xs i d a.1 (omega (arith, h))

pub word_drop : (fs : List Formula) (ids : List ExprId) (i : ℕ) (d : ExprId) → i < length ids → drop i (word_at fs ids) ≡ formula_at fs (get_or ids i d) ∷ drop (i + 1) (word_at fs ids)
word_drop fs [] i d h = absurd (omega (arith, h))
word_drop fs (x ∷ xs) zero d h = refl
word_drop fs (x ∷ xs) (suc i) d h =
    let place : suc (i + 1) ≡ suc i + 1 = omega arith in
    word_drop fs xs i d (omega (arith, h)) ∙ ap (λ n. formula_at fs (get_or xs i d) ∷ drop n (word_at fs (x ∷ xs))) place

pub word_past : (fs : List Formula) (ids : List ExprId) (i : ℕ) → length ids ≤ i → drop i (word_at fs ids) ≡ []
word_past fs [] zero h = refl
word_past fs [] (suc i) h = refl
word_past fs (x ∷ xs) zero h = absurd (omega (arith, h))
word_past fs (x ∷ xs) (suc i) h = word_past fs xs i (omega (arith, h))

pub in_append : (count : ℕ) (xs ys : List ExprId) → AllIn count xs → AllIn count ys → AllIn count (xs ++ ys)
in_append count [] ys a b = b
in_append count (x ∷ xs) ys a b = (a.0, in_append count xs ys a.1 b)

pub in_reverse : (count : ℕ) (ids : List ExprId) → AllIn count ids → AllIn count (reverse ids)
in_reverse count [] a = tt
in_reverse count (x ∷ ids) a = rw (reverse-append (x ∷ []) ids) (in_append count (reverse ids) (x ∷ []) (in_reverse count ids a.1) (a.0, tt))
