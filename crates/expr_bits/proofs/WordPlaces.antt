-- Two words gone through position by position, where what was found goes on.
use Rattle.std.proofs.Common.{◌≡◌, ℕ, ◌+◌, ◌<◌, ◌≤◌, nat_eq, Bool, true, false, List, [], ◌∷◌, ◌++◌, length, get_or, drop, Result, Ok, Err, refl, sym, ap, ap₂, ◌∙◌, subst, arith, append_assoc, append-nil, length-drop, ◌-◌, ◌≢◌}
use Rattle.expr_bits.proofs.Common.{nat_tests, length-map, map-append, Vec, arena, formula_at, Made, free, ◌>>=◌, Formula, ExprFault, ExprId, Node, Word, Step, along, step_by, is_last, IsMade, ShowsOne, ShowsTwo, ShowsItems, AllIn, word_at, Makes, relation_step, relation_steps, start_id, start_of}
use Rattle.expr_bits.proofs.Making.{Going, going_done, going_on, going_stop, in_append, in_at, in_kept, made_is, word_kept, word_drop, word_past, kept}
use Rattle.expr_bits.specs.declared.pieces.Relation.{Relation}
use Rattle.expr_bits.specs.declared.pieces.Relation.TheVariants as relation
use Rattle.expr_bits.proofs.AlongWords.{zero_there, one_there, zero_is, one_is}

here : List Node → List ExprId → ℕ → Formula
here old xs i = formula_at (arena old) (get_or xs i (record { 0 = 0 }))

-- what is made at one position, what is found with it, and what is made at all of them
module _ {A B C R S T : Type 0} (ShowsA : List Formula → R → A → Type 0) (ShowsB : List Formula → S → B → Type 0) (ShowsC : List Formula → T → C → Type 0) (one : (last : Bool) → (x y : Formula) → A → Made B) (put : A → B → A) (every : A → Word → Word → Made C) (more : (x y : Formula) (a : A) (xs ys : Word) → every a (x ∷ xs) (y ∷ ys) ≡ (one (is_last xs) x y a >>= λ b. every (put a b) xs ys)) where
  -- what is left from a place on
  abbrev rest : List Node → List ExprId → List ExprId → ℕ → A → Made C
  rest old xs ys i a = every a (drop i (word_at (arena old) xs)) (drop i (word_at (arena old) ys))

  -- what is made there, said of the formulas at the start
  abbrev made_at : List Node → List ExprId → List ExprId → ℕ → A → Made B
  made_at old xs ys i a = one (is_last (drop (i + 1) (word_at (arena old) xs))) (here old xs i) (here old ys i) a

  -- the end
  pub fold_ends : (old now : List Node) (xs ys : List ExprId) (i : ℕ) (r : R) (t : T) (all : Made C) → length xs ≤ i → length ys ≤ i → (g : Going ShowsA old now r (rest old xs ys i) all) → (c : C) → every g.part.what [] [] ≡ free c → ShowsC (arena now) t c → Makes ShowsC old now (Ok t) all
  fold_ends old now xs ys i r t all h k g c none shows =
      let e = ap₂ (every g.part.what) (word_past (arena old) xs i h) (word_past (arena old) ys i k) ∙ none in
      going_done ShowsA ShowsC old now r t (rest old xs ys i) all g (ap (λ p. p.nodes) e) (subst (λ (m : Made C). ShowsC (arena now) t m.what) (sym e) shows)

  module _ (old now new : List Node) (xs ys : List ExprId) (i : ℕ) (r : R) (all : Made C) (a : AllIn (length (arena old)) xs) (b : AllIn (length (arena old)) ys) (h : i < length xs) (k : i < length ys) (g : Going ShowsA old now r (rest old xs ys i) all) (last : Bool) (is : last ≡ is_last (drop (i + 1) (word_at (arena old) xs))) where
    step : rest old xs ys i g.part.what ≡ (made_at old xs ys i g.part.what >>= λ c. rest old xs ys (i + 1) (put g.part.what c))
    unfolding here
    step =
        ap₂ (every g.part.what) (word_drop (arena old) xs i (record { 0 = 0 }) h) (word_drop (arena old) ys i (record { 0 = 0 }) k)
        ∙ more (formula_at (arena old) (get_or xs i (record { 0 = 0 }))) (formula_at (arena old) (get_or ys i (record { 0 = 0 }))) g.part.what (drop (i + 1) (word_at (arena old) xs)) (drop (i + 1) (word_at (arena old) ys))

    seen : (result : Result S ExprFault) → Makes ShowsB now new result (one last (formula_at (arena now) (get_or xs i (record { 0 = 0 }))) (formula_at (arena now) (get_or ys i (record { 0 = 0 }))) g.part.what) → Makes ShowsB now new result (made_at old xs ys i g.part.what)
    unfolding here
    seen result m =
        let x = kept (arena old) (arena now) g.part.nodes (get_or xs i (record { 0 = 0 })) g.is.grew (in_at (length (arena old)) xs i (record { 0 = 0 }) a h) in
        let y = kept (arena old) (arena now) g.part.nodes (get_or ys i (record { 0 = 0 })) g.is.grew (in_at (length (arena old)) ys i (record { 0 = 0 }) b k) in
        subst (λ (z : Bool). Makes ShowsB now new result (one z (formula_at (arena old) (get_or xs i (record { 0 = 0 }))) (formula_at (arena old) (get_or ys i (record { 0 = 0 }))) g.part.what)) is (rw (x, y) at m)

    -- one position more
    pub folds_on : (s : S) (new_r : R) → Makes ShowsB now new (Ok s) (one last (formula_at (arena now) (get_or xs i (record { 0 = 0 }))) (formula_at (arena now) (get_or ys i (record { 0 = 0 }))) g.part.what) → ((c : Made B) → IsMade ShowsB (arena now) (arena new) s c → ShowsA (arena new) new_r (put g.part.what c.what)) → Going ShowsA old new new_r (rest old xs ys (i + 1)) all
    folds_on s new_r made shows =
        let m = seen (Ok s) made in
        let c = made_at old xs ys i g.part.what in
        going_on ShowsA ShowsB ShowsA old now new r s new_r (rest old xs ys i) all c (rest old xs ys (i + 1)) (put g.part.what c.what) g m (shows c m) (ap (λ p. p.what) step) (ap (λ p. p.nodes) step)

    -- and if it is refused
    pub fold_stops : (e : ExprFault) → Makes ShowsB now new (Err e) (one last (formula_at (arena now) (get_or xs i (record { 0 = 0 }))) (formula_at (arena now) (get_or ys i (record { 0 = 0 }))) g.part.what) → Makes ShowsC old new (Err e) all
    fold_stops e made =
        let n = ap (λ p. p.nodes) step in
        going_stop ShowsA ShowsB ShowsC old now new r e (rest old xs ys i) all (made_at old xs ys i g.part.what) g (seen (Err e) made) (omega (arith, n))

-- ---- operators

-- the bits so far, and the carry
abbrev pub Running : List Formula → Vec ExprId × ExprId → Word × Formula → Type 0
Running fs r a = ShowsItems fs r.0 a.0 × ShowsOne fs r.1 a.1

abbrev pub put_bit : Word × Formula → Formula × Formula → Word × Formula
put_bit a b = (a.0 ++ b.0 ∷ [], b.1)

abbrev pub left : Step → Word × Formula → Word → Word → Made Word
left g a xs ys = along g a.1 xs ys >>= λ us. free (a.0 ++ us)

pub left_none : (g : Step) (a : Word × Formula) → left g a [] [] ≡ free a.0
left_none g a = made_is _ _ (append-nil a.0) refl

pub left_more : (g : Step) (x y : Formula) (a : Word × Formula) (xs ys : Word) → left g a (x ∷ xs) (y ∷ ys) ≡ (step_by g (is_last xs) x y a.1 >>= λ b. left g (put_bit a b) xs ys)
left_more g x y a xs ys =
    let made = (step_by g (is_last xs) x y a.1).what in
    made_is _ _ (sym (append_assoc a.0 (made.0 ∷ []) (along g made.1 xs ys).what)) (omega arith)

pub last_is : (fs : List Formula) (ids : List ExprId) (i : ℕ) → i < length ids → nat_eq (i + 1) (length ids) ≡ is_last (drop (i + 1) (word_at fs ids))
last_is fs ids i h =
    by (drop (i + 1) (word_at fs ids)) (length-drop (i + 1) (word_at fs ids) ∙ ap (λ n. n - (i + 1)) (length-map ids (λ id. formula_at fs id)))
  where
    same : (a b : ℕ) → a ≡ b → nat_eq a b ≡ true
    same a b e = grind (arith, nat_tests)

    other : (a b : ℕ) → a ≢ b → nat_eq a b ≡ false
    other a b e = grind (arith, nat_tests)

    by : (w : Word) → length w ≡ length ids - (i + 1) → nat_eq (i + 1) (length ids) ≡ is_last w
    by [] e = same (i + 1) (length ids) (omega (arith, h, e))
    by (x ∷ w) e = other (i + 1) (length ids) (λ f. omega (arith, h, e, f))

-- one bit more, and the next carry
pub running_on : (now new : List Node) (r : Vec ExprId × ExprId) (found : Vec ExprId) (s : ExprId × ExprId) (a : Word × Formula) → found.items ≡ r.0.items ++ s.0 ∷ [] → Running (arena now) r a → (c : Made (Formula × Formula)) → IsMade ShowsTwo (arena now) (arena new) s c → Running (arena new) (found, s.1) (put_bit a c.what)
running_on now new r found s a push shows c m = (
  (
    rw push (in_append (length (arena new)) r.0.items (s.0 ∷ []) (in_kept (arena now) (arena new) c.nodes r.0.items m.grew shows.0.0) (m.shows.0.0, tt)),
    ap (word_at (arena new)) push ∙ (map-append (λ id. formula_at (arena new) id) r.0.items (s.0 ∷ []) ∙ ap₂ (λ us u. us ++ u ∷ []) (word_kept (arena now) (arena new) c.nodes r.0.items m.grew shows.0.0 ∙ shows.0.1) m.shows.0.1),
  ),
  m.shows.1,
)

-- ---- relations

pub relation_none : (r : Relation) (f : Formula) → relation_steps r f [] [] ≡ free f
relation_none relation.Less f = refl
relation_none relation.Equal f = refl

-- a position is made whole before the next
pub relation_more : (r : Relation) (x y f : Formula) (xs ys : Word) → relation_steps r f (x ∷ xs) (y ∷ ys) ≡ (relation_step r x y f >>= λ g. relation_steps r g xs ys)
relation_more relation.Less x y f xs ys = refl
relation_more relation.Equal x y f xs ys = made_is _ _ refl (omega arith)

pub start_shown : (ns : List Node) (r : Relation) → ShowsOne (arena ns) (start_id r) (start_of r)
start_shown ns relation.Less = (zero_there ns, zero_is ns)
start_shown ns relation.Equal = (one_there ns, one_is ns)
