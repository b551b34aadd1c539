-- The forms placed, times and unless, and the form that nothing spells, keep the laws.
use Rattle.std.proofs.Common.{◌≡◌, ℕ, zero, suc, ◌≤◌, ◌<◌, ◌⊎◌, inl, inr, Bool, true, false, cond, List, [], ◌∷◌, ◌++◌, length, Option, Some, None, Result, Ok, Err, refl, sym, ap, subst, ◌∙◌, arith, length-append, ◌||◌, ◌&&◌, not}
use Rattle.abel_grammar.proofs.Common.{Form, token, ◌then◌, followed, made, given, nothing, Stop, Syntax, TooDeep, left_of, Reader, ◌>>=◌, starts, read_token, ◌then_read◌, read_followed, read_made, read_given, read_deep, placed, times, unless, read_placed, read_times, read_unless, read_nothing}
use Rattle.abel_grammar.proofs.Laws.{Within, Lawful, result_cases, bind_ok, bind_err, starts_apart, never_grows}
use Rattle.abel_grammar.proofs.TokenLaws.{given_laws}
use Rattle.abel_grammar.proofs.FollowedLaws.{followed_laws}
use Rattle.abel_grammar.proofs.MadeLaws.{made_laws, relaxed_laws}
use Rattle.abel_grammar.proofs.DepthLaws.{deep_laws}

-- ---- what nothing spells

nothing_opens : {X : Type 0} (first : X → Bool) (x : X) (us : List X) → x ∷ us ≡ [] → first x ≡ true
nothing_opens first x us e = absurd cc

nothing_covers : {X : Type 0} (T : Type 0) (us more : List X) → us ≡ [] → Within {T = T} more (read_nothing {A = T} (us ++ more))
nothing_covers T [] more h = omega arith
nothing_covers T (x ∷ us) more h = absurd cc

nothing_front : {X : Type 0} (T : Type 0) (ts : List X) (s : Stop X) → read_nothing {A = T} ts ≡ Err s → ts ≡ left_of s
nothing_front T ts s e = let is : Syntax ts ≡ s = cc in ap left_of is

pub nothing_laws : {X T : Type 0} (first : X → Bool) (goes : T → X → Bool) (null : Bool) → Lawful nothing nothing (read_nothing {A = T}) read_nothing first goes null
nothing_laws {X} {T} first goes null = record {
  place = λ ts t rest s. absurd s;
  whole = λ us t s. absurd s;
  nil = refl;
  opens = nothing_opens first;
  takes = λ ts t rest s. absurd s;
  sound = λ ts x e. absurd cc;
  only = λ ts t rest s e. absurd s;
  front = λ ts s e. ([], nothing_front T ts s e, refl);
  covers = nothing_covers T;
  grows = λ ts t rest s. s;
  grows_begins = λ us h. h;
  deep = λ ts left e. absurd cc;
  same_ok = λ ts x e. e;
  same_err = λ ts left e. e;
}

-- ---- a form may be said to take no token

pub nullable_laws : {X T : Type 0} (a a' : Form X T) (r r' : Reader X T) (first : X → Bool) (goes : T → X → Bool) (null : Bool) → Lawful a a' r r' first goes null → Lawful a a' r r' first goes true
nullable_laws a a' r r' first goes null l = record {
  place = l.place;
  whole = l.whole;
  nil = l.nil;
  opens = l.opens;
  takes = λ ts t rest s. elim (l.takes ts t rest s) [ inl h ↦ inl h | inr h ↦ inr (refl, h.1) ];
  sound = l.sound;
  only = l.only;
  front = l.front;
  covers = l.covers;
  grows = l.grows;
  grows_begins = l.grows_begins;
  deep = l.deep;
  same_ok = l.same_ok;
  same_err = l.same_err;
}

-- ---- a form with its first token

module _ {X A : Type 0} (a a' : Form X A) (ra ra' : Reader X A) (fa : X → Bool) (ga : A → X → Bool) (la : Lawful a a' ra ra' fa ga false) where
  has_first : (x : X) (us c rest : List X) → x ∷ us ≡ c ++ rest → length rest < length (x ∷ us) → (d : List X) × (c ≡ x ∷ d)
  has_first x us [] rest e lt = absurd (omega (arith, ap length e))
  has_first x us (y ∷ d) rest e lt = (d, let is : y ≡ x = cc in ap (λ (z : X). z ∷ d) is)

  takes_one : (ts : List X) (t : A) (rest : List X) → a.spells ts t rest → (starts fa ts ≡ true) × (length rest < length ts)
  takes_one ts t rest s = elim (la.takes ts t rest s) [ inl h ↦ h | inr (n, e) ↦ absurd cc ]

  placed_place : (ts : List X) (t : X × A) (rest : List X) → (placed a).spells ts t rest → (c : List X) × (ts ≡ c ++ rest) × ((other : List X) → (placed a).spells (c ++ other) t other)
  placed_place ts t rest s =
      let p = la.place ts t.1 rest s.2 in
      let lt = (takes_one ts t.1 rest s.2).1 in
      let q = has_first t.0 s.0 p.0 rest (sym s.1 ∙ p.1) (subst (λ (m : List X). length rest < length m) s.1 lt) in
      (p.0, p.1, λ other. (q.0 ++ other, ap (λ (m : List X). m ++ other) q.1, p.2 other))

  placed_sound : (ts : List X) (x : (X × A) × List X) → read_placed ra ts ≡ Ok x → (placed a).spells ts x.0 x.1
  placed_sound [] x e = absurd cc
  placed_sound (y ∷ ts) x e =
      let p = bind_ok (ra (y ∷ ts)) (λ z. Ok ((y, z.0), z.1)) x e in
      let is : ((y, p.0.0), p.0.1) ≡ x = cc in
      subst (λ (z : (X × A) × List X). (placed a).spells (y ∷ ts) z.0 z.1) is (ts, refl, la.sound (y ∷ ts) p.0 p.1)

  placed_read : (ts : List X) (t : X × A) (us rest : List X) → ts ≡ t.0 ∷ us → ra ts ≡ Ok (t.1, rest) → read_placed ra ts ≡ Ok (t, rest)
  placed_read ts t us rest e d = subst (λ (m : List X). read_placed ra m ≡ Ok (t, rest)) (sym e) (let k : ra (t.0 ∷ us) ≡ Ok (t.1, rest) = ap ra (sym e) ∙ d in rw k refl)

  placed_front : (ts : List X) (s : Stop X) → read_placed ra ts ≡ Err s → (c : List X) × (ts ≡ c ++ left_of s) × a.begins c
  placed_front [] s e = ([], let is : Syntax [] ≡ s = cc in ap left_of is, la.nil)
  placed_front (y ∷ ts) s e = elim (bind_err (ra (y ∷ ts)) (λ z. Ok ((y, z.0), z.1)) s e) [ inl k ↦ la.front (y ∷ ts) s k | inr (z, k, w) ↦ absurd cc ]

  placed_within : (more : List X) (y : X) (r : Result (A × List X) (Stop X)) → Within more r → Within {T = X × A} more (r >>= λ z. Ok ((y, z.0), z.1))
  placed_within more y (Ok x) w = w
  placed_within more y (Err s) w = w

  placed_nothing : (more : List X) → Within more (read_placed ra more)
  placed_nothing [] = omega arith
  placed_nothing (x ∷ more) = placed_within (x ∷ more) x (ra (x ∷ more)) (never_grows _ _ _ _ _ _ _ la (x ∷ more))

  placed_covers : (us more : List X) → a.begins us → Within more (read_placed ra (us ++ more))
  placed_covers [] more h = placed_nothing more
  placed_covers (x ∷ us) more h = placed_within more x (ra ((x ∷ us) ++ more)) (la.covers (x ∷ us) more h)

  placed_deep : (ts left : List X) → read_placed ra ts ≡ Err (TooDeep left) → (c : List X) × (x : X) × (rest : List X) × (ts ≡ c ++ x ∷ rest) × (left ≡ x ∷ rest) × a'.begins (c ++ x ∷ [])
  placed_deep [] left e = absurd cc
  placed_deep (y ∷ ts) left e = elim (bind_err (ra (y ∷ ts)) (λ z. Ok ((y, z.0), z.1)) (TooDeep left) e) [ inl k ↦ la.deep (y ∷ ts) left k | inr (z, k, w) ↦ absurd cc ]

  placed_same_ok : (ts : List X) (x : (X × A) × List X) → read_placed ra ts ≡ Ok x → read_placed ra' ts ≡ Ok x
  placed_same_ok [] x e = e
  placed_same_ok (y ∷ ts) x e = let p = bind_ok (ra (y ∷ ts)) (λ z. Ok ((y, z.0), z.1)) x e in rw (la.same_ok (y ∷ ts) p.0 p.1) p.2

  placed_same_err : (ts left : List X) → read_placed ra ts ≡ Err (Syntax left) → read_placed ra' ts ≡ Err (Syntax left)
  placed_same_err [] left e = e
  placed_same_err (y ∷ ts) left e = elim (bind_err (ra (y ∷ ts)) (λ z. Ok ((y, z.0), z.1)) (Syntax left) e) [ inl k ↦ rw (la.same_err (y ∷ ts) left k) refl | inr (z, k, w) ↦ absurd cc ]

  pub placed_laws : Lawful (placed a) (placed a') (read_placed ra) (read_placed ra') fa (λ t x. ga t.1 x) false
  placed_laws = record {
    place = placed_place;
    whole = λ us t s. la.whole us t.1 s.2;
    nil = la.nil;
    opens = la.opens;
    takes = λ ts t rest s. la.takes ts t.1 rest s.2;
    sound = placed_sound;
    only = λ ts t rest s e. placed_read ts t s.0 rest s.1 (la.only ts t.1 rest s.2 e);
    front = placed_front;
    covers = placed_covers;
    grows = λ ts t rest s. (s.0, s.1, la.grows ts t.1 rest s.2);
    grows_begins = la.grows_begins;
    deep = placed_deep;
    same_ok = placed_same_ok;
    same_err = placed_same_err;
  }

-- ---- a form whose first token opens a nesting: too deep, and at the next depth

miss_made : {X A B : Type 0} (f : X × A → B) (test : X → Bool) (r : Reader X A) (ts : List X) → starts test ts ≡ false → read_made f (read_token test then_read r) ts ≡ Err (Syntax ts)
miss_made f test r [] e = refl
miss_made f test r (x ∷ ts) e = rw e refl

pub opening_laws : {X A B : Type 0} (f : X × A → B) (test : X → Bool) (a : Form X A) (r : Reader X A) (goes : B → X → Bool)
    → Lawful nothing (made f (token test then a)) (read_deep test) (read_made f (read_token test then_read r)) test goes false
opening_laws f test a r goes = deep_laws (made f (token test then a)) (read_made f (read_token test then_read r)) test goes (λ x h. inl h) (inl tt) (λ ts e. miss_made f test r ts e)

-- ---- a second part that is answered unless the first stops it

module _ {X A B : Type 0} (a a' : Form X A) (ra ra' : Reader X A) (fa : X → Bool) (ga : A → X → Bool) (na : Bool) (la : Lawful a a' ra ra' fa ga na)
    (stops : A → Bool) (d : B) (b b' : Form X B) (rb rb' : Reader X B) (fb : X → Bool) (gb : B → X → Bool) (nb : Bool) (lb : Lawful b b' rb rb' fb gb nb)
    (apart : (t : A) (x : X) → stops t ≡ false → fb x ≡ true → ga t x ≡ false) where
  abbrev tail_first : Bool → X → Bool
  tail_first s x = not s && fb x

  abbrev tail_goes : Bool → B → X → Bool
  tail_goes s u x = not s && gb u x

  tail_laws : (s : Bool) → Lawful (unless s d b) (unless s d b') (read_unless s d rb) (read_unless s d rb') (tail_first s) (tail_goes s) true
  tail_laws true = given_laws d (tail_first true) (tail_goes true)
  tail_laws false = relaxed_laws _ _ _ _ fb (tail_first false) gb (tail_goes false) true (nullable_laws b b' rb rb' fb gb nb lb) (λ x h. h) (λ t x h. h)

  tail_apart : (s : Bool) (t : A) (x : X) → stops t ≡ s → tail_first s x ≡ true → ga t x ≡ false
  tail_apart true t x e h = absurd cc
  tail_apart false t x e h = apart t x e h

  second : (u v : Bool) → (u && v) ≡ true → v ≡ true
  second true v e = e
  second false v e = absurd cc

  pub unless_laws : Lawful (followed a (λ t. unless (stops t) d b)) (followed a' (λ t. unless (stops t) d b')) (read_followed ra (λ t. read_unless (stops t) d rb)) (read_followed ra' (λ t. read_unless (stops t) d rb'))
      (λ x. fa x || (na && fb x)) (λ t x. tail_goes (stops t.0) t.1 x || (true && ga t.0 x)) (na && true)
  unless_laws =
      followed_laws a a' (λ t. unless (stops t) d b) (λ t. unless (stops t) d b') ra ra' (λ t. read_unless (stops t) d rb) (λ t. read_unless (stops t) d rb') fa (λ t. tail_first (stops t)) fb ga (λ t. tail_goes (stops t)) na true
      la (λ t. tail_laws (stops t)) (λ t x h. tail_apart (stops t) t x refl h) (λ t x h. second (not (stops t)) (fb x) h)

-- ---- a form so many times

module _ {X A : Type 0} (a a' : Form X A) (ra ra' : Reader X A) (fa gall : X → Bool) (la : Lawful a a' ra ra' fa (λ t x. gall x) false) (apart : (x : X) → fa x ≡ true → gall x ≡ false) where
  or_self : (g b : Bool) → g ≡ false → (g || (b && g)) ≡ false
  or_self true b e = absurd cc
  or_self false true e = e
  or_self false false e = e

  or_first : (f b : Bool) → (f || (false && b)) ≡ true → f ≡ true
  or_first true b e = refl
  or_first false b e = absurd cc

  pub times_laws : (n : ℕ) → Lawful (times n a) (times n a') (read_times n ra) (read_times n ra') fa (λ t x. gall x) true
  times_laws zero = given_laws [] fa (λ t x. gall x)
  times_laws (suc n) =
      let both = followed_laws a a' (λ _. times n a) (λ _. times n a') ra ra' (λ _. read_times n ra) (λ _. read_times n ra') fa (λ _. fa) fa (λ t x. gall x) (λ t u x. gall x) false true la (λ _. times_laws n) (λ t x h. apart x h) (λ t x h. h) in
      nullable_laws _ _ _ _ _ _ false
      (made_laws (λ (x : A × List A). x.0 ∷ x.1) _ _ _ _ fa (λ t x. gall x) (λ t x. gall x) false
      (relaxed_laws _ _ _ _ _ fa _ (λ (t : A × List A) (x : X). gall x) false both (λ x h. or_first (fa x) (fa x) h) (λ t x h. or_self (gall x) true h)) (λ t x h. h))
