-- What is made of a form keeps its laws; and the laws hold with more that may start it or go on after it.
use Rattle.std.proofs.Common.{◌≡◌, ◌<◌, ◌⊎◌, inl, inr, Bool, true, false, cond, List, [], ◌∷◌, ◌++◌, length, Option, Some, None, Result, Ok, Err, refl, sym, ap, subst, arith}
use Rattle.abel_grammar.proofs.Common.{Form, made, Stop, Syntax, TooDeep, left_of, Reader, ◌>>=◌, starts, read_made}
use Rattle.abel_grammar.proofs.Laws.{Within, Lawful, bind_ok, bind_err, starts_wider}

made_within : {X A B : Type 0} (f : A → B) (more : List X) (r : Result (A × List X) (Stop X)) → Within more r → Within {T = B} more (r >>= λ x. Ok (f x.0, x.1))
made_within f more (Ok x) w = w
made_within f more (Err s) w = w

module _ {X A B : Type 0} (f : A → B) (a a' : Form X A) (ra ra' : Reader X A) (fa : X → Bool) (ga : A → X → Bool) (goes : B → X → Bool) (na : Bool) (la : Lawful a a' ra ra' fa ga na)
    (wider : (t : A) (x : X) → goes (f t) x ≡ false → ga t x ≡ false) where
  stops_made : (t : A) (rest : List X) → starts (goes (f t)) rest ≡ false → starts (ga t) rest ≡ false
  stops_made t [] e = refl
  stops_made t (x ∷ rest) e = wider t x e

  made_sound : (ts : List X) (x : B × List X) → read_made f ra ts ≡ Ok x → (made f a).spells ts x.0 x.1
  made_sound ts x e =
      let p = bind_ok (ra ts) (λ y. Ok (f y.0, y.1)) x e in
      let is : (f p.0.0, p.0.1) ≡ x = cc in
      subst (λ (y : B × List X). (made f a).spells ts y.0 y.1) is (p.0.0, la.sound ts p.0 p.1, refl)

  made_front : (ts : List X) (s : Stop X) → read_made f ra ts ≡ Err s → ra ts ≡ Err s
  made_front ts s e = elim (bind_err (ra ts) (λ y. Ok (f y.0, y.1)) s e) [ inl k ↦ k | inr (y, k, w) ↦ absurd cc ]

  made_only : (ts : List X) (t : B) (rest : List X) → (made f a).spells ts t rest → starts (goes t) rest ≡ false → read_made f ra ts ≡ Ok (t, rest)
  made_only ts t rest s e = rw (la.only ts s.0 rest s.1 (stops_made s.0 rest (subst (λ (y : B). starts (goes y) rest ≡ false) (sym s.2) e))) (ap (λ (y : B). Ok (y, rest)) s.2)

  made_same_ok : (ts : List X) (x : B × List X) → read_made f ra ts ≡ Ok x → read_made f ra' ts ≡ Ok x
  made_same_ok ts x e = let p = bind_ok (ra ts) (λ y. Ok (f y.0, y.1)) x e in rw (la.same_ok ts p.0 p.1) p.2

  pub made_laws : Lawful (made f a) (made f a') (read_made f ra) (read_made f ra') fa goes na
  made_laws = record {
    place = λ ts t rest s. let p = la.place ts s.0 rest s.1 in (p.0, p.1, λ other. (s.0, p.2 other, s.2));
    whole = λ us t s. la.whole us s.0 s.1;
    nil = la.nil;
    opens = la.opens;
    takes = λ ts t rest s. la.takes ts s.0 rest s.1;
    sound = made_sound;
    only = made_only;
    front = λ ts s e. la.front ts s (made_front ts s e);
    covers = λ us more h. made_within f more (ra (us ++ more)) (la.covers us more h);
    grows = λ ts t rest s. (s.0, la.grows ts s.0 rest s.1, s.2);
    grows_begins = la.grows_begins;
    deep = λ ts left e. la.deep ts left (made_front ts (TooDeep left) e);
    same_ok = made_same_ok;
    same_err = λ ts left e. rw (la.same_err ts left (made_front ts (Syntax left) e)) refl;
  }

-- ---- more that may start a form, or that may go on after it

module _ {X T : Type 0} (a a' : Form X T) (ra ra' : Reader X T) (fa fb : X → Bool) (ga gb : T → X → Bool) (na : Bool) (la : Lawful a a' ra ra' fa ga na)
    (first : (x : X) → fa x ≡ true → fb x ≡ true) (behind : (t : T) (x : X) → gb t x ≡ false → ga t x ≡ false) where
  relax_stops : (t : T) (rest : List X) → starts (gb t) rest ≡ false → starts (ga t) rest ≡ false
  relax_stops t [] e = refl
  relax_stops t (x ∷ rest) e = behind t x e

  relax_takes : (ts : List X) (t : T) (rest : List X) → a.spells ts t rest → ((starts fb ts ≡ true) × (length rest < length ts)) ⊎ ((na ≡ true) × (ts ≡ rest))
  relax_takes ts t rest s = elim (la.takes ts t rest s) [ inl (h, lt) ↦ inl (starts_wider fa fb first ts h, lt) | inr h ↦ inr h ]

  pub relaxed_laws : Lawful a a' ra ra' fb gb na
  relaxed_laws = record {
    place = la.place;
    whole = la.whole;
    nil = la.nil;
    opens = λ x us h. first x (la.opens x us h);
    takes = relax_takes;
    sound = la.sound;
    only = λ ts t rest s e. la.only ts t rest s (relax_stops t rest e);
    front = la.front;
    covers = la.covers;
    grows = la.grows;
    grows_begins = la.grows_begins;
    deep = la.deep;
    same_ok = la.same_ok;
    same_err = la.same_err;
  }
