-- A choice by the next token keeps the laws if its forms start with different tokens.
use Rattle.std.proofs.Common.{◌≡◌, ◌<◌, ◌⊎◌, inl, inr, Bool, true, false, cond, List, [], ◌∷◌, ◌++◌, length, Option, Some, None, Result, Ok, Err, refl, sym, ap, subst, arith, ◌||◌}
use Rattle.abel_grammar.proofs.Common.{Form, either, Stop, Syntax, TooDeep, left_of, Reader, ◌>>=◌, starts, read_either}
use Rattle.abel_grammar.proofs.Laws.{Within, Lawful, chosen, or_left, or_right, starts_apart, starts_wider, never_grows}

module _ {X T : Type 0} (a a' b b' : Form X T) (ra ra' rb rb' : Reader X T) (fa fb : X → Bool) (goes : T → X → Bool)
    (la : Lawful a a' ra ra' fa goes false) (lb : Lawful b b' rb rb' fb goes false) (apart : (x : X) → fb x ≡ true → fa x ≡ false) where
  either_sound : (ts : List X) (x : T × List X) → read_either fa ra rb ts ≡ Ok x → (either a b).spells ts x.0 x.1
  either_sound ts x e =
      elim (chosen (starts fa ts) (ra ts) (rb ts) (Ok x) e) [ inl (h, d) ↦ inl (la.sound ts x d) | inr (h, d) ↦ inr (lb.sound ts x d) ]

  either_place : (ts : List X) (t : T) (rest : List X) → (either a b).spells ts t rest → (c : List X) × (ts ≡ c ++ rest) × ((other : List X) → (either a b).spells (c ++ other) t other)
  either_place ts t rest (inl s) = let p = la.place ts t rest s in (p.0, p.1, λ other. inl (p.2 other))
  either_place ts t rest (inr s) = let p = lb.place ts t rest s in (p.0, p.1, λ other. inr (p.2 other))

  either_whole : (us : List X) (t : T) → (either a b).spells us t [] → (either a b).begins us
  either_whole us t (inl s) = inl (la.whole us t s)
  either_whole us t (inr s) = inr (lb.whole us t s)

  either_opens : (x : X) (us : List X) → (either a b).begins (x ∷ us) → (fa x || fb x) ≡ true
  either_opens x us (inl h) = or_left (fa x) (fb x) (la.opens x us h)
  either_opens x us (inr h) = or_right (fa x) (fb x) (lb.opens x us h)

  either_takes : (ts : List X) (t : T) (rest : List X) → (either a b).spells ts t rest → ((starts (λ x. fa x || fb x) ts ≡ true) × (length rest < length ts)) ⊎ ((false ≡ true) × (ts ≡ rest))
  either_takes ts t rest (inl s) = elim (la.takes ts t rest s) [ inl (h, lt) ↦ inl (starts_wider fa (λ x. fa x || fb x) (λ x k. or_left (fa x) (fb x) k) ts h, lt) | inr (n, e) ↦ absurd cc ]
  either_takes ts t rest (inr s) = elim (lb.takes ts t rest s) [ inl (h, lt) ↦ inl (starts_wider fb (λ x. fa x || fb x) (λ x k. or_right (fa x) (fb x) k) ts h, lt) | inr (n, e) ↦ absurd cc ]

  either_only : (ts : List X) (t : T) (rest : List X) → (either a b).spells ts t rest → starts (goes t) rest ≡ false → read_either fa ra rb ts ≡ Ok (t, rest)
  either_only ts t rest (inl s) e = elim (la.takes ts t rest s) [ inl (h, lt) ↦ rw h (la.only ts t rest s e) | inr (n, d) ↦ absurd cc ]
  either_only ts t rest (inr s) e = elim (lb.takes ts t rest s) [ inl (h, lt) ↦ rw (starts_apart fb fa apart ts h) (lb.only ts t rest s e) | inr (n, d) ↦ absurd cc ]

  either_front : (ts : List X) (s : Stop X) → read_either fa ra rb ts ≡ Err s → (c : List X) × (ts ≡ c ++ left_of s) × (either a b).begins c
  either_front ts s e =
      elim (chosen (starts fa ts) (ra ts) (rb ts) (Err s) e) [
        | inl (h, d) ↦ let p = la.front ts s d in (p.0, p.1, inl p.2)
        | inr (h, d) ↦ let p = lb.front ts s d in (p.0, p.1, inr p.2)
      ]

  either_nothing : (more : List X) → Within more (read_either fa ra rb more)
  either_nothing more =
      elim (starts fa more) as (λ v. Within more (cond v (ra more) (rb more))) [ true ↦ never_grows _ _ _ _ _ _ _ la more | false ↦ never_grows _ _ _ _ _ _ _ lb more ]

  either_covers : (us more : List X) → (either a b).begins us → Within more (read_either fa ra rb (us ++ more))
  either_covers [] more h = either_nothing more
  either_covers (x ∷ us) more (inl h) = rw (la.opens x us h) (la.covers (x ∷ us) more h)
  either_covers (x ∷ us) more (inr h) = rw (apart x (lb.opens x us h)) (lb.covers (x ∷ us) more h)

  either_grows : (ts : List X) (t : T) (rest : List X) → (either a b).spells ts t rest → (either a' b').spells ts t rest
  either_grows ts t rest (inl s) = inl (la.grows ts t rest s)
  either_grows ts t rest (inr s) = inr (lb.grows ts t rest s)

  either_grows_begins : (us : List X) → (either a b).begins us → (either a' b').begins us
  either_grows_begins us (inl h) = inl (la.grows_begins us h)
  either_grows_begins us (inr h) = inr (lb.grows_begins us h)

  either_deep : (ts left : List X) → read_either fa ra rb ts ≡ Err (TooDeep left) → (c : List X) × (x : X) × (rest : List X) × (ts ≡ c ++ x ∷ rest) × (left ≡ x ∷ rest) × (either a' b').begins (c ++ x ∷ [])
  either_deep ts left e =
      elim (chosen (starts fa ts) (ra ts) (rb ts) (Err (TooDeep left)) e) [
        | inl (h, d) ↦ let p = la.deep ts left d in (p.0, p.1, p.2, p.3, p.4, inl p.5)
        | inr (h, d) ↦ let p = lb.deep ts left d in (p.0, p.1, p.2, p.3, p.4, inr p.5)
      ]

  either_same_ok : (ts : List X) (x : T × List X) → read_either fa ra rb ts ≡ Ok x → read_either fa ra' rb' ts ≡ Ok x
  either_same_ok ts x e =
      elim (chosen (starts fa ts) (ra ts) (rb ts) (Ok x) e) [ inl (h, d) ↦ rw h (la.same_ok ts x d) | inr (h, d) ↦ rw h (lb.same_ok ts x d) ]

  either_same_err : (ts left : List X) → read_either fa ra rb ts ≡ Err (Syntax left) → read_either fa ra' rb' ts ≡ Err (Syntax left)
  either_same_err ts left e =
      elim (chosen (starts fa ts) (ra ts) (rb ts) (Err (Syntax left)) e) [ inl (h, d) ↦ rw h (la.same_err ts left d) | inr (h, d) ↦ rw h (lb.same_err ts left d) ]

  pub either_laws : Lawful (either a b) (either a' b') (read_either fa ra rb) (read_either fa ra' rb') (λ x. fa x || fb x) goes false
  either_laws = record {
    place = either_place;
    whole = either_whole;
    nil = inl la.nil;
    opens = either_opens;
    takes = either_takes;
    sound = either_sound;
    only = either_only;
    front = either_front;
    covers = either_covers;
    grows = either_grows;
    grows_begins = either_grows_begins;
    deep = either_deep;
    same_ok = either_same_ok;
    same_err = either_same_err;
  }
