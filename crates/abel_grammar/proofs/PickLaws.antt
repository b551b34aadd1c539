-- A choice by a longer look keeps the laws where what was picked is right, or both begin.
use Rattle.std.proofs.Common.{◌≡◌, ◌<◌, ◌⊎◌, inl, inr, Bool, true, false, cond, List, [], ◌∷◌, ◌++◌, length, Option, Some, None, Result, Ok, Err, refl, sym, ap, subst, arith}
use Rattle.abel_grammar.proofs.Common.{Form, either, Stop, Syntax, TooDeep, left_of, Reader, ◌>>=◌, starts, read_picked}
use Rattle.abel_grammar.proofs.Laws.{Within, Lawful, chosen}

module _ {X T : Type 0} (a a' b b' : Form X T) (ra ra' rb rb' : Reader X T) (pick : List X → Bool) (first : X → Bool) (goes : T → X → Bool)
    (la : Lawful a a' ra ra' first goes false) (lb : Lawful b b' rb rb' first goes false)
    (pick_a : (ts : List X) (t : T) (rest : List X) → a.spells ts t rest → starts (goes t) rest ≡ false → pick ts ≡ true)
    (pick_b : (ts : List X) (t : T) (rest : List X) → b.spells ts t rest → starts (goes t) rest ≡ false → pick ts ≡ false)
    (begin_a : (us more : List X) → a.begins us → pick (us ++ more) ≡ false → b.begins us)
    (begin_b : (us more : List X) → b.begins us → pick (us ++ more) ≡ true → a.begins us) where
  bool_cases : (v : Bool) → (v ≡ true) ⊎ (v ≡ false)
  bool_cases true = inl refl
  bool_cases false = inr refl

  picked_sound : (ts : List X) (x : T × List X) → read_picked pick ra rb ts ≡ Ok x → (either a b).spells ts x.0 x.1
  picked_sound ts x e =
      elim (chosen (pick ts) (ra ts) (rb ts) (Ok x) e) [ inl (h, d) ↦ inl (la.sound ts x d) | inr (h, d) ↦ inr (lb.sound ts x d) ]

  picked_place : (ts : List X) (t : T) (rest : List X) → (either a b).spells ts t rest → (c : List X) × (ts ≡ c ++ rest) × ((other : List X) → (either a b).spells (c ++ other) t other)
  picked_place ts t rest (inl s) = let p = la.place ts t rest s in (p.0, p.1, λ other. inl (p.2 other))
  picked_place ts t rest (inr s) = let p = lb.place ts t rest s in (p.0, p.1, λ other. inr (p.2 other))

  picked_whole : (us : List X) (t : T) → (either a b).spells us t [] → (either a b).begins us
  picked_whole us t (inl s) = inl (la.whole us t s)
  picked_whole us t (inr s) = inr (lb.whole us t s)

  picked_opens : (x : X) (us : List X) → (either a b).begins (x ∷ us) → first x ≡ true
  picked_opens x us (inl h) = la.opens x us h
  picked_opens x us (inr h) = lb.opens x us h

  picked_takes : (ts : List X) (t : T) (rest : List X) → (either a b).spells ts t rest → ((starts first ts ≡ true) × (length rest < length ts)) ⊎ ((false ≡ true) × (ts ≡ rest))
  picked_takes ts t rest (inl s) = la.takes ts t rest s
  picked_takes ts t rest (inr s) = lb.takes ts t rest s

  picked_only : (ts : List X) (t : T) (rest : List X) → (either a b).spells ts t rest → starts (goes t) rest ≡ false → read_picked pick ra rb ts ≡ Ok (t, rest)
  picked_only ts t rest (inl s) e = rw (pick_a ts t rest s e) (la.only ts t rest s e)
  picked_only ts t rest (inr s) e = rw (pick_b ts t rest s e) (lb.only ts t rest s e)

  picked_front : (ts : List X) (s : Stop X) → read_picked pick ra rb ts ≡ Err s → (c : List X) × (ts ≡ c ++ left_of s) × (either a b).begins c
  picked_front ts s e =
      elim (chosen (pick ts) (ra ts) (rb ts) (Err s) e) [
        | inl (h, d) ↦ let p = la.front ts s d in (p.0, p.1, inl p.2)
        | inr (h, d) ↦ let p = lb.front ts s d in (p.0, p.1, inr p.2)
      ]

  picked_covers : (us more : List X) → (either a b).begins us → Within more (read_picked pick ra rb (us ++ more))
  picked_covers us more (inl h) =
      elim (bool_cases (pick (us ++ more))) [ inl e ↦ rw e (la.covers us more h) | inr e ↦ rw e (lb.covers us more (begin_a us more h e)) ]
  picked_covers us more (inr h) =
      elim (bool_cases (pick (us ++ more))) [ inl e ↦ rw e (la.covers us more (begin_b us more h e)) | inr e ↦ rw e (lb.covers us more h) ]

  picked_deep : (ts left : List X) → read_picked pick ra rb ts ≡ Err (TooDeep left) → (c : List X) × (x : X) × (rest : List X) × (ts ≡ c ++ x ∷ rest) × (left ≡ x ∷ rest) × (either a' b').begins (c ++ x ∷ [])
  picked_deep ts left e =
      elim (chosen (pick ts) (ra ts) (rb ts) (Err (TooDeep left)) e) [
        | inl (h, d) ↦ let p = la.deep ts left d in (p.0, p.1, p.2, p.3, p.4, inl p.5)
        | inr (h, d) ↦ let p = lb.deep ts left d in (p.0, p.1, p.2, p.3, p.4, inr p.5)
      ]

  pub picked_laws : Lawful (either a b) (either a' b') (read_picked pick ra rb) (read_picked pick ra' rb') first goes false
  picked_laws = record {
    place = picked_place;
    whole = picked_whole;
    nil = inl la.nil;
    opens = picked_opens;
    takes = picked_takes;
    sound = picked_sound;
    only = picked_only;
    front = picked_front;
    covers = picked_covers;
    grows = λ ts t rest s. elim s [ inl h ↦ inl (la.grows ts t rest h) | inr h ↦ inr (lb.grows ts t rest h) ];
    grows_begins = λ us s. elim s [ inl h ↦ inl (la.grows_begins us h) | inr h ↦ inr (lb.grows_begins us h) ];
    deep = picked_deep;
    same_ok = λ ts x e. elim (chosen (pick ts) (ra ts) (rb ts) (Ok x) e) [ inl (h, d) ↦ rw h (la.same_ok ts x d) | inr (h, d) ↦ rw h (lb.same_ok ts x d) ];
    same_err = λ ts left e. elim (chosen (pick ts) (ra ts) (rb ts) (Err (Syntax left)) e) [ inl (h, d) ↦ rw h (la.same_err ts left d) | inr (h, d) ↦ rw h (lb.same_err ts left d) ];
  }
