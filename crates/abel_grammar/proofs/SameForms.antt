-- Two ways to write one form: what spells or begins the one spells or begins the other.
use Rattle.std.proofs.Common.{◌≡◌, ◌<◌, ◌⊎◌, inl, inr, Bool, true, false, List, [], ◌∷◌, ◌++◌, length, Option, Some, None, Result, Ok, Err, refl, sym, ap, subst, ◌∙◌}
use Rattle.abel_grammar.proofs.Common.{Form, ◌then◌, followed, either, optional, repeated, made, nothing, SpellsList, Stop, Syntax, TooDeep, left_of, Reader, starts}
use Rattle.abel_grammar.proofs.Laws.{Lawful}

pub record Same {X T : Type 0} (f g : Form X T) : Type 0 where
  pub there : (ts : List X) (t : T) (rest : List X) → f.spells ts t rest → g.spells ts t rest
  pub back : (ts : List X) (t : T) (rest : List X) → g.spells ts t rest → f.spells ts t rest
  pub begins_there : (us : List X) → f.begins us → g.begins us
  pub begins_back : (us : List X) → g.begins us → f.begins us

pub same_itself : {X T : Type 0} (f : Form X T) → Same f f
same_itself f = record { there = λ ts t rest s. s; back = λ ts t rest s. s; begins_there = λ us h. h; begins_back = λ us h. h }

pub same_through : {X T : Type 0} (f g h : Form X T) → Same f g → Same g h → Same f h
same_through f g h p q = record {
  there = λ ts t rest s. q.there ts t rest (p.there ts t rest s);
  back = λ ts t rest s. p.back ts t rest (q.back ts t rest s);
  begins_there = λ us b. q.begins_there us (p.begins_there us b);
  begins_back = λ us b. p.begins_back us (q.begins_back us b);
}

-- the laws of the one are laws of the other
pub same_laws : {X T : Type 0} (f f' g g' : Form X T) (r r' : Reader X T) (first : X → Bool) (goes : T → X → Bool) (null : Bool) → Same f g → Same f' g' → Lawful g g' r r' first goes null → Lawful f f' r r' first goes null
same_laws f f' g g' r r' first goes null p p' l = record {
  place = λ ts t rest s. let q = l.place ts t rest (p.there ts t rest s) in (q.0, q.1, λ other. p.back (q.0 ++ other) t other (q.2 other));
  whole = λ us t s. p.begins_back us (l.whole us t (p.there us t [] s));
  nil = p.begins_back [] l.nil;
  opens = λ x us h. l.opens x us (p.begins_there (x ∷ us) h);
  takes = λ ts t rest s. l.takes ts t rest (p.there ts t rest s);
  sound = λ ts x e. p.back ts x.0 x.1 (l.sound ts x e);
  only = λ ts t rest s e. l.only ts t rest (p.there ts t rest s) e;
  front = λ ts s e. let q = l.front ts s e in (q.0, q.1, p.begins_back q.0 q.2);
  covers = λ us more h. l.covers us more (p.begins_there us h);
  grows = λ ts t rest s. p'.back ts t rest (l.grows ts t rest (p.there ts t rest s));
  grows_begins = λ us h. p'.begins_back us (l.grows_begins us (p.begins_there us h));
  deep = λ ts left e. let q = l.deep ts left e in (q.0, q.1, q.2, q.3, q.4, p'.begins_back (q.0 ++ q.1 ∷ []) q.5);
  same_ok = l.same_ok;
  same_err = l.same_err;
}

-- ---- the ways to put forms together

pub same_made : {X A B : Type 0} (f : A → B) (a b : Form X A) → Same a b → Same (made f a) (made f b)
same_made f a b p = record {
  there = λ ts t rest s. (s.0, p.there ts s.0 rest s.1, s.2);
  back = λ ts t rest s. (s.0, p.back ts s.0 rest s.1, s.2);
  begins_there = p.begins_there;
  begins_back = p.begins_back;
}

pub same_either : {X A : Type 0} (a b c d : Form X A) → Same a b → Same c d → Same (either a c) (either b d)
same_either a b c d p q = record {
  there = λ ts t rest s. elim s [ inl h ↦ inl (p.there ts t rest h) | inr h ↦ inr (q.there ts t rest h) ];
  back = λ ts t rest s. elim s [ inl h ↦ inl (p.back ts t rest h) | inr h ↦ inr (q.back ts t rest h) ];
  begins_there = λ us s. elim s [ inl h ↦ inl (p.begins_there us h) | inr h ↦ inr (q.begins_there us h) ];
  begins_back = λ us s. elim s [ inl h ↦ inl (p.begins_back us h) | inr h ↦ inr (q.begins_back us h) ];
}

pub same_followed : {X A B : Type 0} (a b : Form X A) (c d : A → Form X B) → Same a b → ((t : A) → Same (c t) (d t)) → Same (followed a c) (followed b d)
same_followed a b c d p q = record {
  there = λ ts t rest s. (s.0, p.there ts t.0 s.0 s.1, (q t.0).there s.0 t.1 rest s.2);
  back = λ ts t rest s. (s.0, p.back ts t.0 s.0 s.1, (q t.0).back s.0 t.1 rest s.2);
  begins_there = λ us s. elim s [ inl h ↦ inl (p.begins_there us h) | inr (t, mid, h, k) ↦ inr (t, mid, p.there us t mid h, (q t).begins_there mid k) ];
  begins_back = λ us s. elim s [ inl h ↦ inl (p.begins_back us h) | inr (t, mid, h, k) ↦ inr (t, mid, p.back us t mid h, (q t).begins_back mid k) ];
}

module _ {X A : Type 0} (a b : Form X A) (p : Same a b) where
  option_there : (ts : List X) (t : Option A) (rest : List X) → (optional a).spells ts t rest → (optional b).spells ts t rest
  option_there ts None rest s = s
  option_there ts (Some t) rest s = p.there ts t rest s

  option_back : (ts : List X) (t : Option A) (rest : List X) → (optional b).spells ts t rest → (optional a).spells ts t rest
  option_back ts None rest s = s
  option_back ts (Some t) rest s = p.back ts t rest s

  pub same_optional : Same (optional a) (optional b)
  same_optional = record { there = option_there; back = option_back; begins_there = p.begins_there; begins_back = p.begins_back }

  list_there : (ts : List X) (t : List A) (rest : List X) → SpellsList a.spells ts t rest → SpellsList b.spells ts t rest
  list_there ts [] rest s = s
  list_there ts (t ∷ list) rest s = (s.0, p.there ts t s.0 s.1, list_there s.0 list rest s.2)

  list_back : (ts : List X) (t : List A) (rest : List X) → SpellsList b.spells ts t rest → SpellsList a.spells ts t rest
  list_back ts [] rest s = s
  list_back ts (t ∷ list) rest s = (s.0, p.back ts t s.0 s.1, list_back s.0 list rest s.2)

  pub same_repeated : Same (repeated a) (repeated b)
  same_repeated = record {
    there = list_there;
    back = list_back;
    begins_there = λ us h. (h.0, h.1, list_there us h.0 h.1 h.2, p.begins_there h.1 h.3);
    begins_back = λ us h. (h.0, h.1, list_back us h.0 h.1 h.2, p.begins_back h.1 h.3);
  }

-- ---- a form after several others

-- a choice, and a form after it
pub either_then : {X A B : Type 0} (a b : Form X A) (e : Form X B) → Same (either a b then e) (either (a then e) (b then e))
either_then a b e = record {
  there = λ ts t rest (mid, s, z). elim s [ inl h ↦ inl (mid, h, z) | inr h ↦ inr (mid, h, z) ];
  back = λ ts t rest s. elim s [ inl h ↦ (h.0, inl h.1, h.2) | inr h ↦ (h.0, inr h.1, h.2) ];
  begins_there = λ us s. elim s [
    | inl h ↦ elim h [ inl k ↦ inl (inl k) | inr k ↦ inr (inl k) ]
    | inr (t, mid, h, k) ↦ elim h [ inl m ↦ inl (inr (t, mid, m, k)) | inr m ↦ inr (inr (t, mid, m, k)) ]
  ];
  begins_back = λ us s. elim s [
    | inl h ↦ elim h [ inl k ↦ inl (inl k) | inr (t, mid, k, m) ↦ inr (t, mid, inl k, m) ]
    | inr h ↦ elim h [ inl k ↦ inl (inr k) | inr (t, mid, k, m) ↦ inr (t, mid, inr k, m) ]
  ];
}

pub nothing_then : {X A B : Type 0} (e : Form X B) → Same (nothing {A = A} then e) nothing
nothing_then e = record {
  there = λ ts t rest s. s.1;
  back = λ ts t rest s. absurd s;
  begins_there = λ us s. elim s [ inl h ↦ h | inr h ↦ absurd h.2 ];
  begins_back = λ us s. inl s;
}

-- b and then e is c, with the parts of its tree in other places
abbrev pub Moved : {X B E C : Type 0} → Form X B → Form X E → Form X C → (C → B × E) → Type 0
Moved b e c split = Same (b then e) (made split c)

abbrev pub behind_first : {A B E C : Type 0} → (C → B × E) → A × C → (A × B) × E
behind_first split x = ((x.0, (split x.1).0), (split x.1).1)

-- the same with a form before
pub moved_then : {X A B E C : Type 0} (a : Form X A) (b : Form X B) (e : Form X E) (c : Form X C) (split : C → B × E) → Moved b e c split → Moved (a then b) e (a then c) (behind_first split)
moved_then {X} {A} {B} {E} {C} a b e c split p = record {
  there = λ ts t rest (m, (m1, s, q), z).
      let k = p.there m1 (t.0.1, t.1) rest (m, q, z) in
      ((t.0.0, k.0), (m1, s, k.1), ap (λ (y : B × E). ((t.0.0, y.0), y.1)) k.2);
  back = λ ts t rest (x, (m1, s, q), d).
      let k = p.back m1 (split x.1) rest (x.1, q, refl) in
      subst (λ (y : (A × B) × E). ((a then b) then e).spells ts y rest) d (k.0, (m1, s, k.1), k.2);
  begins_there = λ us s. elim s [
    | inl h ↦ elim h [ inl k ↦ inl k | inr (x, m, k, q) ↦ inr (x, m, k, p.begins_there m (inl q)) ]
    | inr (t, m, (m1, k, q), z) ↦ inr (t.0, m1, k, p.begins_there m1 (inr (t.1, m, q, z)))
  ];
  begins_back = λ us s. elim s [
    | inl h ↦ inl (inl h)
    | inr (x, m, k, q) ↦ elim (p.begins_back m q) [ inl w ↦ inl (inr (x, m, k, w)) | inr (t, m2, w, z) ↦ inr ((x, t), m2, (m, k, w), z) ]
  ];
}

-- the same with what is made of the first
pub moved_made : {X B E C T : Type 0} (f : B → T) (g : C → T × E) (b : Form X B) (e : Form X E) (c : Form X C) (split : C → B × E) → Moved b e c split → ((y : C) → (f (split y).0, (split y).1) ≡ g y) → Same (made f b then e) (made g c)
moved_made {X} {B} {E} {C} {T} f g b e c split p agree = record {
  there = λ ts t rest (m, (x, s, d), z).
      let k = p.there ts (x, t.1) rest (m, s, z) in
      (k.0, k.1, sym (agree k.0) ∙ ap (λ (y : B × E). (f y.0, y.1)) k.2 ∙ ap (λ (u : T). (u, t.1)) d);
  back = λ ts t rest (y, s, d).
      let k = p.back ts (split y) rest (y, s, refl) in
      subst (λ (u : T × E). (made f b then e).spells ts u rest) (agree y ∙ d) (k.0, ((split y).0, k.1, refl), k.2);
  begins_there = λ us s. elim s [ inl h ↦ p.begins_there us (inl h) | inr (t, m, (x, h, d), z) ↦ p.begins_there us (inr (x, m, h, z)) ];
  begins_back = λ us s. elim (p.begins_back us s) [ inl h ↦ inl h | inr (t, m, h, z) ↦ inr (f t, m, (t, h, refl), z) ];
}

abbrev pub itself : {A : Type 0} → A → A
itself x = x

pub moved_itself : {X B E : Type 0} (b : Form X B) (e : Form X E) → Moved b e (b then e) itself
moved_itself b e = record {
  there = λ ts t rest s. (t, s, refl);
  back = λ ts t rest (x, s, d). subst (λ (u : _). (b then e).spells ts u rest) d s;
  begins_there = λ us s. s;
  begins_back = λ us s. s;
}
