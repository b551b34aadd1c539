-- One form after another keeps the laws if nothing that starts the second may go on after the first.
use Rattle.std.proofs.Common.{◌≡◌, ◌≤◌, ◌<◌, ◌⊎◌, inl, inr, Bool, true, false, List, [], ◌∷◌, ◌++◌, length, Result, Ok, Err, refl, sym, ap, subst, ◌∙◌, append_assoc, arith, length-append, ◌||◌, ◌&&◌}
use Rattle.abel_grammar.proofs.Common.{Form, followed, Stop, Syntax, TooDeep, left_of, Reader, ◌>>=◌, starts, read_followed}
use Rattle.abel_grammar.proofs.Laws.{Within, Lawful, bind_ok, bind_err, or_left, or_right, starts_apart, starts_wider, starts_or_false, never_grows, Within-less}

and_true : (a b : Bool) → a ≡ true → b ≡ true → (a && b) ≡ true
and_true true b e h = h
and_true false b e h = absurd cc

-- what is made of a result goes no further
bound_after : {X A B : Type 0} (more : List X) (r : Result (A × List X) (Stop X)) (k : A × List X → Result (B × List X) (Stop X))
    → Within more r → ((x : A × List X) → length x.1 ≤ length more → Within more (k x)) → Within more (r >>= k)
bound_after more (Ok x) k w h = h x w
bound_after more (Err s) k w h = w

paired : {X A B : Type 0} (more : List X) (t : A) (r : Result (B × List X) (Stop X)) → Within more r → Within {T = A × B} more (r >>= λ y. Ok ((t, y.0), y.1))
paired more t (Ok y) w = w
paired more t (Err s) w = w

module _ {X A B : Type 0} (a a' : Form X A) (b b' : A → Form X B) (ra ra' : Reader X A) (rb rb' : A → Reader X B) (fa : X → Bool) (fb : A → X → Bool) (fall : X → Bool)
    (ga : A → X → Bool) (gb : A → B → X → Bool) (na nb : Bool)
    (la : Lawful a a' ra ra' fa ga na) (lb : (t : A) → Lawful (b t) (b' t) (rb t) (rb' t) (fb t) (gb t) nb)
    (apart : (t : A) (x : X) → fb t x ≡ true → ga t x ≡ false) (all : (t : A) (x : X) → fb t x ≡ true → fall x ≡ true) where
  abbrev F : X → Bool
  F x = fa x || (na && fall x)

  abbrev G : A × B → X → Bool
  G t x = gb t.0 t.1 x || (nb && ga t.0 x)

  place : (ts : List X) (t : A × B) (rest : List X) → (followed a b).spells ts t rest → (c : List X) × (ts ≡ c ++ rest) × ((other : List X) → (followed a b).spells (c ++ other) t other)
  place ts t rest s =
      let p = la.place ts t.0 s.0 s.1 in
      let q = (lb t.0).place s.0 t.1 rest s.2 in (
        p.0 ++ q.0,
        p.1 ∙ ap (λ (m : List X). p.0 ++ m) q.1 ∙ sym (append_assoc p.0 q.0 rest),
        λ other. (q.0 ++ other, subst (λ (m : List X). a.spells m t.0 (q.0 ++ other)) (sym (append_assoc p.0 q.0 other)) (p.2 (q.0 ++ other)), q.2 other),
      )

  opens : (x : X) (us : List X) → (followed a b).begins (x ∷ us) → F x ≡ true
  opens x us (inl h) = or_left (fa x) (na && fall x) (la.opens x us h)
  opens x us (inr (t, mid, s, h)) =
      elim (la.takes (x ∷ us) t mid s) [
        | inl (e, lt) ↦ or_left (fa x) (na && fall x) e
        | inr (n, e) ↦ or_right (fa x) (na && fall x) (and_true na (fall x) n (all t x ((lb t).opens x us (subst (λ (m : List X). (b t).begins m) (sym e) h))))
      ]

  takes : (ts : List X) (t : A × B) (rest : List X) → (followed a b).spells ts t rest → ((starts F ts ≡ true) × (length rest < length ts)) ⊎ (((na && nb) ≡ true) × (ts ≡ rest))
  takes ts t rest s =
      let q = (lb t.0).place s.0 t.1 rest s.2 in
      let le : length rest ≤ length s.0 = omega (arith, ap length q.1, length-append q.0 rest) in
      elim (la.takes ts t.0 s.0 s.1) [
        | inl (e, lt) ↦ inl (starts_wider fa F (λ x h. or_left (fa x) (na && fall x) h) ts e, omega arith)
        | inr (n, e) ↦
            elim ((lb t.0).takes s.0 t.1 rest s.2) [
              | inl (d, lt) ↦ inl (
                starts_wider (fb t.0) F (λ x h. or_right (fa x) (na && fall x) (and_true na (fall x) n (all t.0 x h))) ts (subst (λ (m : List X). starts (fb t.0) m ≡ true) (sym e) d),
                omega (arith, ap length e),
              )
              | inr (m, d) ↦ inr (and_true na nb n m, e ∙ d)
            ]
      ]

  sound : (ts : List X) (x : (A × B) × List X) → read_followed ra rb ts ≡ Ok x → (followed a b).spells ts x.0 x.1
  sound ts x e =
      let p = bind_ok (ra ts) (λ y. rb y.0 y.1 >>= λ z. Ok ((y.0, z.0), z.1)) x e in
      let q = bind_ok (rb p.0.0 p.0.1) (λ z. Ok ((p.0.0, z.0), z.1)) x p.2 in
      let is : ((p.0.0, q.0.0), q.0.1) ≡ x = cc in
      subst (λ (y : (A × B) × List X). (followed a b).spells ts y.0 y.1) is (p.0.1, la.sound ts p.0 p.1, (lb p.0.0).sound p.0.1 q.0 q.1)

  -- what may follow the first part
  after : (t : A × B) (mid rest : List X) → (b t.0).spells mid t.1 rest → starts (G t) rest ≡ false → starts (ga t.0) mid ≡ false
  after t mid rest s e =
      elim ((lb t.0).takes mid t.1 rest s) [
        | inl (d, lt) ↦ starts_apart (fb t.0) (ga t.0) (apart t.0) mid d
        | inr (n, d) ↦
            let both = starts_or_false (gb t.0 t.1) (λ x. nb && ga t.0 x) rest e in
            let h : starts (λ (x : X). nb && ga t.0 x) rest ≡ false = both.1 in
            subst (λ (m : List X). starts (ga t.0) m ≡ false) (sym d) (subst (λ (n : Bool). starts (λ (x : X). n && ga t.0 x) rest ≡ false) n h)
      ]

  only : (ts : List X) (t : A × B) (rest : List X) → (followed a b).spells ts t rest → starts (G t) rest ≡ false → read_followed ra rb ts ≡ Ok (t, rest)
  only ts t rest s e =
      let one = la.only ts t.0 s.0 s.1 (after t s.0 rest s.2 e) in
      let two = (lb t.0).only s.0 t.1 rest s.2 (starts_or_false (gb t.0 t.1) (λ x. nb && ga t.0 x) rest e).0 in
      rw (one, two) refl

  front : (ts : List X) (s : Stop X) → read_followed ra rb ts ≡ Err s → (c : List X) × (ts ≡ c ++ left_of s) × (followed a b).begins c
  front ts s e =
      elim (bind_err (ra ts) (λ y. rb y.0 y.1 >>= λ z. Ok ((y.0, z.0), z.1)) s e) [
        | inl h ↦ let p = la.front ts s h in (p.0, p.1, inl p.2)
        | inr (x, h, k) ↦
            elim (bind_err (rb x.0 x.1) (λ z. Ok ((x.0, z.0), z.1)) s k) [
              | inl m ↦
                  let p = la.place ts x.0 x.1 (la.sound ts x h) in
                  let q = (lb x.0).front x.1 s m in
                  (p.0 ++ q.0, p.1 ∙ ap (λ (m : List X). p.0 ++ m) q.1 ∙ sym (append_assoc p.0 q.0 (left_of s)), inr (x.0, q.0, p.2 q.0, q.2))
              | inr (z, d, w) ↦ absurd cc
            ]
      ]

  covers_first : (us more : List X) → a.begins us → Within more (read_followed ra rb (us ++ more))
  covers_first us more h =
      bound_after more (ra (us ++ more)) (λ y. rb y.0 y.1 >>= λ z. Ok ((y.0, z.0), z.1)) (la.covers us more h)
      (λ x le. paired more x.0 (rb x.0 x.1) (Within-less x.1 more (rb x.0 x.1) (never_grows _ _ _ _ _ _ _ (lb x.0) x.1) le))

  covers_second : (us more : List X) (t : A) (mid : List X) → a.spells us t mid → (b t).begins mid → Within more (read_followed ra rb (us ++ more))
  covers_second us more t [] s h = covers_first us more (la.whole us t s)
  covers_second us more t (x ∷ mid) s h =
      let p = la.place us t (x ∷ mid) s in
      let there : us ++ more ≡ p.0 ++ ((x ∷ mid) ++ more) = ap (λ (m : List X). m ++ more) p.1 ∙ append_assoc p.0 (x ∷ mid) more in
      let one : ra (us ++ more) ≡ Ok (t, (x ∷ mid) ++ more) = ap ra there ∙ la.only (p.0 ++ ((x ∷ mid) ++ more)) t ((x ∷ mid) ++ more) (p.2 ((x ∷ mid) ++ more)) (apart t x ((lb t).opens x mid h)) in
      rw one (paired more t (rb t ((x ∷ mid) ++ more)) ((lb t).covers (x ∷ mid) more h))

  covers : (us more : List X) → (followed a b).begins us → Within more (read_followed ra rb (us ++ more))
  covers us more (inl h) = covers_first us more h
  covers us more (inr (t, mid, s, h)) = covers_second us more t mid s h

  grows_begins : (us : List X) → (followed a b).begins us → (followed a' b').begins us
  grows_begins us (inl h) = inl (la.grows_begins us h)
  grows_begins us (inr (t, mid, s, h)) = inr (t, mid, la.grows us t mid s, (lb t).grows_begins mid h)

  deep : (ts left : List X) → read_followed ra rb ts ≡ Err (TooDeep left) → (c : List X) × (x : X) × (rest : List X) × (ts ≡ c ++ x ∷ rest) × (left ≡ x ∷ rest) × (followed a' b').begins (c ++ x ∷ [])
  deep ts left e =
      elim (bind_err (ra ts) (λ y. rb y.0 y.1 >>= λ z. Ok ((y.0, z.0), z.1)) (TooDeep left) e) [
        | inl h ↦ let p = la.deep ts left h in (p.0, p.1, p.2, p.3, p.4, inl p.5)
        | inr (x, h, k) ↦
            elim (bind_err (rb x.0 x.1) (λ z. Ok ((x.0, z.0), z.1)) (TooDeep left) k) [
              | inl m ↦
                  let p = la.place ts x.0 x.1 (la.sound ts x h) in
                  let q = (lb x.0).deep x.1 left m in
                  let end : List X = q.0 ++ q.1 ∷ [] in
                  let s : a'.spells (p.0 ++ end) x.0 end = la.grows (p.0 ++ end) x.0 end (p.2 end) in (
                    p.0 ++ q.0,
                    q.1,
                    q.2,
                    p.1 ∙ ap (λ (m : List X). p.0 ++ m) q.3 ∙ sym (append_assoc p.0 q.0 (q.1 ∷ q.2)),
                    q.4,
                    inr (x.0, end, subst (λ (m : List X). a'.spells m x.0 end) (sym (append_assoc p.0 q.0 (q.1 ∷ []))) s, q.5),
                  )
              | inr (z, d, w) ↦ absurd cc
            ]
      ]

  same_ok : (ts : List X) (x : (A × B) × List X) → read_followed ra rb ts ≡ Ok x → read_followed ra' rb' ts ≡ Ok x
  same_ok ts x e =
      let p = bind_ok (ra ts) (λ y. rb y.0 y.1 >>= λ z. Ok ((y.0, z.0), z.1)) x e in
      let q = bind_ok (rb p.0.0 p.0.1) (λ z. Ok ((p.0.0, z.0), z.1)) x p.2 in
      rw (la.same_ok ts p.0 p.1, (lb p.0.0).same_ok p.0.1 q.0 q.1) q.2

  same_err : (ts left : List X) → read_followed ra rb ts ≡ Err (Syntax left) → read_followed ra' rb' ts ≡ Err (Syntax left)
  same_err ts left e =
      elim (bind_err (ra ts) (λ y. rb y.0 y.1 >>= λ z. Ok ((y.0, z.0), z.1)) (Syntax left) e) [
        | inl h ↦ rw (la.same_err ts left h) refl
        | inr (x, h, k) ↦
            elim (bind_err (rb x.0 x.1) (λ z. Ok ((x.0, z.0), z.1)) (Syntax left) k) [
              | inl m ↦ rw (la.same_ok ts x h, (lb x.0).same_err x.1 left m) refl
              | inr (z, d, w) ↦ absurd cc
            ]
      ]

  pub followed_laws : Lawful (followed a b) (followed a' b') (read_followed ra rb) (read_followed ra' rb') F G (na && nb)
  followed_laws = record {
    place = place;
    whole = λ us t s. inr (t.0, s.0, s.1, (lb t.0).whole s.0 t.1 s.2);
    nil = inl la.nil;
    opens = opens;
    takes = takes;
    sound = sound;
    only = only;
    front = front;
    covers = covers;
    grows = λ ts t rest s. (s.0, la.grows ts t.0 s.0 s.1, (lb t.0).grows s.0 t.1 rest s.2);
    grows_begins = grows_begins;
    deep = deep;
    same_ok = same_ok;
    same_err = same_err;
  }
