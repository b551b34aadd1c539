-- Any number of a form keeps the laws.
use Rattle.std.proofs.Common.{◌≡◌, ℕ, zero, suc, ◌≤◌, ◌<◌, ◌⊎◌, inl, inr, Bool, true, false, List, [], ◌∷◌, ◌++◌, length, Result, Ok, Err, refl, sym, ap, subst, ◌∙◌, append_assoc, arith, length-append, ◌||◌}
use Rattle.abel_grammar.proofs.Common.{Form, repeated, SpellsList, Stop, Syntax, TooDeep, left_of, Reader, ◌>>=◌, starts, read_many, read_repeated}
use Rattle.abel_grammar.proofs.Laws.{Within, Lawful, result_cases, bind_ok, bind_err, chosen, or_false, starts_or_false, starts_append, Within-less}

consed_within : {X A : Type 0} (more : List X) (t : A) (r : Result (List A × List X) (Stop X)) → Within more r → Within {T = List A} more (r >>= λ xs. Ok (t ∷ xs.0, xs.1))
consed_within more t (Ok y) w = w
consed_within more t (Err s) w = w

abbrev pub behind_list : {X A : Type 0} → (X → Bool) → (X → Bool) → List A → X → Bool
behind_list first all list x = first x || all x

module _ {X A : Type 0} (a a' : Form X A) (ra ra' : Reader X A) (fa gall : X → Bool) (ga : A → X → Bool) (la : Lawful a a' ra ra' fa ga false)
    (behind : (t : A) (x : X) → gall x ≡ false → ga t x ≡ false) (apart : (x : X) → fa x ≡ true → gall x ≡ false) where
  list_place : (ts : List X) (list : List A) (rest : List X) → SpellsList a.spells ts list rest → (c : List X) × (ts ≡ c ++ rest) × ((other : List X) → SpellsList a.spells (c ++ other) list other)
  list_place ts [] rest s = ([], s, λ other. refl)
  list_place ts (t ∷ list) rest s =
      let p = la.place ts t s.0 s.1 in
      let q = list_place s.0 list rest s.2 in (
        p.0 ++ q.0,
        p.1 ∙ ap (λ (m : List X). p.0 ++ m) q.1 ∙ sym (append_assoc p.0 q.0 rest),
        λ other. (q.0 ++ other, subst (λ (m : List X). a.spells m t (q.0 ++ other)) (sym (append_assoc p.0 q.0 other)) (p.2 (q.0 ++ other)), q.2 other),
      )

  list_shorter : (ts : List X) (list : List A) (rest : List X) → SpellsList a.spells ts list rest → length rest ≤ length ts
  list_shorter ts list rest s = let p = list_place ts list rest s in omega (arith, ap length p.1, length-append p.0 rest)

  item_starts : (ts : List X) (t : A) (rest : List X) → a.spells ts t rest → (starts fa ts ≡ true) × (length rest < length ts)
  item_starts ts t rest s = elim (la.takes ts t rest s) [ inl h ↦ h | inr (n, e) ↦ absurd cc ]

  list_opens : (x : X) (us : List X) → (repeated a).begins (x ∷ us) → fa x ≡ true
  list_opens x us ([], mid, s, h) = la.opens x us (subst (λ (m : List X). a.begins m) (sym s) h)
  list_opens x us (t ∷ list, mid, s, h) = (item_starts (x ∷ us) t s.0 s.1).0

  list_takes : (ts : List X) (list : List A) (rest : List X) → SpellsList a.spells ts list rest → ((starts fa ts ≡ true) × (length rest < length ts)) ⊎ ((true ≡ true) × (ts ≡ rest))
  list_takes ts [] rest s = inr (refl, s)
  list_takes ts (t ∷ list) rest s = let h = item_starts ts t s.0 s.1 in inl (h.0, omega (arith, h.1, list_shorter s.0 list rest s.2))

  many_sound : (n : ℕ) (ts : List X) (x : List A × List X) → read_many fa ra n ts ≡ Ok x → SpellsList a.spells ts x.0 x.1
  many_sound zero ts x e = let is : ([], ts) ≡ x = cc in subst (λ (y : List A × List X). SpellsList a.spells ts y.0 y.1) is refl
  many_sound (suc n) ts x e =
      elim (chosen (starts fa ts) (ra ts >>= λ y. read_many fa ra n y.1 >>= λ ys. Ok (y.0 ∷ ys.0, ys.1)) (Ok ([], ts)) (Ok x) e) [
        | inl (h, d) ↦
            let p = bind_ok (ra ts) (λ y. read_many fa ra n y.1 >>= λ ys. Ok (y.0 ∷ ys.0, ys.1)) x d in
            let q = bind_ok (read_many fa ra n p.0.1) (λ ys. Ok (p.0.0 ∷ ys.0, ys.1)) x p.2 in
            let is : (p.0.0 ∷ q.0.0, q.0.1) ≡ x = cc in
            subst (λ (y : List A × List X). SpellsList a.spells ts y.0 y.1) is (p.0.1, la.sound ts p.0 p.1, many_sound n p.0.1 q.0 q.1)
        | inr (h, d) ↦ let is : ([], ts) ≡ x = cc in subst (λ (y : List A × List X). SpellsList a.spells ts y.0 y.1) is refl
      ]

  -- what may follow an item
  item_ends : (t : A) (mid : List X) (list : List A) (rest : List X) → SpellsList a.spells mid list rest → starts (behind_list fa gall list) rest ≡ false → starts (ga t) mid ≡ false
  item_ends t [] list rest s e = refl
  item_ends t (x ∷ mid) [] rest s e =
      let d : (fa x || gall x) ≡ false = subst (λ (m : List X). starts (λ (y : X). fa y || gall y) m ≡ false) (sym s) e in
      behind t x (or_false (fa x) (gall x) d).1
  item_ends t (x ∷ mid) (u ∷ list) rest s e = behind t x (apart x (item_starts (x ∷ mid) u s.0 s.1).0)

  many_only : (n : ℕ) (ts : List X) (list : List A) (rest : List X) → length ts ≤ n → SpellsList a.spells ts list rest → starts (behind_list fa gall list) rest ≡ false → read_many fa ra n ts ≡ Ok (list, rest)
  many_only zero ts [] rest le s e = ap (λ (m : List X). Ok ([], m)) s
  many_only zero ts (t ∷ list) rest le s e = absurd (let lt = item_starts ts t s.0 s.1 in omega (arith, lt.1))
  many_only (suc n) ts [] rest le s e =
      let d : starts fa ts ≡ false = subst (λ (m : List X). starts fa m ≡ false) (sym s) (starts_or_false fa gall rest e).0 in
      rw d (ap (λ (m : List X). Ok ([], m)) s)
  many_only (suc n) ts (t ∷ list) rest le s e =
      let h = item_starts ts t s.0 s.1 in
      let one = la.only ts t s.0 s.1 (item_ends t s.0 list rest s.2 e) in
      let two = many_only n s.0 list rest (omega (arith, h.1)) s.2 e in
      rw (h.0, one, two) refl

  many_front : (n : ℕ) (ts : List X) (s : Stop X) → read_many fa ra n ts ≡ Err s → (c : List X) × (ts ≡ c ++ left_of s) × (repeated a).begins c
  many_front zero ts s e = absurd cc
  many_front (suc n) ts s e =
      elim (chosen (starts fa ts) (ra ts >>= λ y. read_many fa ra n y.1 >>= λ ys. Ok (y.0 ∷ ys.0, ys.1)) (Ok ([], ts)) (Err s) e) [
        | inl (h, d) ↦
            elim (bind_err (ra ts) (λ y. read_many fa ra n y.1 >>= λ ys. Ok (y.0 ∷ ys.0, ys.1)) s d) [
              | inl k ↦ let p = la.front ts s k in (p.0, p.1, ([], p.0, refl, p.2))
              | inr (x, k, w) ↦
                  elim (bind_err (read_many fa ra n x.1) (λ ys. Ok (x.0 ∷ ys.0, ys.1)) s w) [
                    | inl m ↦
                        let p = la.place ts x.0 x.1 (la.sound ts x k) in
                        let q = many_front n x.1 s m in
                        (p.0 ++ q.0, p.1 ∙ ap (λ (m : List X). p.0 ++ m) q.1 ∙ sym (append_assoc p.0 q.0 (left_of s)), (x.0 ∷ q.2.0, q.2.1, (q.0, p.2 q.0, q.2.2), q.2.3))
                    | inr (z, m, v) ↦ absurd cc
                  ]
            ]
        | inr (h, d) ↦ absurd cc
      ]

  many_never_grows : (n : ℕ) (ts : List X) → Within ts (read_many fa ra n ts)
  many_never_grows n ts =
      elim (result_cases (read_many fa ra n ts)) [
        | inl (x, e) ↦ subst (λ (y : Result (List A × List X) (Stop X)). Within ts y) (sym e) (list_shorter ts x.0 x.1 (many_sound n ts x e))
        | inr (s, e) ↦ let p = many_front n ts s e in subst (λ (y : Result (List A × List X) (Stop X)). Within ts y) (sym e) (omega (arith, ap length p.1, length-append p.0 (left_of s)))
      ]

  turn_within : (n : ℕ) (more : List X) (r : Result (A × List X) (Stop X)) → Within more r → Within {T = List A} more (r >>= λ y. read_many fa ra n y.1 >>= λ ys. Ok (y.0 ∷ ys.0, ys.1))
  turn_within n more (Ok x) w = consed_within more x.0 (read_many fa ra n x.1) (Within-less x.1 more (read_many fa ra n x.1) (many_never_grows n x.1) w)
  turn_within n more (Err s) w = w

  covers_item : (n : ℕ) (us more : List X) → length (us ++ more) ≤ n → a.begins us → Within more (read_many fa ra n (us ++ more))
  covers_item n [] more le h = many_never_grows n more
  covers_item zero (x ∷ us) more le h = absurd (omega arith)
  covers_item (suc n) (x ∷ us) more le h = rw (la.opens x us h) (turn_within n more (ra ((x ∷ us) ++ more)) (la.covers (x ∷ us) more h))

  rest_starts : (x : X) (ts : List X) (list : List A) (mid : List X) → SpellsList a.spells (x ∷ ts) list mid → a.begins mid → fa x ≡ true
  rest_starts x ts list mid s h = list_opens x ts (list, mid, s, h)

  many_covers : (n : ℕ) (us more : List X) (list : List A) (mid : List X) → length (us ++ more) ≤ n → SpellsList a.spells us list mid → a.begins mid → Within more (read_many fa ra n (us ++ more))
  many_covers n us more [] mid le s h = covers_item n us more le (subst (λ (m : List X). a.begins m) (sym s) h)
  many_covers n us more (t ∷ list) mid le ([], s, w) h = covers_item n us more le (la.whole us t s)
  many_covers zero us more (t ∷ list) mid le (x ∷ mid1, s, w) h =
      absurd (let lt = item_starts us t (x ∷ mid1) s in omega (arith, lt.1, length-append us more))
  many_covers (suc n) us more (t ∷ list) mid le (x ∷ mid1, s, w) h =
      let p = la.place us t (x ∷ mid1) s in
      let lt = item_starts us t (x ∷ mid1) s in
      let there : us ++ more ≡ p.0 ++ ((x ∷ mid1) ++ more) = ap (λ (m : List X). m ++ more) p.1 ∙ append_assoc p.0 (x ∷ mid1) more in
      let one : ra (us ++ more) ≡ Ok (t, (x ∷ mid1) ++ more) = ap ra there ∙ la.only (p.0 ++ ((x ∷ mid1) ++ more)) t ((x ∷ mid1) ++ more) (p.2 ((x ∷ mid1) ++ more)) (behind t x (apart x (rest_starts x mid1 list mid w h))) in
      let shorter : length ((x ∷ mid1) ++ more) ≤ n = omega (arith, lt.1, length-append us more, length-append (x ∷ mid1) more) in
      rw (starts_append fa us more lt.0, one) (consed_within more t (read_many fa ra n ((x ∷ mid1) ++ more)) (many_covers n (x ∷ mid1) more list mid shorter w h))

  list_grows : (ts : List X) (list : List A) (rest : List X) → SpellsList a.spells ts list rest → SpellsList a'.spells ts list rest
  list_grows ts [] rest s = s
  list_grows ts (t ∷ list) rest s = (s.0, la.grows ts t s.0 s.1, list_grows s.0 list rest s.2)

  many_deep : (n : ℕ) (ts left : List X) → read_many fa ra n ts ≡ Err (TooDeep left) → (c : List X) × (x : X) × (rest : List X) × (ts ≡ c ++ x ∷ rest) × (left ≡ x ∷ rest) × (repeated a').begins (c ++ x ∷ [])
  many_deep zero ts left e = absurd cc
  many_deep (suc n) ts left e =
      elim (chosen (starts fa ts) (ra ts >>= λ y. read_many fa ra n y.1 >>= λ ys. Ok (y.0 ∷ ys.0, ys.1)) (Ok ([], ts)) (Err (TooDeep left)) e) [
        | inl (h, d) ↦
            elim (bind_err (ra ts) (λ y. read_many fa ra n y.1 >>= λ ys. Ok (y.0 ∷ ys.0, ys.1)) (TooDeep left) d) [
              | inl k ↦ let p = la.deep ts left k in (p.0, p.1, p.2, p.3, p.4, ([], p.0 ++ p.1 ∷ [], refl, p.5))
              | inr (x, k, w) ↦
                  elim (bind_err (read_many fa ra n x.1) (λ ys. Ok (x.0 ∷ ys.0, ys.1)) (TooDeep left) w) [
                    | inl m ↦
                        let p = la.place ts x.0 x.1 (la.sound ts x k) in
                        let q = many_deep n x.1 left m in
                        let end : List X = q.0 ++ q.1 ∷ [] in
                        let s : a'.spells (p.0 ++ end) x.0 end = la.grows (p.0 ++ end) x.0 end (p.2 end) in (
                          p.0 ++ q.0,
                          q.1,
                          q.2,
                          p.1 ∙ ap (λ (m : List X). p.0 ++ m) q.3 ∙ sym (append_assoc p.0 q.0 (q.1 ∷ q.2)),
                          q.4,
                          (x.0 ∷ q.5.0, q.5.1, (end, subst (λ (m : List X). a'.spells m x.0 end) (sym (append_assoc p.0 q.0 (q.1 ∷ []))) s, q.5.2), q.5.3),
                        )
                    | inr (z, m, v) ↦ absurd cc
                  ]
            ]
        | inr (h, d) ↦ absurd cc
      ]

  many_same_ok : (n : ℕ) (ts : List X) (x : List A × List X) → read_many fa ra n ts ≡ Ok x → read_many fa ra' n ts ≡ Ok x
  many_same_ok zero ts x e = e
  many_same_ok (suc n) ts x e =
      elim (chosen (starts fa ts) (ra ts >>= λ y. read_many fa ra n y.1 >>= λ ys. Ok (y.0 ∷ ys.0, ys.1)) (Ok ([], ts)) (Ok x) e) [
        | inl (h, d) ↦
            let p = bind_ok (ra ts) (λ y. read_many fa ra n y.1 >>= λ ys. Ok (y.0 ∷ ys.0, ys.1)) x d in
            let q = bind_ok (read_many fa ra n p.0.1) (λ ys. Ok (p.0.0 ∷ ys.0, ys.1)) x p.2 in
            rw (h, la.same_ok ts p.0 p.1, many_same_ok n p.0.1 q.0 q.1) q.2
        | inr (h, d) ↦ rw h d
      ]

  many_same_err : (n : ℕ) (ts left : List X) → read_many fa ra n ts ≡ Err (Syntax left) → read_many fa ra' n ts ≡ Err (Syntax left)
  many_same_err zero ts left e = absurd cc
  many_same_err (suc n) ts left e =
      elim (chosen (starts fa ts) (ra ts >>= λ y. read_many fa ra n y.1 >>= λ ys. Ok (y.0 ∷ ys.0, ys.1)) (Ok ([], ts)) (Err (Syntax left)) e) [
        | inl (h, d) ↦
            elim (bind_err (ra ts) (λ y. read_many fa ra n y.1 >>= λ ys. Ok (y.0 ∷ ys.0, ys.1)) (Syntax left) d) [
              | inl k ↦ rw (h, la.same_err ts left k) refl
              | inr (x, k, w) ↦
                  elim (bind_err (read_many fa ra n x.1) (λ ys. Ok (x.0 ∷ ys.0, ys.1)) (Syntax left) w) [
                    | inl m ↦ rw (h, la.same_ok ts x k, many_same_err n x.1 left m) refl
                    | inr (z, m, v) ↦ absurd cc
                  ]
            ]
        | inr (h, d) ↦ absurd cc
      ]

  pub repeated_laws : Lawful (repeated a) (repeated a') (read_repeated fa ra) (read_repeated fa ra') fa (behind_list fa gall) true
  repeated_laws = record {
    place = list_place;
    whole = λ us list s. (list, [], s, la.nil);
    nil = ([], [], refl, la.nil);
    opens = list_opens;
    takes = list_takes;
    sound = λ ts x e. many_sound (length ts) ts x e;
    only = λ ts list rest s e. many_only (length ts) ts list rest (omega arith) s e;
    front = λ ts s e. many_front (length ts) ts s e;
    covers = λ us more h. many_covers (length (us ++ more)) us more h.0 h.1 (omega arith) h.2 h.3;
    grows = list_grows;
    grows_begins = λ us h. (h.0, h.1, list_grows us h.0 h.1 h.2, la.grows_begins h.1 h.3);
    deep = λ ts left e. many_deep (length ts) ts left e;
    same_ok = λ ts x e. many_same_ok (length ts) ts x e;
    same_err = λ ts left e. many_same_err (length ts) ts left e;
  }
