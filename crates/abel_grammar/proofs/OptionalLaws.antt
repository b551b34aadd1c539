-- An option keeps the laws.
use Rattle.std.proofs.Common.{◌≡◌, ◌<◌, ◌⊎◌, inl, inr, Bool, true, false, cond, List, [], ◌∷◌, ◌++◌, length, Option, Some, None, Result, Ok, Err, refl, sym, ap, subst, arith}
use Rattle.abel_grammar.proofs.Common.{Form, optional, Stop, Syntax, TooDeep, left_of, Reader, ◌>>=◌, starts, read_optional}
use Rattle.abel_grammar.proofs.Laws.{Within, Lawful, bind_ok, bind_err, chosen, never_grows}

abbrev pub behind_option : {X T : Type 0} → (X → Bool) → (T → X → Bool) → Option T → X → Bool
behind_option first goes None x = first x
behind_option first goes (Some t) x = goes t x

some_within : {X T : Type 0} (more : List X) (r : Result (T × List X) (Stop X)) → Within more r → Within {T = Option T} more (r >>= λ x. Ok (Some x.0, x.1))
some_within more (Ok x) w = w
some_within more (Err s) w = w

module _ {X T : Type 0} (a a' : Form X T) (ra ra' : Reader X T) (fa : X → Bool) (ga : T → X → Bool) (la : Lawful a a' ra ra' fa ga false) where
  option_place : (ts : List X) (t : Option T) (rest : List X) → (optional a).spells ts t rest → (c : List X) × (ts ≡ c ++ rest) × ((other : List X) → (optional a).spells (c ++ other) t other)
  option_place ts None rest s = ([], s, λ other. refl)
  option_place ts (Some t) rest s = la.place ts t rest s

  option_whole : (us : List X) (t : Option T) → (optional a).spells us t [] → a.begins us
  option_whole us None s = subst (λ (m : List X). a.begins m) (sym s) la.nil
  option_whole us (Some t) s = la.whole us t s

  option_takes : (ts : List X) (t : Option T) (rest : List X) → (optional a).spells ts t rest → ((starts fa ts ≡ true) × (length rest < length ts)) ⊎ ((true ≡ true) × (ts ≡ rest))
  option_takes ts None rest s = inr (refl, s)
  option_takes ts (Some t) rest s = elim (la.takes ts t rest s) [ inl h ↦ inl h | inr (n, e) ↦ absurd cc ]

  option_sound : (ts : List X) (x : Option T × List X) → read_optional fa ra ts ≡ Ok x → (optional a).spells ts x.0 x.1
  option_sound ts x e =
      elim (chosen (starts fa ts) (ra ts >>= λ y. Ok (Some y.0, y.1)) (Ok (None, ts)) (Ok x) e) [
        | inl (h, d) ↦
            let p = bind_ok (ra ts) (λ y. Ok (Some y.0, y.1)) x d in
            let is : (Some p.0.0, p.0.1) ≡ x = cc in
            subst (λ (y : Option T × List X). (optional a).spells ts y.0 y.1) is (la.sound ts p.0 p.1)
        | inr (h, d) ↦
            let is : (None, ts) ≡ x = cc in
            subst (λ (y : Option T × List X). (optional a).spells ts y.0 y.1) is refl
      ]

  option_only : (ts : List X) (t : Option T) (rest : List X) → (optional a).spells ts t rest → starts (behind_option fa ga t) rest ≡ false → read_optional fa ra ts ≡ Ok (t, rest)
  option_only ts None rest s e = subst (λ (m : List X). read_optional fa ra m ≡ Ok (None, rest)) (sym s) (rw e refl)
  option_only ts (Some t) rest s e = elim (la.takes ts t rest s) [ inl (h, lt) ↦ rw (h, la.only ts t rest s e) refl | inr (n, d) ↦ absurd cc ]

  option_front : (ts : List X) (s : Stop X) → read_optional fa ra ts ≡ Err s → (c : List X) × (ts ≡ c ++ left_of s) × a.begins c
  option_front ts s e =
      elim (chosen (starts fa ts) (ra ts >>= λ y. Ok (Some y.0, y.1)) (Ok (None, ts)) (Err s) e) [
        | inl (h, d) ↦ elim (bind_err (ra ts) (λ y. Ok (Some y.0, y.1)) s d) [ inl k ↦ la.front ts s k | inr (y, k, w) ↦ absurd cc ]
        | inr (h, d) ↦ absurd cc
      ]

  option_nothing : (more : List X) → Within more (read_optional fa ra more)
  option_nothing more =
      elim (starts fa more) as (λ v. Within {T = Option T} more (cond v (ra more >>= λ y. Ok (Some y.0, y.1)) (Ok (None, more)))) [ true ↦ some_within more (ra more) (never_grows _ _ _ _ _ _ _ la more) | false ↦ omega arith ]

  option_covers : (us more : List X) → a.begins us → Within more (read_optional fa ra (us ++ more))
  option_covers [] more h = option_nothing more
  option_covers (x ∷ us) more h = rw (la.opens x us h) (some_within more (ra ((x ∷ us) ++ more)) (la.covers (x ∷ us) more h))

  option_grows : (ts : List X) (t : Option T) (rest : List X) → (optional a).spells ts t rest → (optional a').spells ts t rest
  option_grows ts None rest s = s
  option_grows ts (Some t) rest s = la.grows ts t rest s

  option_deep : (ts left : List X) → read_optional fa ra ts ≡ Err (TooDeep left) → (c : List X) × (x : X) × (rest : List X) × (ts ≡ c ++ x ∷ rest) × (left ≡ x ∷ rest) × a'.begins (c ++ x ∷ [])
  option_deep ts left e =
      elim (chosen (starts fa ts) (ra ts >>= λ y. Ok (Some y.0, y.1)) (Ok (None, ts)) (Err (TooDeep left)) e) [
        | inl (h, d) ↦ elim (bind_err (ra ts) (λ y. Ok (Some y.0, y.1)) (TooDeep left) d) [ inl k ↦ la.deep ts left k | inr (y, k, w) ↦ absurd cc ]
        | inr (h, d) ↦ absurd cc
      ]

  option_same_ok : (ts : List X) (x : Option T × List X) → read_optional fa ra ts ≡ Ok x → read_optional fa ra' ts ≡ Ok x
  option_same_ok ts x e =
      elim (chosen (starts fa ts) (ra ts >>= λ y. Ok (Some y.0, y.1)) (Ok (None, ts)) (Ok x) e) [
        | inl (h, d) ↦ let p = bind_ok (ra ts) (λ y. Ok (Some y.0, y.1)) x d in rw (h, la.same_ok ts p.0 p.1) p.2
        | inr (h, d) ↦ rw h d
      ]

  option_same_err : (ts left : List X) → read_optional fa ra ts ≡ Err (Syntax left) → read_optional fa ra' ts ≡ Err (Syntax left)
  option_same_err ts left e =
      elim (chosen (starts fa ts) (ra ts >>= λ y. Ok (Some y.0, y.1)) (Ok (None, ts)) (Err (Syntax left)) e) [
        | inl (h, d) ↦ elim (bind_err (ra ts) (λ y. Ok (Some y.0, y.1)) (Syntax left) d) [ inl k ↦ rw (h, la.same_err ts left k) refl | inr (y, k, w) ↦ absurd cc ]
        | inr (h, d) ↦ absurd cc
      ]

  pub optional_laws : Lawful (optional a) (optional a') (read_optional fa ra) (read_optional fa ra') fa (behind_option fa ga) true
  optional_laws = record {
    place = option_place;
    whole = option_whole;
    nil = la.nil;
    opens = la.opens;
    takes = option_takes;
    sound = option_sound;
    only = option_only;
    front = option_front;
    covers = option_covers;
    grows = option_grows;
    grows_begins = la.grows_begins;
    deep = option_deep;
    same_ok = option_same_ok;
    same_err = option_same_err;
  }
