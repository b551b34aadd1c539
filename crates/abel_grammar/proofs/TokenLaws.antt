-- A single token keeps the laws, and so does what takes no token.
use Rattle.std.proofs.Common.{◌≡◌, ◌<◌, ◌⊎◌, inl, inr, Bool, true, false, cond, List, [], ◌∷◌, ◌++◌, length, Option, Some, None, Result, Ok, Err, refl, sym, ap, subst, arith}
use Rattle.abel_grammar.proofs.Common.{Form, token, BeginsToken, given, Stop, Syntax, TooDeep, left_of, Reader, ◌>>=◌, starts, read_token, read_given}
use Rattle.abel_grammar.proofs.Laws.{Within, Lawful, chosen}

abbrev pub none : {X : Type 0} → X → Bool
none x = false

abbrev pub none_behind : {X T : Type 0} → T → X → Bool
none_behind t x = false

module _ {X : Type 0} (test : X → Bool) where
  token_sound : (ts : List X) (x : X × List X) → read_token test ts ≡ Ok x → (ts ≡ x.0 ∷ x.1) × (test x.0 ≡ true)
  token_sound [] x e = absurd cc
  token_sound (y ∷ ts) x e =
      elim (chosen (test y) (Ok (y, ts)) (Err (Syntax (y ∷ ts))) (Ok x) e) [
        | inl (h, d) ↦ let is : (y, ts) ≡ x = cc in subst (λ (z : X × List X). (y ∷ ts ≡ z.0 ∷ z.1) × (test z.0 ≡ true)) is (refl, h)
        | inr (h, d) ↦ absurd cc
      ]

  token_front : (ts : List X) (s : Stop X) → read_token test ts ≡ Err s → s ≡ Syntax ts
  token_front [] s e = cc
  token_front (y ∷ ts) s e =
      elim (chosen (test y) (Ok (y, ts)) (Err (Syntax (y ∷ ts))) (Err s) e) [ inl (h, d) ↦ absurd cc | inr (h, d) ↦ cc ]

  token_covers : (us more : List X) → BeginsToken test us → Within more (read_token test (us ++ more))
  token_covers [] [] h = omega arith
  token_covers [] (x ∷ more) h = elim (test x) as (λ v. Within (x ∷ more) (cond v (Ok (x, more)) (Err (Syntax (x ∷ more))))) [ true ↦ omega arith | false ↦ omega arith ]
  token_covers (x ∷ []) more h = rw h (omega arith)
  token_covers (x ∷ y ∷ us) more h = absurd h

  token_opens : (x : X) (us : List X) → BeginsToken test (x ∷ us) → test x ≡ true
  token_opens x [] h = h
  token_opens x (y ∷ us) h = absurd h

  token_whole : (us : List X) (t : X) → (us ≡ t ∷ []) × (test t ≡ true) → BeginsToken test us
  token_whole us t s = subst (λ (m : List X). BeginsToken test m) (sym s.0) s.1

  pub token_laws : Lawful (token test) (token test) (read_token test) (read_token test) test none_behind false
  token_laws = record {
    place = λ ts t rest s. (t ∷ [], s.0, λ other. (refl, s.1));
    whole = token_whole;
    nil = tt;
    opens = token_opens;
    takes = λ ts t rest s. inl (subst (λ (m : List X). starts test m ≡ true) (sym s.0) s.1, omega (arith, ap length s.0));
    sound = token_sound;
    only = λ ts t rest s e. subst (λ (m : List X). read_token test m ≡ Ok (t, rest)) (sym s.0) (rw s.1 refl);
    front = λ ts s e. ([], sym (ap left_of (token_front ts s e)), tt);
    covers = token_covers;
    grows = λ ts t rest s. s;
    grows_begins = λ us h. h;
    deep = λ ts left e. absurd (let h : TooDeep left ≡ Syntax ts = token_front ts (TooDeep left) e in let no : ⊥ = cc in no);
    same_ok = λ ts x e. e;
    same_err = λ ts left e. e;
  }

-- ---- no tokens

given_within : {X T : Type 0} (x : T) (us more : List X) → us ≡ [] → Within more (read_given x (us ++ more))
given_within x [] more h = omega arith
given_within x (y ∷ us) more h = absurd cc

given_sound : {X T : Type 0} (x : T) (ts : List X) (y : T × List X) → read_given x ts ≡ Ok y → (ts ≡ y.1) × (x ≡ y.0)
given_sound {X = X} {T = T} x ts y e = let is : (x, ts) ≡ y = cc in (ap (λ (p : T × List X). p.1) is, ap (λ (p : T × List X). p.0) is)

given_opens : {X : Type 0} (first : X → Bool) (x : X) (us : List X) → x ∷ us ≡ [] → first x ≡ true
given_opens first x us e = absurd cc

pub given_laws : {X T : Type 0} (x : T) (first : X → Bool) (goes : T → X → Bool) → Lawful (given x) (given x) (read_given x) (read_given x) first goes true
given_laws {X = X} {T = T} x first goes = record {
  place = λ ts t rest s. ([], s.0, λ other. (refl, s.1));
  whole = λ us t s. s.0;
  nil = refl;
  opens = given_opens first;
  takes = λ ts t rest s. inr (refl, s.0);
  sound = λ ts y e. given_sound x ts y e;
  only = λ ts t rest s e. subst (λ (m : List X). read_given x m ≡ Ok (t, rest)) (sym s.0) (ap (λ (u : T). Ok (u, rest)) s.1);
  front = λ ts s e. absurd cc;
  covers = given_within x;
  grows = λ ts t rest s. s;
  grows_begins = λ us h. h;
  deep = λ ts left e. absurd cc;
  same_ok = λ ts y e. e;
  same_err = λ ts left e. e;
}
