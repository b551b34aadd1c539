-- What opens one nesting too many keeps the laws: at the next depth its first token begins the form.
use Rattle.std.proofs.Common.{◌≡◌, ◌<◌, ◌⊎◌, inl, inr, Bool, true, false, cond, List, [], ◌∷◌, ◌++◌, length, Option, Some, None, Result, Ok, Err, refl, sym, ap, subst, arith}
use Rattle.abel_grammar.proofs.Common.{Form, nothing, Stop, Syntax, TooDeep, left_of, Reader, starts, read_deep}
use Rattle.abel_grammar.proofs.Laws.{Within, Lawful, chosen}

module _ {X T : Type 0} (a : Form X T) (ra : Reader X T) (fa : X → Bool) (goes : T → X → Bool) (one : (x : X) → fa x ≡ true → a.begins (x ∷ [])) (nil : a.begins []) where
  deep_front : (ts : List X) (s : Stop X) → read_deep {A = T} fa ts ≡ Err s → left_of s ≡ ts
  deep_front ts s e = elim (chosen (starts fa ts) (Err (TooDeep ts)) (Err (Syntax ts)) (Err s) e) [ inl (h, d) ↦ let is : TooDeep ts ≡ s = cc in sym (ap left_of is) | inr (h, d) ↦ let is : Syntax ts ≡ s = cc in sym (ap left_of is) ]

  deep_opens : (x : X) (us : List X) → x ∷ us ≡ [] → fa x ≡ true
  deep_opens x us e = absurd cc

  deep_sound : (ts : List X) (x : T × List X) → read_deep {A = T} fa ts ≡ Ok x → ⊥
  deep_sound ts x e = elim (chosen (starts fa ts) (Err (TooDeep ts)) (Err (Syntax ts)) (Ok x) e) [ inl (h, d) ↦ cc | inr (h, d) ↦ cc ]

  deep_within : (more : List X) → Within {T = T} more (read_deep {A = T} fa more)
  deep_within more = elim (starts fa more) as (λ v. Within {T = T} more (cond v (Err (TooDeep more)) (Err (Syntax more)))) [ true ↦ omega arith | false ↦ omega arith ]

  deep_deep : (ts left : List X) → read_deep {A = T} fa ts ≡ Err (TooDeep left) → (c : List X) × (x : X) × (rest : List X) × (ts ≡ c ++ x ∷ rest) × (left ≡ x ∷ rest) × a.begins (c ++ x ∷ [])
  deep_deep [] left e = absurd cc
  deep_deep (x ∷ ts) left e =
      elim (chosen (fa x) (Err (TooDeep (x ∷ ts))) (Err (Syntax (x ∷ ts))) (Err (TooDeep left)) e) [
        | inl (h, d) ↦ ([], x, ts, refl, cc, one x h)
        | inr (h, d) ↦ absurd cc
      ]

  module _ (miss : (ts : List X) → starts fa ts ≡ false → ra ts ≡ Err (Syntax ts)) where
    deep_same : (ts left : List X) → read_deep {A = T} fa ts ≡ Err (Syntax left) → ra ts ≡ Err (Syntax left)
    deep_same ts left e =
        elim (chosen (starts fa ts) (Err (TooDeep ts)) (Err (Syntax ts)) (Err (Syntax left)) e) [
          | inl (h, d) ↦ absurd cc
          | inr (h, d) ↦ let is : ts ≡ left = cc in subst (λ (m : List X). ra ts ≡ Err (Syntax m)) is (miss ts h)
        ]

    pub deep_laws : Lawful nothing a (read_deep fa) ra fa goes false
    deep_laws = record {
      place = λ ts t rest s. absurd s;
      whole = λ us t s. absurd s;
      nil = refl;
      opens = deep_opens;
      takes = λ ts t rest s. absurd s;
      sound = deep_sound;
      only = λ ts t rest s e. absurd s;
      front = λ ts s e. ([], sym (deep_front ts s e), refl);
      covers = λ us more h. subst (λ (m : List X). Within {T = T} more (read_deep {A = T} fa (m ++ more))) (sym h) (deep_within more);
      grows = λ ts t rest s. absurd s;
      grows_begins = λ us h. subst (λ (m : List X). a.begins m) (sym h) nil;
      deep = deep_deep;
      same_ok = λ ts x e. absurd (deep_sound ts x e);
      same_err = deep_same;
    }
