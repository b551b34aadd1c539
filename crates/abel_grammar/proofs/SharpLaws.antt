-- Laws that say by the last part what may go on after the whole.
use Rattle.std.proofs.Common.{◌≡◌, ℕ, zero, suc, ◌≤◌, ◌<◌, ◌⊎◌, inl, inr, Bool, true, false, cond, List, [], ◌∷◌, ◌++◌, length, Option, Some, None, Result, Ok, Err, refl, sym, ap, subst, ◌∙◌, arith, length-append, ◌||◌, ◌&&◌, not, is_some}
use Rattle.abel_grammar.proofs.Common.{Form, ◌then◌, followed, optional, repeated, SpellsList, Stop, Reader, ◌>>=◌, starts, ◌then_read◌, read_followed, read_optional, read_many, read_repeated, unless, read_unless}
use Rattle.abel_grammar.proofs.Laws.{Lawful, or_false, starts_apart, starts_or_false}
use Rattle.abel_grammar.proofs.FollowedLaws.{followed_laws}
use Rattle.abel_grammar.proofs.RepeatedLaws.{repeated_laws}
use Rattle.abel_grammar.proofs.TokenLaws.{given_laws}
use Rattle.abel_grammar.proofs.OptionalLaws.{optional_laws, behind_option}
use Rattle.abel_grammar.proofs.MadeLaws.{relaxed_laws}

-- the laws with another bound on what may go on
pub with_only : {X T : Type 0} (a a' : Form X T) (r r' : Reader X T) (first : X → Bool) (goes : T → X → Bool) (null : Bool) (l : Lawful a a' r r' first goes null) (sharp : T → X → Bool)
    → ((ts : List X) (t : T) (rest : List X) → a.spells ts t rest → starts (sharp t) rest ≡ false → r ts ≡ Ok (t, rest)) → Lawful a a' r r' first sharp null
with_only a a' r r' first goes null l sharp only = record {
  place = l.place;
  whole = l.whole;
  nil = l.nil;
  opens = l.opens;
  takes = l.takes;
  sound = l.sound;
  only = only;
  front = l.front;
  covers = l.covers;
  grows = l.grows;
  grows_begins = l.grows_begins;
  deep = l.deep;
  same_ok = l.same_ok;
  same_err = l.same_err;
}

-- ---- a second part that is known to take a token if it is full

module _ {X A B : Type 0} (a a' : Form X A) (b b' : A → Form X B) (ra ra' : Reader X A) (rb rb' : A → Reader X B) (fa : X → Bool) (fb : A → X → Bool) (fall : X → Bool)
    (ga : A → X → Bool) (gb : A → B → X → Bool) (na nb : Bool)
    (la : Lawful a a' ra ra' fa ga na) (lb : (t : A) → Lawful (b t) (b' t) (rb t) (rb' t) (fb t) (gb t) nb)
    (apart : (t : A) (x : X) → fb t x ≡ true → ga t x ≡ false) (all : (t : A) (x : X) → fb t x ≡ true → fall x ≡ true)
    (full : B → Bool) (fills : (t : A) (mid : List X) (u : B) → (b t).spells mid u mid → full u ≡ true → ⊥) where
  abbrev S : A × B → X → Bool
  S t x = gb t.0 t.1 x || (not (full t.1) && ga t.0 x)

  bool_cases : (v : Bool) → (v ≡ true) ⊎ (v ≡ false)
  bool_cases true = inl refl
  bool_cases false = inr refl

  sharp_after : (t : A × B) (mid rest : List X) → (b t.0).spells mid t.1 rest → starts (S t) rest ≡ false → starts (ga t.0) mid ≡ false
  sharp_after t mid rest s e =
      elim ((lb t.0).takes mid t.1 rest s) [
        | inl (d, lt) ↦ starts_apart (fb t.0) (ga t.0) (apart t.0) mid d
        | inr (n, d) ↦
            elim (bool_cases (full t.1)) [
              | inl f ↦ absurd (fills t.0 mid t.1 (subst (λ (m : List X). (b t.0).spells mid t.1 m) (sym d) s) f)
              | inr f ↦
                  let both = starts_or_false (gb t.0 t.1) (λ x. not (full t.1) && ga t.0 x) rest e in
                  let h : starts (λ (x : X). not (full t.1) && ga t.0 x) rest ≡ false = both.1 in
                  subst (λ (m : List X). starts (ga t.0) m ≡ false) (sym d) (subst (λ (v : Bool). starts (λ (x : X). not v && ga t.0 x) rest ≡ false) f h)
            ]
      ]

  pub followed_sharp : Lawful (followed a b) (followed a' b') (read_followed ra rb) (read_followed ra' rb') (λ x. fa x || (na && fall x)) S (na && nb)
  followed_sharp =
      with_only _ _ _ _ _ _ _ (followed_laws a a' b b' ra ra' rb rb' fa fb fall ga gb na nb la lb apart all) S
      (λ ts t rest s e.
      let one = la.only ts t.0 s.0 s.1 (sharp_after t s.0 rest s.2 e) in
      let two = (lb t.0).only s.0 t.1 rest s.2 (starts_or_false (gb t.0 t.1) (λ x. not (full t.1) && ga t.0 x) rest e).0 in
      rw (one, two) refl)

-- ---- the last of a list

abbrev pub last_goes : {X A : Type 0} → (A → X → Bool) → List A → X → Bool
last_goes goes [] x = false
last_goes goes (t ∷ []) x = goes t x
last_goes goes (t ∷ u ∷ list) x = last_goes goes (u ∷ list) x

module _ {X A : Type 0} (a a' : Form X A) (ra ra' : Reader X A) (fa gall : X → Bool) (ga : A → X → Bool) (la : Lawful a a' ra ra' fa ga false)
    (behind : (t : A) (x : X) → gall x ≡ false → ga t x ≡ false) (apart : (x : X) → fa x ≡ true → gall x ≡ false) where
  abbrev L : List A → X → Bool
  L list x = fa x || last_goes ga list x

  item_takes : (ts : List X) (t : A) (rest : List X) → a.spells ts t rest → (starts fa ts ≡ true) × (length rest < length ts)
  item_takes ts t rest s = elim (la.takes ts t rest s) [ inl h ↦ h | inr (n, e) ↦ absurd cc ]

  last_ends : (t : A) (mid : List X) (list : List A) (rest : List X) → SpellsList a.spells mid list rest → starts (L (t ∷ list)) rest ≡ false → starts (ga t) mid ≡ false
  last_ends t mid [] rest s e = subst (λ (m : List X). starts (ga t) m ≡ false) (sym s) (starts_or_false fa (ga t) rest e).1
  last_ends t mid (u ∷ list) rest s e = starts_apart fa (ga t) (λ x h. behind t x (apart x h)) mid (item_takes mid u s.0 s.1).0

  last_drop : (t : A) (list : List A) (rest : List X) → starts (L (t ∷ list)) rest ≡ false → starts (L list) rest ≡ false
  last_drop t list [] e = refl
  last_drop t [] (x ∷ rest) e = or_none (fa x) (or_false (fa x) (ga t x) e).0
    where
      or_none : (v : Bool) → v ≡ false → (v || false) ≡ false
      or_none true e = absurd cc
      or_none false e = refl
  last_drop t (u ∷ list) (x ∷ rest) e = e

  sharp_many : (n : ℕ) (ts : List X) (list : List A) (rest : List X) → length ts ≤ n → SpellsList a.spells ts list rest → starts (L list) rest ≡ false → read_many fa ra n ts ≡ Ok (list, rest)
  sharp_many zero ts [] rest le s e = ap (λ (m : List X). Ok ([], m)) s
  sharp_many zero ts (t ∷ list) rest le s e = absurd (let lt = item_takes ts t s.0 s.1 in omega (arith, lt.1))
  sharp_many (suc n) ts [] rest le s e =
      let d : starts fa ts ≡ false = subst (λ (m : List X). starts fa m ≡ false) (sym s) (starts_or_false fa (λ x. false) rest e).0 in
      rw d (ap (λ (m : List X). Ok ([], m)) s)
  sharp_many (suc n) ts (t ∷ list) rest le s e =
      let h = item_takes ts t s.0 s.1 in
      let one = la.only ts t s.0 s.1 (last_ends t s.0 list rest s.2 e) in
      let two = sharp_many n s.0 list rest (omega (arith, h.1)) s.2 (last_drop t list rest e) in
      rw (h.0, one, two) refl

  pub repeated_sharp : Lawful (repeated a) (repeated a') (read_repeated fa ra) (read_repeated fa ra') fa L true
  repeated_sharp =
      with_only _ _ _ _ _ _ _ (repeated_laws a a' ra ra' fa gall ga la behind apart) L
      (λ ts list rest s e. sharp_many (length ts) ts list rest (omega arith) s e)

-- ---- a second part that may be missing

module _ {X A B : Type 0} (a a' : Form X A) (ra ra' : Reader X A) (fa : X → Bool) (ga : A → X → Bool) (la : Lawful a a' ra ra' fa ga false)
    (b b' : Form X B) (rb rb' : Reader X B) (fb : X → Bool) (gb : B → X → Bool) (lb : Lawful b b' rb rb' fb gb false) where
  option_fills : (mid : List X) (u : Option B) → (optional b).spells mid u mid → is_some u ≡ true → ⊥
  option_fills mid None s e = cc
  option_fills mid (Some u) s e = elim (lb.takes mid u mid s) [ inl h ↦ omega (arith, h.1) | inr (n, d) ↦ cc ]

  or_one : (f g : Bool) → (f || (false && g)) ≡ true → f ≡ true
  or_one true g e = refl
  or_one false g e = absurd cc

  -- if it is there, what may go on is what may go on after it
  pub option_sharp : ((t : A) (x : X) → fb x ≡ true → ga t x ≡ false) → Lawful (a then optional b) (a' then optional b') (ra then_read read_optional fb rb) (ra' then_read read_optional fb rb') fa (λ t x. behind_option fb gb t.1 x || (not (is_some t.1) && ga t.0 x)) false
  option_sharp apart =
      relaxed_laws _ _ _ _ _ fa _ (λ (t : A × Option B) (x : X). behind_option fb gb t.1 x || (not (is_some t.1) && ga t.0 x)) false
      (followed_sharp a a' (λ _. optional b) (λ _. optional b') ra ra' (λ _. read_optional fb rb) (λ _. read_optional fb rb') fa (λ _. fb) fb ga (λ t u x. behind_option fb gb u x) false true
      la (λ _. optional_laws b b' rb rb' fb gb lb) apart (λ t x h. h) is_some (λ t mid u s e. option_fills mid u s e))
      (λ x h. or_one (fa x) (fb x) h) (λ t x h. h)

  -- the same if it is answered unless the first part stops it
  module _ (stops : A → Bool) (apart : (t : A) (x : X) → stops t ≡ false → fb x ≡ true → ga t x ≡ false) where
    abbrev stop_first : A → X → Bool
    stop_first t x = not (stops t) && fb x

    abbrev stop_goes : A → Option B → X → Bool
    stop_goes t u x = not (stops t) && behind_option fb gb u x

    stop_laws : (v : Bool) → Lawful (unless v None (optional b)) (unless v None (optional b')) (read_unless v None (read_optional fb rb)) (read_unless v None (read_optional fb rb')) (λ x. not v && fb x) (λ u x. not v && behind_option fb gb u x) true
    stop_laws true = given_laws None (λ x. not true && fb x) (λ u x. not true && behind_option fb gb u x)
    stop_laws false = relaxed_laws _ _ _ _ fb (λ x. not false && fb x) (behind_option fb gb) (λ u x. not false && behind_option fb gb u x) true (optional_laws b b' rb rb' fb gb lb) (λ x h. h) (λ t x h. h)

    stop_fills : (v : Bool) (mid : List X) (u : Option B) → (unless v None (optional b)).spells mid u mid → is_some u ≡ true → ⊥
    stop_fills true mid None s e = cc
    stop_fills true mid (Some u) s e = absurd (let is : None ≡ Some u = s.1 in let no : ⊥ = cc in no)
    stop_fills false mid u s e = option_fills mid u s e

    stop_apart : (v : Bool) (t : A) (x : X) → stops t ≡ v → (not v && fb x) ≡ true → ga t x ≡ false
    stop_apart true t x e h = absurd cc
    stop_apart false t x e h = apart t x e h

    second : (u v : Bool) → (u && v) ≡ true → v ≡ true
    second true v e = e
    second false v e = absurd cc

    pub unless_sharp : Lawful (followed a (λ t. unless (stops t) None (optional b))) (followed a' (λ t. unless (stops t) None (optional b'))) (read_followed ra (λ t. read_unless (stops t) None (read_optional fb rb))) (read_followed ra' (λ t. read_unless (stops t) None (read_optional fb rb')))
        fa (λ t x. (not (stops t.0) && behind_option fb gb t.1 x) || (not (is_some t.1) && ga t.0 x)) false
    unless_sharp =
        relaxed_laws _ _ _ _ _ fa _ (λ (t : A × Option B) (x : X). (not (stops t.0) && behind_option fb gb t.1 x) || (not (is_some t.1) && ga t.0 x)) false
        (followed_sharp a a' (λ t. unless (stops t) None (optional b)) (λ t. unless (stops t) None (optional b')) ra ra' (λ t. read_unless (stops t) None (read_optional fb rb)) (λ t. read_unless (stops t) None (read_optional fb rb'))
        fa stop_first fb ga stop_goes false true la (λ t. stop_laws (stops t)) (λ t x h. stop_apart (stops t) t x refl h) (λ t x h. second (not (stops t)) (fb x) h)
        is_some (λ t mid u s e. stop_fills (stops t) mid u s e))
        (λ x h. or_one (fa x) (fb x) h) (λ t x h. h)

-- ---- a bound that holds for what is spelled

pub spelled_sharp : {X T : Type 0} (a a' : Form X T) (r r' : Reader X T) (first : X → Bool) (goes sharp : T → X → Bool) (null : Bool) → Lawful a a' r r' first goes null
    → ((ts : List X) (t : T) (rest : List X) (x : X) → a.spells ts t rest → sharp t x ≡ false → goes t x ≡ false) → Lawful a a' r r' first sharp null
spelled_sharp {X} {T} a a' r r' first goes sharp null l wider =
    with_only a a' r r' first goes null l sharp (λ ts t rest s e. l.only ts t rest s (one ts t rest s e))
  where
    one : (ts : List X) (t : T) (rest : List X) → a.spells ts t rest → starts (sharp t) rest ≡ false → starts (goes t) rest ≡ false
    one ts t [] s e = refl
    one ts t (x ∷ rest) s e = wider ts t (x ∷ rest) x s e
