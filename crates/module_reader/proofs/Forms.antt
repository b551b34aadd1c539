-- Tokens that spell a form begin it, and so does each front of tokens that begin it; so of a form that is made of such
-- forms.
use Rattle.std.proofs.Common.{◌≡◌, ℕ, zero, suc, ◌<◌, ◌⊎◌, inl, inr, Bool, true, false, List, [], ◌∷◌, ◌++◌, length, Option, Some, None, refl, sym, ap, subst, ◌∙◌, arith}
use Rattle.module_reader.proofs.Common.{append_assoc, Form, BeginsToken, token, followed, ◌then◌, either, SpellsOption, optional, SpellsList, repeated, made, separated, chain, nothing, given, Token, Lies, Takes}
use Rattle.abel_grammar.specs.Further.{placed, times, unless}
use Rattle.abel_grammar.proofs.Along.{along_none}

-- the tokens that spell a tree do so whatever follows them, and begin the form
pub record Taken {A : Type 0} (a : Form Token A) (ts : List Token) (t : A) (rest : List Token) : Type 0 where
  pub own : List Token
  pub parts : ts ≡ own ++ rest
  pub again : (other : List Token) → a.spells (own ++ other) t other
  pub whole : a.begins own

-- so are all that spell the form; and what begins it may be cut short anywhere, even to nothing
pub record Begun {A : Type 0} (a : Form Token A) : Type 0 where
  pub none : a.begins []
  pub front : (c d : List Token) → a.begins (c ++ d) → a.begins c
  pub taken : (ts : List Token) (t : A) (rest : List Token) → a.spells ts t rest → Taken a ts t rest

-- ---- fronts

no_front : (c d : List Token) → c ++ d ≡ [] → c ≡ []
no_front [] d e = refl
no_front (x ∷ c) d e = absurd cc

-- a front of two lists ends in the first, or in the second
cut : (a b c d : List Token) → a ++ b ≡ c ++ d → ((e : List Token) × (a ≡ c ++ e)) ⊎ ((e : List Token) × (c ≡ a ++ e) × (b ≡ e ++ d))
cut [] b c d e = inr (c, refl, e)
cut (x ∷ a) b [] d e = inl (x ∷ a, refl)
cut (x ∷ a) b (y ∷ c) d e = behind (cut a b c d cc)
  where
    same : x ≡ y
    same = cc

    behind : ((e : List Token) × (a ≡ c ++ e)) ⊎ ((e : List Token) × (c ≡ a ++ e) × (b ≡ e ++ d)) → ((e : List Token) × (x ∷ a ≡ y ∷ (c ++ e))) ⊎ ((e : List Token) × (y ∷ c ≡ x ∷ (a ++ e)) × (b ≡ e ++ d))
    behind (inl (e, is)) = inl (e, ap (λ (z : Token). z ∷ a) same ∙ ap (λ (zs : List Token). y ∷ zs) is)
    behind (inr (e, is, rest)) = inr (e, ap (λ (z : Token). z ∷ c) (sym same) ∙ ap (λ (zs : List Token). x ∷ zs) is, rest)

-- ---- tokens, and forms one after the other

token_front : (test : Token → Bool) (c d : List Token) → BeginsToken test (c ++ d) → BeginsToken test c
token_front test [] d h = tt
token_front test (x ∷ []) [] h = h
token_front test (x ∷ []) (y ∷ d) h = absurd h
token_front test (x ∷ y ∷ c) d h = h

pub token_begun : (test : Token → Bool) → Begun (token test)
token_begun test = record {
  none = tt;
  front = token_front test;
  taken = λ ts t rest s. record { own = t ∷ []; parts = s.0; again = λ other. (refl, s.1); whole = s.1 };
}

pub followed_begun : {A B : Type 0} {a : Form Token A} {b : A → Form Token B} → Begun a → ((t : A) → Begun (b t)) → Begun (followed a b)
followed_begun {A} {B} {a} {b} la lb = record { none = inl la.none; front = front; taken = taken }
  where
    front : (c d : List Token) → (followed a b).begins (c ++ d) → (followed a b).begins c
    front c d (inl h) = inl (la.front c d h)
    front c d (inr (t, mid, s, h)) =
        let p = la.taken (c ++ d) t mid s in
        elim (cut p.own mid c d (sym p.parts)) [
          | inl (e, is) ↦ inl (la.front c e (subst (λ (l : List Token). a.begins l) is p.whole))
          | inr (e, is, left) ↦ inr (t, e, subst (λ (l : List Token). a.spells l t e) (sym is) (p.again e), (lb t).front e d (subst (λ (l : List Token). (b t).begins l) left h))
        ]

    taken : (ts : List Token) (t : A × B) (rest : List Token) → (followed a b).spells ts t rest → Taken (followed a b) ts t rest
    taken ts t rest s =
        let p = la.taken ts t.0 s.0 s.1 in
        let q = (lb t.0).taken s.0 t.1 rest s.2 in
        record {
          own = p.own ++ q.own;
          parts = p.parts ∙ (ap (λ (l : List Token). p.own ++ l) q.parts ∙ sym (append_assoc p.own q.own rest));
          again = λ other. (q.own ++ other, subst (λ (l : List Token). a.spells l t.0 (q.own ++ other)) (sym (append_assoc p.own q.own other)) (p.again (q.own ++ other)), q.again other);
          whole = inr (t.0, q.own, p.again q.own, q.whole);
        }

pub then_begun : {A B : Type 0} {a : Form Token A} {b : Form Token B} → Begun a → Begun b → Begun (a then b)
then_begun la lb = followed_begun la (λ _. lb)

pub made_begun : {A B : Type 0} {f : A → B} {a : Form Token A} → Begun a → Begun (made f a)
made_begun la = record {
  none = la.none;
  front = la.front;
  taken = λ ts t rest s.
      let h = la.taken ts s.0 rest s.1 in
      record { own = h.own; parts = h.parts; again = λ other. (s.0, h.again other, s.2); whole = h.whole };
}

-- ---- choices

pub or_begun : {A : Type 0} {a b : Form Token A} → Begun a → Begun b → Begun (either a b)
or_begun {A} {a} {b} la lb = record { none = inl la.none; front = front; taken = taken }
  where
    front : (c d : List Token) → (either a b).begins (c ++ d) → (either a b).begins c
    front c d (inl h) = inl (la.front c d h)
    front c d (inr h) = inr (lb.front c d h)

    taken : (ts : List Token) (t : A) (rest : List Token) → (either a b).spells ts t rest → Taken (either a b) ts t rest
    taken ts t rest (inl s) =
        let h = la.taken ts t rest s in
        record { own = h.own; parts = h.parts; again = λ other. inl (h.again other); whole = inl h.whole }
    taken ts t rest (inr s) =
        let h = lb.taken ts t rest s in
        record { own = h.own; parts = h.parts; again = λ other. inr (h.again other); whole = inr h.whole }

pub nothing_begun : {A : Type 0} → Begun (nothing {A = A})
nothing_begun = record { none = refl; front = no_front; taken = λ ts t rest s. absurd s }

pub given_begun : {A : Type 0} (x : A) → Begun (given x)
given_begun x = record {
  none = refl;
  front = no_front;
  taken = λ ts t rest s. record { own = []; parts = s.0; again = λ other. (refl, s.1); whole = refl };
}

pub some_begun : {A : Type 0} {a : Form Token A} → Begun a → Begun (optional a)
some_begun {A} {a} la = record { none = la.none; front = la.front; taken = some }
  where
    some : (ts : List Token) (o : Option A) (rest : List Token) → SpellsOption a.spells ts o rest → Taken (optional a) ts o rest
    some ts None rest s = record { own = []; parts = s; again = λ other. refl; whole = la.none }
    some ts (Some t) rest s =
        let h = la.taken ts t rest s in
        record { own = h.own; parts = h.parts; again = h.again; whole = h.whole }

pub unless_begun : {A : Type 0} {a : Form Token A} (b : Bool) (x : A) → Begun a → Begun (unless b x a)
unless_begun true x la = given_begun x
unless_begun false x la = la

-- ---- rows

pub many_begun : {A : Type 0} {a : Form Token A} → Begun a → Begun (repeated a)
many_begun {A} {a} la = record { none = ([], [], refl, la.none); front = front; taken = many }
  where
    many : (ts : List Token) (list : List A) (rest : List Token) → SpellsList a.spells ts list rest → Taken (repeated a) ts list rest
    many ts [] rest s = record { own = []; parts = s; again = λ other. refl; whole = ([], [], refl, la.none) }
    many ts (t ∷ more) rest s =
        let p = la.taken ts t s.0 s.1 in
        let q = many s.0 more rest s.2 in
        let w = q.whole in
        record {
          own = p.own ++ q.own;
          parts = p.parts ∙ (ap (λ (l : List Token). p.own ++ l) q.parts ∙ sym (append_assoc p.own q.own rest));
          again = λ other. (q.own ++ other, subst (λ (l : List Token). a.spells l t (q.own ++ other)) (sym (append_assoc p.own q.own other)) (p.again (q.own ++ other)), q.again other);
          whole = (t ∷ w.0, w.1, (q.own, p.again q.own, w.2), w.3);
        }

    front : (c d : List Token) → (repeated a).begins (c ++ d) → (repeated a).begins c
    front c d (list, mid, s, h) = within list mid (c ++ d) c d refl s h
      where
        within : (list : List A) (mid us c d : List Token) → us ≡ c ++ d → SpellsList a.spells us list mid → a.begins mid → (repeated a).begins c
        within [] mid us c d e s h = ([], c, refl, la.front c d (subst (λ (l : List Token). a.begins l) (sym s ∙ e) h))
        within (t ∷ more) mid us c d e s h =
            let p = la.taken us t s.0 s.1 in
            elim (cut p.own s.0 c d (sym p.parts ∙ e)) [
              | inl (f, is) ↦ ([], c, refl, la.front c f (subst (λ (l : List Token). a.begins l) is p.whole))
              | inr (f, is, left) ↦
                  let q = within more mid s.0 f d left s.2 h in
                  (t ∷ q.0, q.1, (f, subst (λ (l : List Token). a.spells l t f) (sym is) (p.again f), q.2), q.3)
            ]

pub apart_begun : {A : Type 0} {a : Form Token A} (sign : Token → Bool) → Begun a → Begun (separated sign a)
apart_begun sign la = made_begun (then_begun la (many_begun (then_begun (token_begun sign) la)))

pub chain_begun : {A B : Type 0} {join : A → B → A} {a : Form Token A} {b : Form Token B} → Begun a → Begun b → Begun (chain join a b)
chain_begun la lb = made_begun (then_begun la (many_begun lb))

pub times_begun : {A : Type 0} {a : Form Token A} (n : ℕ) → Begun a → Begun (times n a)
times_begun zero la = given_begun []
times_begun (suc n) la = made_begun (then_begun la (times_begun n la))

-- ---- a form with its first token

-- the tokens that spell it precede the rest
pub lies : {A : Type 0} {a : Form Token A} → Begun a → Lies a (λ _. [])
lies la = record { along = λ ts t rest s. let h = la.taken ts t rest s in (h.own, h.parts, along_none h.own) }

has_first : (ts : List Token) (x : Token) (us own rest : List Token) → ts ≡ x ∷ us → length rest < length ts → ts ≡ own ++ rest → (d : List Token) × (own ≡ x ∷ d)
has_first ts x us [] rest e lt p = absurd (omega (arith, ap length p, lt))
has_first ts x us (y ∷ own) rest e lt p = (own, let is : y ≡ x = cc in ap (λ (z : Token). z ∷ own) is)

pub placed_begun : {A : Type 0} {a : Form Token A} → Takes a → Begun a → Begun (placed a)
placed_begun ta la = record {
  none = la.none;
  front = la.front;
  taken = λ ts t rest s.
      let h = la.taken ts t.1 rest s.2 in
      let f = has_first ts t.0 s.0 h.own rest s.1 (ta.less ts t.1 rest s.2) h.parts in
      record { own = h.own; parts = h.parts; again = λ other. (f.0 ++ other, ap (λ (l : List Token). l ++ other) f.1, h.again other); whole = h.whole };
}
