-- What lies along the tokens of a form lies along those of a form that is made of it.
use Rattle.std.proofs.Common.{◌≡◌, ℕ, zero, suc, ◌<◌, inl, inr, Bool, true, false, List, [], ◌∷◌, ◌++◌, length, Option, Some, None, refl, sym, ap, subst, ◌∙◌, arith, length-append}
use Rattle.abel_grammar.proofs.Common.{All, flat_map, append_assoc, append-nil, All-nil, All-cons, Form, token, followed, ◌then◌, either, SpellsOption, optional, SpellsList, repeated, made, separated, grouped, chain, nothing, given, placed, times, unless, Place, Token, places_of_some, Along}
use Rattle.std.proofs.lemmas.List.Folds.{flat_map-map}
use Rattle.abel_grammar.proofs.Along.{along_none, along_append, along_first}

-- the places of what the form spells lie along the tokens that it takes
pub record Lies {A : Type 0} (a : Form Token A) (p : A → List Place) : Type 0 where
  pub along : (ts : List Token) (t : A) (rest : List Token) → a.spells ts t rest → (own : List Token) × (ts ≡ own ++ rest) × Along own (p t)

-- ---- tokens, and forms one after the other

here : (p : Place) → All (λ q. q ≡ p) (p ∷ [])
here p = All-cons (λ (q : Place). q ≡ p) p [] refl (All-nil (λ (q : Place). q ≡ p))

pub token_lies : (test : Token → Bool) → Lies (token test) (λ t. t.place ∷ [])
token_lies test = record { along = λ ts t rest s. (t ∷ [], s.0, (t.place ∷ [], [], refl, here t.place, refl)) }

-- a form whose places the tree leaves out
pub dropped : {A : Type 0} {a : Form Token A} {p : A → List Place} → Lies a p → Lies a (λ _. [])
dropped la = record { along = λ ts t rest s. let h = la.along ts t rest s in (h.0, h.1, along_none h.0) }

pub followed_lies : {A B : Type 0} {a : Form Token A} {b : A → Form Token B} {p : A → List Place} {q : B → List Place} → Lies a p → ((t : A) → Lies (b t) q) → Lies (followed a b) (λ x. p x.0 ++ q x.1)
followed_lies {p = p} {q = q} la lb = record {
  along = λ ts t rest s.
      let h = la.along ts t.0 s.0 s.1 in
      let k = (lb t.0).along s.0 t.1 rest s.2 in
      (h.0 ++ k.0, h.1 ∙ (ap (λ (l : List Token). h.0 ++ l) k.1 ∙ sym (append_assoc h.0 k.0 rest)), along_append h.0 k.0 (p t.0) (q t.1) h.2 k.2);
}

pub both : {A B : Type 0} {a : Form Token A} {b : Form Token B} {p : A → List Place} {q : B → List Place} → Lies a p → Lies b q → Lies (a then b) (λ x. p x.0 ++ q x.1)
both la lb = followed_lies la (λ _. lb)

pub behind : {A B : Type 0} {a : Form Token A} {b : Form Token B} {p : A → List Place} {q : B → List Place} → Lies a p → Lies b q → Lies (a then b) (λ x. q x.1)
behind la lb = followed_lies (dropped la) (λ _. lb)

pub turned : {A B : Type 0} {f : A → B} {a : Form Token A} {p : A → List Place} {q : B → List Place} → ((x : A) → q (f x) ≡ p x) → Lies a p → Lies (made f a) q
turned {q = q} e la = record {
  along = λ ts t rest s.
      let h = la.along ts s.0 rest s.1 in
      (h.0, h.1, subst (λ (l : List Place). Along h.0 l) (sym (e s.0) ∙ ap q s.2) h.2);
}

pub before : {A B : Type 0} {a : Form Token A} {b : Form Token B} {p : A → List Place} {q : B → List Place} → Lies a p → Lies b q → Lies (a then b) (λ x. p x.0)
before {p = p} la lb = record {
  along = λ ts t rest s.
      let h = (both la (dropped lb)).along ts t rest s in
      (h.0, h.1, subst (λ (l : List Place). Along h.0 l) (append-nil (p t.0)) h.2);
}

-- ---- choices

pub or_lies : {A : Type 0} {a b : Form Token A} {p : A → List Place} → Lies a p → Lies b p → Lies (either a b) p
or_lies la lb = record { along = λ ts t rest s. elim s [ inl h ↦ la.along ts t rest h | inr h ↦ lb.along ts t rest h ] }

pub nothing_lies : {A : Type 0} {p : A → List Place} → Lies nothing p
nothing_lies = record { along = λ ts t rest s. absurd s }

pub given_lies : {A : Type 0} {x : A} {p : A → List Place} → p x ≡ [] → Lies (given x) p
given_lies {p = p} e = record { along = λ ts t rest s. ([], s.0, sym (ap p s.1) ∙ e) }

pub some_lies : {A : Type 0} {a : Form Token A} {p : A → List Place} → Lies a p → Lies (optional a) (places_of_some p)
some_lies {A} {a} {p} la = record { along = some }
  where
    some : (ts : List Token) (o : Option A) (rest : List Token) → SpellsOption a.spells ts o rest → (own : List Token) × (ts ≡ own ++ rest) × Along own (places_of_some p o)
    some ts None rest s = ([], s, refl)
    some ts (Some t) rest s = la.along ts t rest s

-- a form, unless nothing follows
pub unless_lies : {A : Type 0} {a : Form Token A} {p : A → List Place} → (b : Bool) (x : A) → p x ≡ [] → Lies a p → Lies (unless b x a) p
unless_lies true x e la = given_lies e
unless_lies false x e la = la

-- ---- rows

pub many_lies : {A : Type 0} {a : Form Token A} {p : A → List Place} → Lies a p → Lies (repeated a) (flat_map p)
many_lies {A} {a} {p} la = record { along = many }
  where
    many : (ts : List Token) (list : List A) (rest : List Token) → SpellsList a.spells ts list rest → (own : List Token) × (ts ≡ own ++ rest) × Along own (flat_map p list)
    many ts [] rest s = ([], s, refl)
    many ts (t ∷ more) rest s =
        let h = la.along ts t s.0 s.1 in
        let k = many s.0 more rest s.2 in
        (h.0 ++ k.0, h.1 ∙ (ap (λ (l : List Token). h.0 ++ l) k.1 ∙ sym (append_assoc h.0 k.0 rest)), along_append h.0 k.0 (p t) (flat_map p more) h.2 k.2)

pub apart_lies : {A : Type 0} {a : Form Token A} {p : A → List Place} → (sign : Token → Bool) → Lies a p → Lies (separated sign a) (flat_map p)
apart_lies {p = p} sign la =
    turned (λ x. ap (λ (l : List Place). p x.0 ++ l) (flat_map-map p (λ y. y.1) x.1))
    (both la (many_lies (behind (token_lies sign) la)))

-- values joined from the left, where what is joined adds its places at the end
module _ {A B : Type 0} (join : A → B → A) (p : A → List Place) (q : B → List Place) (adds : (l : A) (x : B) → p (join l x) ≡ p l ++ q x) where
  grouped_places : (l : A) (xs : List B) → p (grouped join l xs) ≡ p l ++ flat_map q xs
  grouped_places l [] = sym (append-nil (p l))
  grouped_places l (x ∷ xs) =
      grouped_places (join l x) xs ∙ (ap (λ (m : List Place). m ++ flat_map q xs) (adds l x) ∙ append_assoc (p l) (q x) (flat_map q xs))

  pub chain_lies : {a : Form Token A} {b : Form Token B} → Lies a p → Lies b q → Lies (chain join a b) p
  chain_lies la lb = turned (λ x. grouped_places x.0 x.1) (both la (many_lies lb))

pub times_lies : {A : Type 0} {a : Form Token A} {p : A → List Place} → (n : ℕ) → Lies a p → Lies (times n a) (flat_map p)
times_lies zero la = given_lies refl
times_lies (suc n) la = turned (λ x. refl) (both la (times_lies n la))

-- ---- a form with its first token

-- the form takes a token at least
pub record Takes {A : Type 0} (a : Form Token A) : Type 0 where
  pub less : (ts : List Token) (t : A) (rest : List Token) → a.spells ts t rest → length rest < length ts

pub takes_token : (test : Token → Bool) → Takes (token test)
takes_token test = record { less = λ ts t rest s. omega (arith, ap length s.0) }

pub takes_behind : {A B : Type 0} {a : Form Token A} {b : Form Token B} {p : A → List Place} → Lies a p → Takes b → Takes (a then b)
takes_behind la lb = record {
  less = λ ts t rest s.
      let h = la.along ts t.0 s.0 s.1 in
      let k = lb.less s.0 t.1 rest s.2 in
      omega (arith, ap length h.1, length-append h.0 s.0, k);
}

pub takes_before : {A B : Type 0} {a : Form Token A} {b : Form Token B} {p : B → List Place} → Takes a → Lies b p → Takes (a then b)
takes_before la lb = record {
  less = λ ts t rest s.
      let h = lb.along s.0 t.1 rest s.2 in
      let k = la.less ts t.0 s.0 s.1 in
      omega (arith, ap length h.1, length-append h.0 rest, k);
}

pub placed_lies : {A : Type 0} {a : Form Token A} {p : A → List Place} → Takes a → Lies a p → Lies (placed a) (λ x. x.0.place ∷ p x.1)
placed_lies {A} {a} {p} ta la = record { along = λ ts t rest s. let h = la.along ts t.1 rest s.2 in with_first ts t s.0 rest s.1 (ta.less ts t.1 rest s.2) h.0 h.1 h.2 }
  where
    with_first : (ts : List Token) (t : Token × A) (us rest : List Token) → ts ≡ t.0 ∷ us → length rest < length ts → (own : List Token) → ts ≡ own ++ rest → Along own (p t.1) → (taken : List Token) × (ts ≡ taken ++ rest) × Along taken (t.0.place ∷ p t.1)
    with_first ts t us rest e lt [] d h = absurd (omega (arith, ap length d, lt))
    with_first ts t us rest e lt (x ∷ own) d h =
        let is : x ≡ t.0 = cc in
        (x ∷ own, d, subst (λ (y : Token). Along (x ∷ own) (y.place ∷ p t.1)) is (along_first x own (p t.1) h))
