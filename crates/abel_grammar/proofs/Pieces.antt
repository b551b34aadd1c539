-- Sections lie one after the other, each along tokens of its own.
use Rattle.std.proofs.Common.{◌≡◌, Bool, true, false, List, [], ◌∷◌, ◌++◌, sym, ap, subst, ◌∙◌}
use Rattle.abel_grammar.proofs.Common.{flat_map, append_assoc, append-nil, Form, followed, ◌then◌, SpellsList, repeated, made, unless, Place, Token, SectionTree, places_of_section, Along}
use Rattle.abel_grammar.proofs.Forms.{Lies}

-- each section has tokens of its own, after those of the section before it
abbrev pub InPieces : List Token → List SectionTree → Type 0
InPieces ts [] = Unit {0}
InPieces ts (s ∷ ss) =
    (front : List Token) × (own : List Token) × (behind : List Token) × (ts ≡ front ++ (own ++ behind))
    × Along own (places_of_section s) × InPieces behind ss

-- tokens in front change nothing
pieces_behind : (us ts : List Token) (ss : List SectionTree) → InPieces ts ss → InPieces (us ++ ts) ss
pieces_behind us ts [] h = tt
pieces_behind us ts (s ∷ ss) h =
    (us ++ h.0, h.1, h.2, ap (λ (l : List Token). us ++ l) h.3 ∙ sym (append_assoc us h.0 (h.1 ++ h.2)), h.4, h.5)

pub pieces_append : (os bs : List Token) (ss rs : List SectionTree) → InPieces os ss → InPieces bs rs → InPieces (os ++ bs) (ss ++ rs)
pieces_append os bs [] rs h k = pieces_behind os bs rs k
pieces_append os bs (s ∷ ss) rs h k =
    (h.0, h.1, h.2 ++ bs, parts h.3, h.4, pieces_append h.2 bs ss rs h.5 k)
  where
    parts : os ≡ h.0 ++ (h.1 ++ h.2) → os ++ bs ≡ h.0 ++ (h.1 ++ (h.2 ++ bs))
    parts e =
        ap (λ (l : List Token). l ++ bs) e
        ∙ (append_assoc h.0 (h.1 ++ h.2) bs ∙ ap (λ (l : List Token). h.0 ++ l) (append_assoc h.1 h.2 bs))

-- the sections of what the form spells lie so in the tokens that it takes
pub record Parts {A : Type 0} (a : Form Token A) (of : A → List SectionTree) : Type 0 where
  pub pieces : (ts : List Token) (t : A) (rest : List Token) → a.spells ts t rest → (own : List Token) × (ts ≡ own ++ rest) × InPieces own (of t)

pub one_part : {a : Form Token SectionTree} → Lies a places_of_section → Parts a (λ s. s ∷ [])
one_part la = record {
  pieces = λ ts t rest s.
      let h = la.along ts t rest s in
      (h.0, h.1, ([], h.0, [], sym (append-nil h.0), h.2, tt));
}

pub no_part : {A : Type 0} {a : Form Token A} {p : A → List Place} → Lies a p → Parts a (λ _. [])
no_part la = record { pieces = λ ts t rest s. let h = la.along ts t rest s in (h.0, h.1, tt) }

pub turned_parts : {A B : Type 0} {f : A → B} {a : Form Token A} {of : A → List SectionTree} {to : B → List SectionTree} → ((x : A) → to (f x) ≡ of x) → Parts a of → Parts (made f a) to
turned_parts {to = to} e la = record {
  pieces = λ ts t rest s.
      let h = la.pieces ts s.0 rest s.1 in
      (h.0, h.1, subst (λ (l : List SectionTree). InPieces h.0 l) (sym (e s.0) ∙ ap to s.2) h.2);
}

pub followed_parts : {A B : Type 0} {a : Form Token A} {b : A → Form Token B} {of : A → List SectionTree} {to : B → List SectionTree} → Parts a of → ((t : A) → Parts (b t) to) → Parts (followed a b) (λ x. of x.0 ++ to x.1)
followed_parts {of = of} {to = to} la lb = record {
  pieces = λ ts t rest s.
      let h = la.pieces ts t.0 s.0 s.1 in
      let k = (lb t.0).pieces s.0 t.1 rest s.2 in
      (h.0 ++ k.0, h.1 ∙ (ap (λ (l : List Token). h.0 ++ l) k.1 ∙ sym (append_assoc h.0 k.0 rest)), pieces_append h.0 k.0 (of t.0) (to t.1) h.2 k.2);
}

pub parts_then : {A B : Type 0} {a : Form Token A} {b : Form Token B} {of : A → List SectionTree} {to : B → List SectionTree} → Parts a of → Parts b to → Parts (a then b) (λ x. of x.0 ++ to x.1)
parts_then la lb = followed_parts la (λ _. lb)

pub unless_parts : {A : Type 0} {a : Form Token A} {of : A → List SectionTree} → (b : Bool) (x : A) → of x ≡ [] → Parts a of → Parts (unless b x a) of
unless_parts {of = of} true x e la = record {
  pieces = λ ts t rest s. ([], s.0, subst (λ (l : List SectionTree). InPieces [] l) (sym (sym (ap of s.1) ∙ e)) tt);
}
unless_parts false x e la = la

pub many_parts : {A : Type 0} {a : Form Token A} {of : A → List SectionTree} → Parts a of → Parts (repeated a) (flat_map of)
many_parts {A} {a} {of} la = record { pieces = many }
  where
    many : (ts : List Token) (list : List A) (rest : List Token) → SpellsList a.spells ts list rest → (own : List Token) × (ts ≡ own ++ rest) × InPieces own (flat_map of list)
    many ts [] rest s = ([], s, tt)
    many ts (t ∷ more) rest s =
        let h = la.pieces ts t s.0 s.1 in
        let k = many s.0 more rest s.2 in
        (h.0 ++ k.0, h.1 ∙ (ap (λ (l : List Token). h.0 ++ l) k.1 ∙ sym (append_assoc h.0 k.0 rest)), pieces_append h.0 k.0 (of t) (flat_map of more) h.2 k.2)
