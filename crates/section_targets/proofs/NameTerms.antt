-- What names represent, and the members of sets one at a time.
use Rattle.std.proofs.Common.{◌≡◌, ℕ, inl, inr, zero, suc, ◌+◌, ◌≤◌, Bool, true, false, Option, None, Some, List, [], ◌∷◌, ◌++◌, if◌then◌else◌, length, map, get_or, slice_get, cond, bytes_eq, refl, sym, ap, ◌∙◌, subst, arith, append_assoc, append-nil, length-append}
use Rattle.section_targets.proofs.Common.{cases_cond, position_from, position_from-zero, map-append, slice_get_past, slice_get-get_or, get_or-append_seam, Entry, find, range_names, SetMember, OneMember, SpanMember, members_of, targets_of, all_targets, Term, Terms, NoTerm, Known, term_named, term_meant, term_of, terms_of, member_before, named_before, known_after, known_of, NamedSignals, IsOfTerm, AreOfTerms, StandFor}
use Rattle.abel_meaning.specs.Terms.{Number}

-- ---- names by place

pub position_past : (test : Entry → Bool) (i : ℕ) (es : List Entry) (j : ℕ) → position_from test i es ≡ Some j → i ≤ j
position_past test i [] j e = absurd cc
position_past test i (x ∷ es) j e = elim (cases_cond (test x) (Some i) (position_from test (i + 1) es) (Some j) (sym e)) [
  | inl h ↦ let same : i ≡ j = cc in omega (arith, same)
  | inr h ↦ omega (arith, position_past test (i + 1) es j (sym h))
]

-- what is at a place, a number if nothing does
abbrev pub term_or : Option Known → Term
term_or None = Number 0
term_or (Some k) = k.term

abbrev pub term_at : List Known → Option ℕ → Term
term_at ks None = Number 0
term_at ks (Some i) = term_or (slice_get ks i)

none_at : (ks : List Known) (o : Option ℕ) → ((j : ℕ) → o ≡ Some j → length ks ≤ j) → Number 0 ≡ term_at ks o
none_at ks None h = refl
none_at ks (Some j) h = rw (slice_get_past ks j (h j refl)) refl

here_or : (b c : Bool) (i : ℕ) (ks : List Known) (k : Known) (o : Option ℕ) (u : Term) → b ≡ c → slice_get ks i ≡ Some k → u ≡ term_at ks o → (if c then k.term else u) ≡ term_at ks (cond b (Some i) o)
here_or true true i ks k o u e g h = rw g refl
here_or false false i ks k o u e g h = h
here_or _ _ i ks k o u e g h = absurd cc

seam : (before : List Known) (k : Known) (ks : List Known) (i : ℕ) → length before ≡ i → slice_get (before ++ k ∷ ks) i ≡ Some k
seam before k ks i e =
    slice_get-get_or (before ++ k ∷ ks) i k (omega (arith, e, length-append before (k ∷ ks)))
    ∙ ap Some (ap (λ j. get_or (before ++ k ∷ ks) j k) (sym e) ∙ get_or-append_seam before k ks k)

placed_from : (i : ℕ) (before ks : List Known) (es : List Entry) (later : List (List ℕ)) (w : List ℕ) → length before ≡ i → map (λ (e : Entry). e.name) es ≡ map (λ (k : Known). k.name) ks ++ later
    → term_named ks w ≡ term_at (before ++ ks) (position_from (λ (e : Entry). bytes_eq w e.name) i es)
placed_from i before [] es later w l e =
    none_at (before ++ []) (position_from (λ (e : Entry). bytes_eq w e.name) i es)
    (λ j g. omega (arith, position_past (λ (e : Entry). bytes_eq w e.name) i es j g, l, length-append before []))
placed_from i before (k ∷ ks) [] later w l e = absurd cc
placed_from i before (k ∷ ks) (x ∷ es) later w l e =
    let first : x.name ≡ k.name = cc in
    let rest : map (λ (y : Entry). y.name) es ≡ map (λ (j : Known). j.name) ks ++ later = cc in
    here_or (bytes_eq w x.name) (bytes_eq w k.name) i (before ++ k ∷ ks) k (position_from (λ (e : Entry). bytes_eq w e.name) (i + 1) es) (term_named ks w)
    (ap (bytes_eq w) first) (seam before k ks i l)
    (subst (λ ms. term_named ks w ≡ term_at ms (position_from (λ (e : Entry). bytes_eq w e.name) (i + 1) es)) (append_assoc before (k ∷ []) ks)
    (placed_from (i + 1) (before ++ k ∷ []) ks es later w (omega (arith, l, length-append before (k ∷ []))) rest))

pub placed : (ks : List Known) (es : List Entry) (later : List (List ℕ)) (w : List ℕ) → map (λ (e : Entry). e.name) es ≡ map (λ (k : Known). k.name) ks ++ later → term_named ks w ≡ term_at ks (find es w)
placed ks es later w h =
    subst (λ o. term_named ks w ≡ term_at ks o) (sym (position_from-zero (λ (e : Entry). bytes_eq w e.name) es))
    (placed_from 0 [] ks es later w refl h)

-- ---- names by number

-- what is at a place, a number if nothing does
abbrev pub IsAt : ℕ → Option NamedSignals → Term → Type 0
IsAt count None t = t ≡ Number 0
IsAt count (Some n) t = IsOfTerm count n t

at_place : (count : ℕ) (ns : List NamedSignals) (ks : List Known) (i : ℕ) → AreOfTerms count ns ks → IsAt count (slice_get ns i) (term_or (slice_get ks i))
at_place count [] [] i h = refl
at_place count (n ∷ ns) (k ∷ ks) zero h = h.0
at_place count (n ∷ ns) (k ∷ ks) (suc i) h = at_place count ns ks i h.1
at_place count _ _ i h = absurd h

module _ (count : ℕ) (es : List Entry) (ns : List NamedSignals) (ks : List Known) (w : List ℕ) (h : StandFor count es ns ks) where
  pub named_none : find es w ≡ None → term_named ks w ≡ Number 0
  named_none e = placed ks es h.later w h.names ∙ ap (term_at ks) e

  -- what a name represents, by its place
  pub named_at : (i : ℕ) (o : Option NamedSignals) → find es w ≡ Some i → slice_get ns i ≡ o → IsAt count o (term_named ks w)
  named_at i o e g =
      subst (IsAt count o) (sym (placed ks es h.later w h.names ∙ ap (term_at ks) e))
      (subst (λ p. IsAt count p (term_or (slice_get ks i))) g (at_place count ns ks i h.terms))

-- ---- members of constants

before_targets : (ks : List Known) (names : List (List ℕ)) (ts : Terms) → all_targets (named_before ks names ts) ≡ all_targets (named_before ks names NoTerm) ++ all_targets ts
before_targets ks [] ts = refl
before_targets ks (n ∷ names) ts =
    ap (λ xs. targets_of (term_named ks n) ++ xs) (before_targets ks names ts)
    ∙ sym (append_assoc (targets_of (term_named ks n)) (all_targets (named_before ks names NoTerm)) (all_targets ts))

member_targets : (ks : List Known) (m : SetMember) (ts : Terms) → all_targets (member_before ks m ts) ≡ all_targets (member_before ks m NoTerm) ++ all_targets ts
member_targets ks (OneMember t) ts = ap (λ xs. xs ++ all_targets ts) (sym (append-nil (targets_of (term_of ks t))))
member_targets ks (SpanMember first last) ts = before_targets ks (range_names first.text last.text) ts

pub targets_more : (ks : List Known) (ms : List SetMember) (m : SetMember) → all_targets (terms_of ks (members_of (ms ++ m ∷ []))) ≡ all_targets (terms_of ks (members_of ms)) ++ all_targets (member_before ks m NoTerm)
targets_more ks [] m = refl
targets_more ks (x ∷ ms) m =
    member_targets ks x (terms_of ks (members_of (ms ++ m ∷ [])))
    ∙ ap (λ xs. all_targets (member_before ks x NoTerm) ++ xs) (targets_more ks ms m)
    ∙ sym (append_assoc (all_targets (member_before ks x NoTerm)) (all_targets (terms_of ks (members_of ms))) (all_targets (member_before ks m NoTerm)))
    ∙ ap (λ xs. xs ++ all_targets (member_before ks m NoTerm)) (sym (member_targets ks x (terms_of ks (members_of ms))))

pub range_targets : (ks : List Known) (names : List (List ℕ)) (n : List ℕ) → all_targets (named_before ks (names ++ n ∷ []) NoTerm) ≡ all_targets (named_before ks names NoTerm) ++ targets_of (term_named ks n)
range_targets ks [] n = append-nil (targets_of (term_named ks n))
range_targets ks (x ∷ names) n =
    ap (λ xs. targets_of (term_named ks x) ++ xs) (range_targets ks names n)
    ∙ sym (append_assoc (targets_of (term_named ks x)) (all_targets (named_before ks names NoTerm)) (targets_of (term_named ks n)))

-- ---- one name more

pub known_more : (ks : List Known) (s : ℕ) (es : List Entry) (e : Entry) → known_after ks s (es ++ e ∷ []) ≡ known_after ks s es ++ record { name = e.name; term = term_meant (known_after ks s es) (s + length es) e.kind } ∷ []
known_more ks s [] e = ap (λ n. ks ++ record { name = e.name; term = term_meant ks n e.kind } ∷ []) (omega arith)
known_more ks s (x ∷ es) e =
    known_more (ks ++ record { name = x.name; term = term_meant ks s x.kind } ∷ []) (suc s) es e
    ∙ ap (λ n. known_after ks s (x ∷ es) ++ record { name = e.name; term = term_meant (known_after ks s (x ∷ es)) n e.kind } ∷ []) (omega arith)

pub known_names : (ks : List Known) (s : ℕ) (es : List Entry) → map (λ (k : Known). k.name) (known_after ks s es) ≡ map (λ (k : Known). k.name) ks ++ map (λ (e : Entry). e.name) es
known_names ks s [] = sym (append-nil (map (λ (k : Known). k.name) ks))
known_names ks s (e ∷ es) =
    known_names (ks ++ record { name = e.name; term = term_meant ks s e.kind } ∷ []) (suc s) es
    ∙ ap (λ ns. ns ++ map (λ (e : Entry). e.name) es) (map-append (λ (k : Known). k.name) ks (record { name = e.name; term = term_meant ks s e.kind } ∷ []))
    ∙ append_assoc (map (λ (k : Known). k.name) ks) (e.name ∷ []) (map (λ (e : Entry). e.name) es)

pub terms_push : (count : ℕ) (ns : List NamedSignals) (ks : List Known) (n : NamedSignals) (k : Known) → AreOfTerms count ns ks → IsOfTerm count n k.term → AreOfTerms count (ns ++ n ∷ []) (ks ++ k ∷ [])
terms_push count [] [] n k h g = (g, tt)
terms_push count (x ∷ ns) (y ∷ ks) n k h g = (h.0, terms_push count ns ks n k h.1 g)
terms_push count _ _ n k h g = absurd h

-- the first names, of all
pub stand_front : (count : ℕ) (front rest : List Entry) (ns : List NamedSignals) → AreOfTerms count ns (known_of front) → StandFor count (front ++ rest) ns (known_of front)
stand_front count front rest ns h =
    record {
      later = map (λ (e : Entry). e.name) rest;
      names = map-append (λ (e : Entry). e.name) front rest ∙ ap (λ xs. xs ++ map (λ (e : Entry). e.name) rest) (sym (known_names [] 0 front));
      terms = h;
    }

pub stand_all : (count : ℕ) (es : List Entry) (ns : List NamedSignals) → AreOfTerms count ns (known_of es) → StandFor count es ns (known_of es)
stand_all count es ns h = subst (λ xs. StandFor count xs ns (known_of es)) (append-nil es) (stand_front count es [] ns h)
