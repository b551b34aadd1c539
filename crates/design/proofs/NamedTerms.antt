-- A target names by its names alone the signals of its term that have no extension.
use Rattle.std.proofs.Common.{◌≡◌, ℕ, suc, ◌==◌, Bool, true, false, if◌then◌else◌, Option, None, Some, List, [], ◌∷◌, ◌++◌, map, bytes_eq, append_assoc, inl, inr, refl, sym, ap, ap₂, ◌∙◌, codes}
use Rattle.design.proofs.Common.{or_left, or_right, or_cases, map-append, list_any-append, Extension, Named, signals_of_name, signals_of_names, signals_of, signals_of_members, signals_of_member, meant, named_after, named_of, without_extension, Kind, AConstant, Entry, range_names, Tree, ASpecial, AName, ASet, AParen, SetMember, OneMember, SpanMember, Members, NoMember, MoreMembers, targets_of, all_targets, some_signals, Term, Terms, X, Pulse, Release, Read, Set, NoTerm, Before, Known, term_named, extended, extended_each, extended_if, named_before, member_before, special_term, term_of, terms_of, term_meant, known_after, known_of, some_append, extended_targets, among, bare_signals, all_bare_signals}

-- a name with the bare signals of what it represents
abbrev as_named : Known → Named
as_named k = record { name = k.name; signals = bare_signals k.term }

abbrev as_names : List Known → List Named
as_names ks = map as_named ks

-- ---- names

name_alike : (ks : List Known) (w : List ℕ) → signals_of_name (as_names ks) w ≡ bare_signals (term_named ks w)
name_alike [] w = refl
name_alike (k ∷ ks) w = by (bytes_eq w k.name) (name_alike ks w)
  where
    by : (b : Bool) → signals_of_name (as_names ks) w ≡ bare_signals (term_named ks w) → (if b then bare_signals k.term else signals_of_name (as_names ks) w) ≡ bare_signals (if b then k.term else term_named ks w)
    by true e = refl
    by false e = e

-- with an extension nothing is bare
mutual
  extended_bare : (e : Extension) (t : Term) → [] ≡ bare_signals (extended e t)
  extended_bare e (Read s None) = refl
  extended_bare e (Set ts) = each_bare e ts
  extended_bare e _ = refl

  each_bare : (e : Extension) (ts : Terms) → [] ≡ all_bare_signals (extended_each e ts)
  each_bare e NoTerm = refl
  each_bare e (Before t ts) = ap₂ (λ xs ys. xs ++ ys) (extended_bare e t) (each_bare e ts)

special_alike : (letter : ℕ) → [] ≡ bare_signals (special_term letter)
special_alike letter = by (bytes_eq (letter ∷ []) (codes "X")) (bytes_eq (letter ∷ []) (codes "C"))
  where
    by : (a b : Bool) → [] ≡ bare_signals (if a then X else if b then Pulse else Release)
    by true b = refl
    by false true = refl
    by false false = refl

-- ---- targets

module _ (ks : List Known) where
  range_alike : (names : List (List ℕ)) (ts : Terms) → signals_of_names (as_names ks) names ++ all_bare_signals ts ≡ all_bare_signals (named_before ks names ts)
  range_alike [] ts = refl
  range_alike (w ∷ names) ts =
      append_assoc (signals_of_name (as_names ks) w) (signals_of_names (as_names ks) names) (all_bare_signals ts)
      ∙ ap₂ (λ xs ys. xs ++ ys) (name_alike ks w) (range_alike names ts)

  mutual
    target_alike : (t : Tree) → signals_of (as_names ks) t ≡ bare_signals (term_of ks t)
    target_alike (ASpecial letter p) = special_alike letter
    target_alike (AName word None) = name_alike ks word.text
    target_alike (AName word (Some e)) = extended_bare e (term_named ks word.text)
    target_alike (ASet p ms None) = members_alike ms
    target_alike (ASet p ms (Some e)) = extended_bare e (Set (terms_of ks ms))
    target_alike (AParen p t) = target_alike t
    target_alike _ = refl

    members_alike : (ms : Members) → signals_of_members (as_names ks) ms ≡ all_bare_signals (terms_of ks ms)
    members_alike NoMember = refl
    members_alike (MoreMembers m ms) = ap (λ xs. signals_of_member (as_names ks) m ++ xs) (members_alike ms) ∙ member_alike m (terms_of ks ms)

    member_alike : (m : SetMember) (ts : Terms) → signals_of_member (as_names ks) m ++ all_bare_signals ts ≡ all_bare_signals (member_before ks m ts)
    member_alike (OneMember t) ts = ap (λ xs. xs ++ all_bare_signals ts) (target_alike t)
    member_alike (SpanMember first last) ts = range_alike (range_names first.text last.text) ts

  meant_alike : (s : ℕ) (kind : Kind) → meant (as_names ks) s kind ≡ bare_signals (term_meant ks s kind)
  meant_alike s (AConstant value) = target_alike value
  meant_alike s _ = refl

-- ---- all names

abbrev known_as : List Known → ℕ → Entry → Known
known_as ks s e = record { name = e.name; term = term_meant ks s e.kind }

after_alike : (ks : List Known) (s : ℕ) (es : List Entry) → named_after (as_names ks) s es ≡ as_names (known_after ks s es)
after_alike ks s [] = refl
after_alike ks s (e ∷ es) =
    ap (λ (ls : List Named). named_after ls (suc s) es)
    (ap (λ xs. as_names ks ++ record { name = e.name; signals = xs } ∷ []) (meant_alike ks s e.kind) ∙ sym (map-append as_named ks (known_as ks s e ∷ [])))
    ∙ after_alike (ks ++ known_as ks s e ∷ []) (suc s) es

pub same_signals : (es : List Entry) (t : Tree) → signals_of (named_of es) t ≡ bare_signals (term_of (known_of es) t)
same_signals es t = ap (λ ls. signals_of ls t) (after_alike [] 0 es) ∙ target_alike (known_of es) t

-- ---- the signals of a term as a target, with any extension

abbrev pub signals_in : Term → List ℕ
signals_in t = some_signals (targets_of t)

abbrev signals_in_all : Terms → List ℕ
signals_in_all ts = some_signals (all_targets ts)

-- what is among the first of two lists, or the second, stays so
pub both_among : (s : ℕ) (xs ys zs ws : List ℕ) → (among s xs ≡ true → among s zs ≡ true) → (among s ys ≡ true → among s ws ≡ true) → among s (xs ++ ys) ≡ true → among s (zs ++ ws) ≡ true
both_among s xs ys zs ws f g h =
    list_any-append (λ j. j == s) zs ws
    ∙ elim (or_cases (among s xs) (among s ys) (sym (list_any-append (λ j. j == s) xs ys) ∙ h))
    [ inl e ↦ or_left (among s zs) (among s ws) (f e) | inr e ↦ or_right (among s zs) (among s ws) (g e) ]

mutual
  pub bare_among : (s : ℕ) (t : Term) → among s (bare_signals t) ≡ true → among s (signals_in t) ≡ true
  bare_among s (Read j None) h = h
  bare_among s (Set ts) h = all_among s ts h
  bare_among s _ h = absurd cc

  all_among : (s : ℕ) (ts : Terms) → among s (all_bare_signals ts) ≡ true → among s (signals_in_all ts) ≡ true
  all_among s NoTerm h = absurd cc
  all_among s (Before t ts) h =
      ap (among s) (some_append (targets_of t) (all_targets ts))
      ∙ both_among s (bare_signals t) (all_bare_signals ts) (signals_in t) (signals_in_all ts) (bare_among s t) (all_among s ts) h

-- if these names name the signal, their terms have it
abbrev pub IsWithin : ℕ → List Named → List Known → Type 0
IsWithin s ks known = (t : Tree) → among s (signals_of ks t) ≡ true → among s (signals_in (term_of known t)) ≡ true

extended_alike : (e : Option Extension) (t : Term) → signals_in (extended_if e t) ≡ signals_in t
extended_alike None t = refl
extended_alike (Some e) t = ap some_signals (extended_targets e t)

pub without_alike : (known : List Known) (t : Tree) → signals_in (term_of known t) ≡ signals_in (term_of known (without_extension t))
without_alike known (AName word e) = extended_alike e (term_named known word.text)
without_alike known (ASet p ms e) = extended_alike e (Set (terms_of known ms))
without_alike known _ = refl

-- also if an equation's target names it
pub without_within : (s : ℕ) (ks : List Named) (known : List Known) → IsWithin s ks known → (t : Tree) → among s (signals_of ks (without_extension t)) ≡ true → among s (signals_in (term_of known t)) ≡ true
without_within s ks known within t h = ap (among s) (without_alike known t) ∙ within (without_extension t) h
