-- An inner extension wins over an outer one; an extension of a set is that of each member.
use Rattle.std.proofs.Common.{◌≡◌, ℕ, Option, None, Some, List, [], ◌∷◌, ◌++◌, refl, sym, ap, ap₂, ◌∙◌, append_assoc}
use Rattle.expr_bits.proofs.Common.{Binary, Extension, Unary, innermost, SetMember, OneMember, SpanMember, members_of, range_names, Term, Terms, NoTerm, Before, Known, extended, extended_each, extended_if, term_named, terms_of, member_before, named_before, list_of, each_extended}
use Rattle.abel_meaning.specs.Terms as term

mutual
  twice : (e f : Extension) (t : Term) → extended e t ≡ extended f (extended e t)
  twice e f (term.Read s (Some g)) = refl
  twice e f (term.Set ts) = ap term.Set (twice_each e f ts)
  twice e f (term.UnaryOf sign t) = ap (term.UnaryOf sign) (twice e f t)
  twice e f (term.BinaryOf sign t u) = ap₂ (term.BinaryOf sign) (twice e f t) (twice e f u)
  twice e f _ = refl

  twice_each : (e f : Extension) (ts : Terms) → extended_each e ts ≡ extended_each f (extended_each e ts)
  twice_each e f NoTerm = refl
  twice_each e f (Before t ts) = ap₂ Before (twice e f t) (twice_each e f ts)

pub inner_wins : (e : Extension) (o : Option Extension) (t : Term) → extended_if (Some e) t ≡ extended_if o (extended_if (Some e) t)
inner_wins e None t = refl
inner_wins e (Some f) t = twice e f t

pub innermost_wins : (own outer : Option Extension) (t : Term) → extended_if (innermost own outer) t ≡ extended_if outer (extended_if own t)
innermost_wins None outer t = refl
innermost_wins (Some e) outer t = inner_wins e outer t

-- ---- operators

pub under_extended : (e : Option Extension) (sign : Unary) (t : Term) → term.UnaryOf sign (extended_if e t) ≡ extended_if e (term.UnaryOf sign t)
under_extended None sign t = refl
under_extended (Some e) sign t = refl

pub both_extended : (e : Option Extension) (sign : Binary) (t u : Term) → term.BinaryOf sign (extended_if e t) (extended_if e u) ≡ extended_if e (term.BinaryOf sign t u)
both_extended None sign t u = refl
both_extended (Some e) sign t u = refl

-- ---- sets

-- an extension, if there is one, at each term of a set
abbrev pub all_extended : Option Extension → Terms → Terms
all_extended None ts = ts
all_extended (Some e) ts = extended_each e ts

pub set_extended : (e : Option Extension) (ts : Terms) → extended_if e (term.Set ts) ≡ term.Set (all_extended e ts)
set_extended None ts = refl
set_extended (Some e) ts = refl

pub first_extended : (e : Option Extension) (t : Term) (ts : Terms) → Before (extended_if e t) (all_extended e ts) ≡ all_extended e (Before t ts)
first_extended None t ts = refl
first_extended (Some e) t ts = refl

each_none : (ts : List Term) → each_extended None ts ≡ ts
each_none [] = refl
each_none (t ∷ ts) = ap (λ us. t ∷ us) (each_none ts)

pub list_extended : (e : Option Extension) (ts : Terms) → list_of (all_extended e ts) ≡ each_extended e (list_of ts)
list_extended None ts = sym (each_none (list_of ts))
list_extended (Some e) NoTerm = refl
list_extended (Some e) (Before t ts) = ap (λ us. extended e t ∷ us) (list_extended (Some e) ts)

pub each_append : (e : Option Extension) (ts us : List Term) → each_extended e (ts ++ us) ≡ each_extended e ts ++ each_extended e us
each_append e [] us = refl
each_append e (t ∷ ts) us = ap (λ vs. extended_if e t ∷ vs) (each_append e ts us)

-- ---- members, one more at a time

range_before : (ks : List Known) (names : List (List ℕ)) (ts : Terms) → list_of (named_before ks names ts) ≡ list_of (named_before ks names NoTerm) ++ list_of ts
range_before ks [] ts = refl
range_before ks (n ∷ names) ts = ap (λ us. term_named ks n ∷ us) (range_before ks names ts)

member_first : (ks : List Known) (m : SetMember) (ts : Terms) → list_of (member_before ks m ts) ≡ list_of (member_before ks m NoTerm) ++ list_of ts
member_first ks (OneMember t) ts = refl
member_first ks (SpanMember first last) ts = range_before ks (range_names first.text last.text) ts

append_later : (xs ys zs us vs : List Term) → us ≡ xs ++ vs → vs ≡ ys ++ zs → us ≡ (xs ++ ys) ++ zs
append_later xs ys zs us vs e f = e ∙ ap (λ ws. xs ++ ws) f ∙ sym (append_assoc xs ys zs)

pub members_more : (ks : List Known) (ms : List SetMember) (m : SetMember) → list_of (terms_of ks (members_of (ms ++ m ∷ []))) ≡ list_of (terms_of ks (members_of ms)) ++ list_of (member_before ks m NoTerm)
members_more ks [] m = refl
members_more ks (x ∷ ms) m =
    append_later (list_of (member_before ks x NoTerm)) (list_of (terms_of ks (members_of ms))) (list_of (member_before ks m NoTerm)) _ _
    (member_first ks x (terms_of ks (members_of (ms ++ m ∷ [])))) (members_more ks ms m)
    ∙ ap (λ us. us ++ list_of (member_before ks m NoTerm)) (sym (member_first ks x (terms_of ks (members_of ms))))

pub range_more : (ks : List Known) (names : List (List ℕ)) (n : List ℕ) → list_of (named_before ks (names ++ n ∷ []) NoTerm) ≡ list_of (named_before ks names NoTerm) ++ term_named ks n ∷ []
range_more ks [] n = refl
range_more ks (x ∷ names) n = ap (λ us. term_named ks x ∷ us) (range_more ks names n)
