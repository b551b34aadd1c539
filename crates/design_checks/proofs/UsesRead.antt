-- The uses of an expression, each at its place, are what its term reads.
use Rattle.std.proofs.Common.{◌≡◌, ℕ, Bool, true, false, List, [], ◌∷◌, ◌++◌, map, Option, Some, None, refl, sym, ap, ap₂, ◌∙◌, append_assoc, append-nil, if◌then◌else◌, bytes_eq, codes}
use Rattle.design_checks.proofs.Common.{flat_map, flat_map-append, map-append, Place, Extension, range_names, Tree, ANumber, ASpecial, AName, ASet, AParen, AUnary, ABinary, SetMember, OneMember, SpanMember, Members, NoMember, MoreMembers, Term, Terms, X, Pulse, Release, Read, Set, UnaryOf, BinaryOf, NoTerm, Before, Known, term_named, term_of, terms_of, member_before, named_before, extended, extended_each, extended_if, special_term, SignalUse, term_uses, all_term_uses, UsesAreRead, PlacedUse, all_at, names_read, reads_used, uses_used}
use Rattle.abel_tree.specs.Extensions.{innermost}
use Rattle.name_uses.specs.NamesUsed.{UsedName, member_used, members_used, names_used}

-- ---- extensions

-- what is asked of a signal that is in a set with this extension
abbrev pub under : Option Extension → SignalUse → SignalUse
under o u = record { signal = u.signal; extension = innermost u.extension o }

abbrev all_under : Option Extension → List SignalUse → List SignalUse
all_under o us = map (under o) us

under_none : (us : List SignalUse) → all_under None us ≡ us
under_none [] = refl
under_none (u ∷ us) = ap₂ (λ e vs. record { signal = u.signal; extension = e } ∷ vs) (own u.extension) (under_none us)
  where
    own : (e : Option Extension) → innermost e None ≡ e
    own None = refl
    own (Some e) = refl

-- of two extensions the inner one counts
inner_first : (e i o : Option Extension) → innermost e (innermost i o) ≡ innermost (innermost e i) o
inner_first None i o = refl
inner_first (Some e) i o = refl

under_both : (i o : Option Extension) (us : List SignalUse) → all_under o (all_under i us) ≡ all_under (innermost i o) us
under_both i o [] = refl
under_both i o (u ∷ us) = ap₂ (λ e vs. record { signal = u.signal; extension = e } ∷ vs) (sym (inner_first u.extension i o)) (under_both i o us)

mutual
  uses_under : (e : Extension) (t : Term) → term_uses (extended e t) ≡ all_under (Some e) (term_uses t)
  uses_under e (Read s None) = refl
  uses_under e (Read s (Some f)) = refl
  uses_under e (Set ts) = each_under e ts
  uses_under e (UnaryOf sign t) = uses_under e t
  uses_under e (BinaryOf sign t u) = ap₂ (λ us vs. us ++ vs) (uses_under e t) (uses_under e u) ∙ sym (map-append (under (Some e)) (term_uses t) (term_uses u))
  uses_under e _ = refl

  each_under : (e : Extension) (ts : Terms) → all_term_uses (extended_each e ts) ≡ all_under (Some e) (all_term_uses ts)
  each_under e NoTerm = refl
  each_under e (Before t ts) = ap₂ (λ us vs. us ++ vs) (uses_under e t) (each_under e ts) ∙ sym (map-append (under (Some e)) (term_uses t) (all_term_uses ts))

pub extended_uses : (o : Option Extension) (t : Term) → term_uses (extended_if o t) ≡ all_under o (term_uses t)
extended_uses None t = sym (under_none (term_uses t))
extended_uses (Some e) t = uses_under e t

-- in a set with an extension, of which there may be one more around it
nested_uses : (e i o : Option Extension) (t : Term) → all_under (innermost i o) (term_uses (extended_if e t)) ≡ all_under (innermost (innermost e i) o) (term_uses t)
nested_uses e i o t =
    ap (all_under (innermost i o)) (extended_uses e t)
    ∙ under_both e (innermost i o) (term_uses t)
    ∙ ap (λ f. all_under f (term_uses t)) (inner_first e i o)

-- ---- expressions

module _ (known : List Known) where
  -- .X., .C. and .Z. read nothing
  special_reads : (letter : ℕ) → term_uses (special_term letter) ≡ []
  special_reads letter = by (bytes_eq (letter ∷ []) (codes "X")) (bytes_eq (letter ∷ []) (codes "C"))
    where
      by : (x c : Bool) → term_uses (if x then X else if c then Pulse else Release) ≡ []
      by true c = refl
      by false true = refl
      by false false = refl

  named_read : (o : Option Extension) (names : List (List ℕ)) (ts : Terms) → names_read known o names ++ all_under o (all_term_uses ts) ≡ all_under o (all_term_uses (named_before known names ts))
  named_read o [] ts = refl
  named_read o (n ∷ names) ts =
      let t = term_named known n in
      append_assoc (term_uses (extended_if o t)) (names_read known o names) (all_under o (all_term_uses ts))
      ∙ ap₂ (λ us vs. us ++ vs) (extended_uses o t) (named_read o names ts)
      ∙ sym (map-append (under o) (term_uses t) (all_term_uses (named_before known names ts)))

  mutual
    reads : (i o : Option Extension) (t : Tree) → flat_map (reads_used known o) (names_used i t) ≡ all_under (innermost i o) (term_uses (term_of known t))
    reads i o (ANumber n) = refl
    reads i o (ASpecial letter p) = sym (ap (all_under (innermost i o)) (special_reads letter))
    reads i o (AName word e) =
        let t = term_named known word.text in
        let own = innermost (innermost e i) o in
        append-nil (names_read known own (word.text ∷ []))
        ∙ append-nil (term_uses (extended_if own t))
        ∙ extended_uses own t
        ∙ sym (nested_uses e i o t)
    reads i o (ASet p ms e) = members_read (innermost e i) o ms ∙ sym (nested_uses e i o (Set (terms_of known ms)))
    reads i o (AParen p t) = reads i o t
    reads i o (AUnary sign p t) = reads i o t
    reads i o (ABinary sign p t u) =
        flat_map-append (reads_used known o) (names_used i t) (names_used i u)
        ∙ ap₂ (λ us vs. us ++ vs) (reads i o t) (reads i o u)
        ∙ sym (map-append (under (innermost i o)) (term_uses (term_of known t)) (term_uses (term_of known u)))

    members_read : (i o : Option Extension) (ms : Members) → flat_map (reads_used known o) (members_used i ms) ≡ all_under (innermost i o) (all_term_uses (terms_of known ms))
    members_read i o NoMember = refl
    members_read i o (MoreMembers m ms) =
        flat_map-append (reads_used known o) (member_used i m) (members_used i ms)
        ∙ ap (λ us. flat_map (reads_used known o) (member_used i m) ++ us) (members_read i o ms)
        ∙ member_read i o m (terms_of known ms)

    member_read : (i o : Option Extension) (m : SetMember) (ts : Terms)
        → flat_map (reads_used known o) (member_used i m) ++ all_under (innermost i o) (all_term_uses ts) ≡ all_under (innermost i o) (all_term_uses (member_before known m ts))
    member_read i o (OneMember t) ts =
        ap (λ us. us ++ all_under (innermost i o) (all_term_uses ts)) (reads i o t)
        ∙ sym (map-append (under (innermost i o)) (term_uses (term_of known t)) (all_term_uses ts))
    member_read i o (SpanMember first last) ts =
        let names = range_names first.text last.text in
        ap (λ us. us ++ all_under (innermost i o) (all_term_uses ts)) (append-nil (names_read known (innermost i o) names)) ∙ named_read (innermost i o) names ts

  -- what an expression reads with an extension
  pub names_are_read : (o : Option Extension) (t : Tree) → flat_map (reads_used known o) (names_used None t) ≡ term_uses (extended_if o (term_of known t))
  names_are_read o t = reads None o t ∙ sym (extended_uses o (term_of known t))

  plain_at : (p : Place) (us : List SignalUse) → map (λ (u : PlacedUse). u.read) (all_at p us) ≡ us
  plain_at p [] = refl
  plain_at p (u ∷ us) = ap (λ vs. u ∷ vs) (plain_at p us)

  plain_used : (us : List UsedName) → map (λ (u : PlacedUse). u.read) (flat_map (uses_used known) us) ≡ flat_map (reads_used known None) us
  plain_used [] = refl
  plain_used (u ∷ us) =
      map-append (λ (v : PlacedUse). v.read) (uses_used known u) (flat_map (uses_used known) us)
      ∙ ap₂ (λ vs ws. vs ++ ws) (plain_at u.first.place (reads_used known None u)) (plain_used us)

pub uses_read : UsesAreRead
uses_read d t = plain_used d.known (names_used None t) ∙ names_are_read d.known None t
