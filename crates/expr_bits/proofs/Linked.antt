-- What is found of expressions over names, and their terms.
use Rattle.expr_bits.proofs.Common.{nat_tests, Place, Binary, Extension, Unary, Entry, Kind, AConstant, ADeviceName, range_names, Tree, ANumber, ASpecial, AName, ASet, AParen, AUnary, ABinary, SetMember, OneMember, SpanMember, Members, NoMember, MoreMembers, Context, Shape, Number, Single, Set, Value, width_of, member_width, meeting, Term, Terms, Known, term_named, term_of, terms_of, member_before, named_before, term_meant, known_after, known_of, extended_if, constant_of, set_value, empty_point, plain_value, unary_value, binary_value, binary_by, is_relation, SectionFault, NameFound, found_value, found_use, refused_there, at_name, name_found, named, nothing_found, one_position, range_found, found_of, all_found, found_before, found_constant, found_kind, found_entry, found_after, names_found, expression_found, is_pulse_kind}
use Rattle.std.proofs.Common.{◌≡◌, ℕ, suc, ◌+◌, ◌≤◌, nat_lt, arith, Bool, true, false, Option, None, Some, List, [], ◌∷◌, ◌++◌, if◌then◌else◌, unwrap_or, bytes_eq, codes, refl, sym, ap, ap₂, subst}
use Rattle.abel_meaning.specs.Terms as term
use Rattle.set_expr.specs.declared.fault.SectionFault.TheVariants.{MisplacedSpecial, BadWidth}
use Rattle.set_expr.specs.Refusals.{Found, unless_refused, found_both, found_under, found_set, members_refused, members_specials, members_value, members_width, too_wide, value_of_both, value_or_none, large_member, width_with}
use Rattle.set_expr.proofs.SummedUp.{left_empty, right_empty}
use Rattle.expr_bits.proofs.Links.{SameKind, same_kind, kind_then, unary_kind, binary_kind, AllKnown, known_append, known_met, known_binary, Sound, AllSound, extended_alike}

-- what is found of a value and its X positions, and a term
abbrev pub IsLinkedIf : Context → Option Value → List SectionFault → Term → Type 0
IsLinkedIf d None xs t = Unit {0}
IsLinkedIf d (Some v) xs t = SameKind v (constant_of d t) × (xs ≡ [] → AllKnown (constant_of d t).unknown) × Sound d t × (width_of v.shape ≤ 32)

-- what isn't refused has a value, which is that of the term
pub record IsLinked (d : Context) (f : Found) (t : Term) : Type 0 where
  pub valued : f.refusals ≡ [] → f.value ≡ None → ⊥
  pub linked : IsLinkedIf d f.value f.specials t

-- ---- values that are found

abbrev pub HasKind : Option Value → Value → Type 0
HasKind None c = ⊥
HasKind (Some v) c = SameKind v c

there : (d : Context) (o : Option Value) (xs : List SectionFault) (t : Term) → (o ≡ None → ⊥) → IsLinkedIf d o xs t → HasKind o (constant_of d t) × (xs ≡ [] → AllKnown (constant_of d t).unknown) × Sound d t × (width_of (value_or_none o).shape ≤ 32)
there d None xs t h l = absurd (h refl)
there d (Some v) xs t h l = l

-- ---- what is refused says nothing

unless : (d : Context) (rs xs : List SectionFault) (v : Value) (t : Term) → (rs ≡ [] → SameKind v (constant_of d t) × (xs ≡ [] → AllKnown (constant_of d t).unknown) × Sound d t × (width_of v.shape ≤ 32)) → IsLinked d (unless_refused rs xs v) t
unless d [] xs v t h = record { valued = λ e f. absurd cc; linked = h refl }
unless d (r ∷ rs) xs v t h = record { valued = λ e f. absurd cc; linked = tt }

-- ---- operators

under_kind : (sign : Unary) (o : Option Value) (c : Value) → HasKind o c → SameKind (unary_value sign (value_or_none o)) (unary_value sign c)
under_kind sign None c h = absurd h
under_kind sign (Some v) c h = unary_kind sign v c h

linked_under : (d : Context) (sign : Unary) (f : Found) (t : Term) → IsLinked d f t → IsLinked d (found_under sign f) (term.UnaryOf sign t)
linked_under d sign f t l =
    unless d (f.refusals ++ f.specials) [] (unary_value sign (value_or_none f.value)) (term.UnaryOf sign t)
    (λ e.
    let h = there d f.value f.specials t (l.valued (left_empty f.refusals f.specials e)) l.linked in
    let known = h.1 (right_empty f.refusals f.specials e) in
    (under_kind sign f.value (constant_of d t) h.0, λ x. known, known, h.3))

both_kind : (sign : Binary) (o p : Option Value) (c e : Value) → HasKind o c → HasKind p e → SameKind (value_of_both sign o p) (binary_value sign c e)
both_kind sign None p c e h k = absurd h
both_kind sign (Some v) None c e h k = absurd k
both_kind sign (Some v) (Some u) c e h k = binary_kind sign v c u e h k

meet_narrow : (s t : Shape) → width_of s ≤ 32 → width_of t ≤ 32 → width_of (meeting s t) ≤ 32
meet_narrow Number t a b = b
meet_narrow Single (Set w) a b = b
meet_narrow _ _ a b = a

narrow_by : (relation : Bool) (sign : Binary) (v u : Value) → width_of v.shape ≤ 32 → width_of u.shape ≤ 32 → width_of (binary_by relation sign v u).shape ≤ 32
narrow_by true sign v u a b = omega arith
narrow_by false sign v u a b = meet_narrow v.shape u.shape a b

both_narrow : (sign : Binary) (o p : Option Value) → width_of (value_or_none o).shape ≤ 32 → width_of (value_or_none p).shape ≤ 32 → width_of (value_of_both sign o p).shape ≤ 32
both_narrow sign None p a b = a
both_narrow sign (Some v) None a b = b
both_narrow sign (Some v) (Some u) a b = narrow_by (is_relation sign) sign v u a b

linked_both : (d : Context) (sign : Binary) (p : Place) (f g : Found) (t u : Term) → IsLinked d f t → IsLinked d g u → IsLinked d (found_both sign p f g) (term.BinaryOf sign t u)
linked_both d sign p f g t u l m =
    unless d _ [] (value_of_both sign f.value g.value) (term.BinaryOf sign t u)
    (λ e.
    let both = left_empty (f.refusals ++ g.refusals) _ e in
    let h = there d f.value f.specials t (l.valued (left_empty f.refusals g.refusals both)) l.linked in
    let k = there d g.value g.specials u (m.valued (right_empty f.refusals g.refusals both)) m.linked in
    (both_kind sign f.value g.value (constant_of d t) (constant_of d u) h.0 k.0, λ x. known_binary sign (constant_of d t) (constant_of d u), tt, both_narrow sign f.value g.value h.3 k.3))

-- ---- sets

abbrev pub AreLinked : Context → List Found → Terms → Type 0
AreLinked d [] term.NoTerm = Unit {0}
AreLinked d (f ∷ fs) (term.Before t ts) = IsLinked d f t × AreLinked d fs ts
AreLinked d _ _ = ⊥

record SetLinked (d : Context) (fs : List Found) (ts : Terms) : Type 0 where
  shape : (set_value d empty_point ts).shape ≡ (members_value fs).shape
  known : members_specials fs ≡ [] → AllKnown (set_value d empty_point ts).unknown
  sound : AllSound d ts
  width : (members_value fs).shape ≡ Set (members_width fs)

first_shape : (o : Option Value) (c r s : Value) → HasKind o c → s.shape ≡ r.shape → Set (member_width c.shape + width_of s.shape) ≡ Set (member_width (value_or_none o).shape + width_of r.shape)
first_shape None c r s h e = absurd h
first_shape (Some v) c r s h e = ap₂ (λ x y. Set (member_width x + width_of y)) h.shape e

first_width : (o : Option Value) (c r : Value) (w : ℕ) → HasKind o c → r.shape ≡ Set w → Set (member_width (value_or_none o).shape + width_of r.shape) ≡ Set (width_with o + w)
first_width None c r w h e = absurd h
first_width (Some v) c r w h e = ap (λ s. Set (member_width v.shape + width_of s)) e

linked_members : (d : Context) (p : Place) (fs : List Found) (ts : Terms) → AreLinked d fs ts → members_refused p fs ≡ [] → SetLinked d fs ts
linked_members d p [] term.NoTerm l e = record { shape = refl; known = λ x. tt; sound = tt; width = refl }
linked_members d p (f ∷ fs) (term.Before t ts) l e =
    let own = left_empty f.refusals (large_member p f.value) (left_empty (f.refusals ++ large_member p f.value) (members_refused p fs) e) in
    let h = there d f.value f.specials t (l.0.valued own) l.0.linked in
    let rest = linked_members d p fs ts l.1 (right_empty (f.refusals ++ large_member p f.value) (members_refused p fs) e) in
    record {
      shape = first_shape f.value (constant_of d t) (members_value fs) (set_value d empty_point ts) h.0 rest.shape;
      known = λ x.
          known_append (set_value d empty_point ts).unknown _ (rest.known (right_empty f.specials (members_specials fs) x))
          (known_met (member_width (constant_of d t).shape) (constant_of d t).shape (constant_of d t).unknown (h.1 (left_empty f.specials (members_specials fs) x)));
      sound = (h.2, rest.sound);
      width = first_width f.value (constant_of d t) (members_value fs) (members_width fs) h.0 rest.width;
    }
linked_members d p _ _ l e = absurd l

set_number : (d : Context) (fs : List Found) (ts : Terms) → (set_value d empty_point ts).shape ≡ (members_value fs).shape → SameKind (members_value fs) (set_value d empty_point ts)
set_number d [] ts e = record { shape = e; number = λ n. absurd cc }
set_number d (f ∷ fs) ts e = record { shape = e; number = λ n. absurd cc }

narrow_from : (p : Place) (w : ℕ) → too_wide p w ≡ [] → w ≤ 32
narrow_from p w e = by (nat_lt 32 w) refl e
  where
    by : (b : Bool) → nat_lt 32 w ≡ b → (if b then BadWidth p ∷ [] else []) ≡ [] → w ≤ 32
    by true h f = absurd cc
    by false h f = grind (arith, nat_tests, h)

linked_set : (d : Context) (p : Place) (fs : List Found) (ts : Terms) → AreLinked d fs ts → IsLinked d (found_set p fs) (term.Set ts)
linked_set d p fs ts l =
    unless d _ (members_specials fs) (members_value fs) (term.Set ts)
    (λ e.
    let s = linked_members d p fs ts l (left_empty (members_refused p fs) (too_wide p (members_width fs)) e) in
    (set_number d fs ts s.shape, s.known, s.sound, subst (λ k. width_of k ≤ 32) (sym s.width) (narrow_from p (members_width fs) (right_empty (members_refused p fs) (too_wide p (members_width fs)) e))))

-- ---- an extension

linked_extended : (d : Context) (e : Extension) (o : Option Value) (xs : List SectionFault) (t : Term) → IsLinkedIf d o xs t → IsLinkedIf d o xs (term.extended e t)
linked_extended d e None xs t l = tt
linked_extended d e (Some v) xs t l = (
  kind_then v (constant_of d t) (constant_of d (term.extended e t)) l.0 (extended_alike d e t).kind,
  λ x. subst AllKnown (sym (extended_alike d e t).unknown) (l.1 x),
  (extended_alike d e t).sound l.2,
  l.3,
)

linked_if : (d : Context) (e : Option Extension) (f : Found) (t : Term) → IsLinked d f t → IsLinked d f (extended_if e t)
linked_if d None f t l = l
linked_if d (Some e) f t l = record { valued = l.valued; linked = linked_extended d e f.value f.specials t l.linked }

-- ---- names

-- what is found of a name, if it may be used, and its term
abbrev IsFoundTerm : Context → NameFound → Term → Type 0
IsFoundTerm d n t = n.is_pulse ≡ false → IsLinked d n.found t

pub record NameLinked (d : Context) (n : NameFound) (k : Known) : Type 0 where
  pub name : n.name ≡ k.name
  pub found : n.is_pulse ≡ false → IsLinked d n.found k.term

abbrev pub NamesLinked : Context → List NameFound → List Known → Type 0
NamesLinked d [] [] = Unit {0}
NamesLinked d (n ∷ ns) (k ∷ ks) = NameLinked d n k × NamesLinked d ns ks
NamesLinked d _ _ = ⊥

linked_value : (d : Context) (v : Value) (t : Term) → SameKind v (constant_of d t) → AllKnown (constant_of d t).unknown → Sound d t → width_of v.shape ≤ 32 → IsLinked d (found_value v) t
linked_value d v t k a s n = record { valued = λ e f. absurd cc; linked = (k, λ x. a, s, n) }

number_linked : (d : Context) (n : ℕ) → IsLinked d (found_value (plain_value n)) (term.Number n)
number_linked d n = linked_value d (plain_value n) (term.Number n) (same_kind (plain_value n)) tt tt (omega arith)

looked : (d : Context) (ns : List NameFound) (ks : List Known) (w : List ℕ) → NamesLinked d ns ks → IsFoundTerm d (name_found ns w) (term_named ks w)
looked d [] [] w l = λ e. number_linked d 0
looked d (n ∷ ns) (k ∷ ks) w l = here (bytes_eq w n.name) (bytes_eq w k.name) (ap (bytes_eq w) l.0.name) (looked d ns ks w l.1)
  where
    here : (b c : Bool) → b ≡ c → IsFoundTerm d (name_found ns w) (term_named ks w) → IsFoundTerm d (unwrap_or (if b then Some n else named ns w) nothing_found) (if c then k.term else term_named ks w)
    here true true e more = l.0.found
    here false false e more = more
    here true false e more = absurd cc
    here false true e more = absurd cc
looked d _ _ w l = absurd l

at_none : (p : Place) (xs : List SectionFault) → at_name p xs ≡ [] → xs ≡ []
at_none p [] e = refl
at_none p (x ∷ xs) e = absurd cc

used_if : (d : Context) (p : Place) (o : Option Value) (xs : List SectionFault) (t : Term) → IsLinkedIf d o xs t → IsLinkedIf d o (at_name p xs) t
used_if d p None xs t l = tt
used_if d p (Some v) xs t l = (l.0, λ e. l.1 (at_none p xs e), l.2, l.3)

used : (d : Context) (p : Place) (n : NameFound) (t : Term) → IsFoundTerm d n t → IsLinked d (found_use p n) t
used d p n t l = by n.is_pulse refl
  where
    by : (b : Bool) → n.is_pulse ≡ b → IsLinked d (if b then refused_there (MisplacedSpecial p) else record n.found { specials = at_name p n.found.specials }) t
    by true e = record { valued = λ e f. absurd cc; linked = tt }
    by false e = let h = l e in record { valued = h.valued; linked = used_if d p n.found.value n.found.specials t h.linked }

-- ---- specials

special_linked : (d : Context) (p : Place) (b c : Bool) → IsLinked d (if b then record { refusals = []; specials = MisplacedSpecial p ∷ []; value = Some (one_position true) } else refused_there (MisplacedSpecial p)) (if b then term.X else if c then term.Pulse else term.Release)
special_linked d p true c = record { valued = λ e f. absurd cc; linked = (same_kind _, λ e. absurd cc, tt, omega arith) }
special_linked d p false c = record { valued = λ e f. absurd cc; linked = tt }

-- ---- expressions

ranged : (d : Context) (ns : List NameFound) (ks : List Known) (p : Place) (names : List (List ℕ)) (fs : List Found) (ts : Terms) → NamesLinked d ns ks → AreLinked d fs ts → AreLinked d (range_found ns p names fs) (named_before ks names ts)
ranged d ns ks p [] fs ts l m = m
ranged d ns ks p (w ∷ names) fs ts l m = (used d p (name_found ns w) (term_named ks w) (looked d ns ks w l), ranged d ns ks p names fs ts l m)

mutual
  pub tree_linked : (d : Context) (ns : List NameFound) (ks : List Known) → NamesLinked d ns ks → (t : Tree) → IsLinked d (found_of ns t) (term_of ks t)
  tree_linked d ns ks l (ANumber n) = number_linked d n.value
  tree_linked d ns ks l (ASpecial letter p) = special_linked d p (bytes_eq (letter ∷ []) (codes "X")) (bytes_eq (letter ∷ []) (codes "C"))
  tree_linked d ns ks l (AName word e) = linked_if d e _ (term_named ks word.text) (used d word.place (name_found ns word.text) (term_named ks word.text) (looked d ns ks word.text l))
  tree_linked d ns ks l (ASet p ms e) = linked_if d e _ (term.Set (terms_of ks ms)) (linked_set d p (all_found ns ms) (terms_of ks ms) (members_linked d ns ks l ms))
  tree_linked d ns ks l (AParen p t) = tree_linked d ns ks l t
  tree_linked d ns ks l (AUnary sign p t) = linked_under d sign (found_of ns t) (term_of ks t) (tree_linked d ns ks l t)
  tree_linked d ns ks l (ABinary sign p t u) = linked_both d sign p (found_of ns t) (found_of ns u) (term_of ks t) (term_of ks u) (tree_linked d ns ks l t) (tree_linked d ns ks l u)

  members_linked : (d : Context) (ns : List NameFound) (ks : List Known) → NamesLinked d ns ks → (ms : Members) → AreLinked d (all_found ns ms) (terms_of ks ms)
  members_linked d ns ks l NoMember = tt
  members_linked d ns ks l (MoreMembers m ms) = member_linked d ns ks l m (all_found ns ms) (terms_of ks ms) (members_linked d ns ks l ms)

  member_linked : (d : Context) (ns : List NameFound) (ks : List Known) → NamesLinked d ns ks → (m : SetMember) (fs : List Found) (ts : Terms) → AreLinked d fs ts → AreLinked d (found_before ns m fs) (member_before ks m ts)
  member_linked d ns ks l (OneMember t) fs ts a = (tree_linked d ns ks l t, a)
  member_linked d ns ks l (SpanMember first last) fs ts a = ranged d ns ks first.place (range_names first.text last.text) fs ts l a

-- ---- constants

signal_linked : (d : Context) (s : ℕ) → IsLinked d (found_value (one_position false)) (term.Read s None)
signal_linked d s = linked_value d (one_position false) (term.Read s None) (record { shape = refl; number = λ e. absurd cc }) (refl, tt) tt (omega arith)

kind_linked : (d : Context) (ns : List NameFound) (ks : List Known) (s : ℕ) → NamesLinked d ns ks → (k : Kind) → is_pulse_kind k ≡ false → IsLinked d (found_kind ns k) (term_meant ks s k)
kind_linked d ns ks s l (AConstant t) e = subst (λ b. IsLinked d (found_constant b (found_of ns t)) (term_of ks t)) (sym e) (tree_linked d ns ks l t)
kind_linked d ns ks s l ADeviceName e = number_linked d 0
kind_linked d ns ks s l _ e = signal_linked d s

one_more : (d : Context) (ns : List NameFound) (ks : List Known) (n : NameFound) (k : Known) → NamesLinked d ns ks → NameLinked d n k → NamesLinked d (ns ++ n ∷ []) (ks ++ k ∷ [])
one_more d [] [] n k l h = (h, tt)
one_more d (x ∷ ns) (y ∷ ks) n k l h = (l.0, one_more d ns ks n k l.1 h)
one_more d _ _ n k l h = absurd l

after_linked : (d : Context) (ns : List NameFound) (ks : List Known) (s : ℕ) (es : List Entry) → NamesLinked d ns ks → NamesLinked d (found_after ns es) (known_after ks s es)
after_linked d ns ks s [] l = l
after_linked d ns ks s (e ∷ es) l =
    after_linked d (ns ++ found_entry ns e ∷ []) (ks ++ record { name = e.name; term = term_meant ks s e.kind } ∷ []) (suc s) es
    (one_more d ns ks (found_entry ns e) (record { name = e.name; term = term_meant ks s e.kind }) l
    (record { name = refl; found = kind_linked d ns ks s l e.kind }))

names_linked : (d : Context) (es : List Entry) → NamesLinked d (names_found es) (known_of es)
names_linked d es = after_linked d [] [] 0 es tt

pub expression_linked : (d : Context) (es : List Entry) (t : Tree) → IsLinked d (expression_found es t) (term_of (known_of es) t)
expression_linked d es t = tree_linked d (names_found es) (known_of es) (names_linked d es) t
