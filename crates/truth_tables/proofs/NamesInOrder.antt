-- What names represent if each constant names earlier names alone: the term of its expression over all names, by fewer
-- steps than its own name takes.
use Rattle.std.proofs.Common.{◌≡◌, ℕ, zero, suc, ◌+◌, ◌≤◌, Bool, true, false, ◌&&◌, Option, None, Some, List, [], ◌∷◌, if◌then◌else◌, take, get_or, slice_get, cond, bytes_eq, refl, sym, ap, ap₂, ◌∙◌, subst, arith, ◌*◌, ◌<◌, length, mul-le-mul_left}
use Rattle.truth_tables.proofs.Common.{list_all, position_from, list_all-append, slice_get-get_or, take-length, Names, Entry, Kind, AConstant, find, kind_of, passes, is_value, names_any, entries_of, range_names, Tree, AName, ASet, AParen, AUnary, ABinary, OneMember, SpanMember, Members, NoMember, MoreMembers, Terms, Number, Before, UnaryOf, BinaryOf, Set, extended_if, term_named, named_before, term_of, terms_of, term_meant, known_of, up_to, names_left, signs_left, kind_signs, all_signs, steps_left, steps_up_to, LeadsBack, IsOfKind, position_from-zero, position-Some, SoundNames, IsSoundKind, is_named, are_named, uses, member_uses, NamesEarlier, AreInOrder, Stand}
use Rattle.pld_base.specs.declared.device_name.DeviceName.{DeviceName}
use Rattle.expr_bits.specs.Stacks.{here_term}
use Rattle.expr_bits.proofs.NamesBefore.{named_none, here_is, whole_is}
use Rattle.truth_tables.specs.declared.part.Stand.TheVariants as stand

pub left_true : (a b : Bool) → (a && b) ≡ true → a ≡ true
left_true true b e = refl
left_true false b e = absurd cc

pub right_true : (a b : Bool) → (a && b) ≡ true → b ≡ true
right_true true b e = e
right_true false b e = absurd cc

-- ---- names among the first

found_from : (i k : ℕ) (es : List Entry) (w : List ℕ) → names_any is_value (take k es) w ≡ true → up_to (position_from (λ (e : Entry). bytes_eq w e.name) i es) ≤ i + k
found_from i (suc k) (x ∷ es) w h = by_test (bytes_eq w x.name) h (found_from (i + 1) k es w)
  where
    by_test : (b : Bool) → passes is_value (if b then Some x.kind else kind_of (take k es) w) ≡ true
        → (names_any is_value (take k es) w ≡ true → up_to (position_from (λ (e : Entry). bytes_eq w e.name) (i + 1) es) ≤ i + 1 + k)
        → up_to (cond b (Some i) (position_from (λ (e : Entry). bytes_eq w e.name) (i + 1) es)) ≤ i + suc k
    by_test true h f = omega arith
    by_test false h f = omega (arith, f h)
found_from i _ _ w h = absurd cc

-- a name among the first k is below place k
pub found_early : (es : List Entry) (k : ℕ) (w : List ℕ) → names_any is_value (take k es) w ≡ true → up_to (find es w) ≤ k
found_early es k w h =
    subst (λ o. up_to o ≤ k) (sym (position_from-zero (λ (e : Entry). bytes_eq w e.name) es)) (omega (arith, found_from 0 k es w h))

pub unnamed : (es : List Entry) (w : List ℕ) → find es w ≡ None → term_named (known_of es) w ≡ Number 0
unnamed es w h = ap (λ xs. term_named (known_of xs) w) (sym (take-length es)) ∙ named_none _ es w h

-- names that represent the same among the first as among all
module _ (es : List Entry) (k : ℕ) where
  kept : (w : List ℕ) → names_any is_value (take k es) w ≡ true → term_named (known_of es) w ≡ term_named (known_of (take k es)) w
  kept w h = by (find es w) refl (found_early es k w h)
    where
      by : (o : Option ℕ) → find es w ≡ o → up_to o ≤ k → term_named (known_of es) w ≡ term_named (known_of (take k es)) w
      by None e l = unnamed es w e ∙ sym (named_none k es w e)
      by (Some j) e l = whole_is j es w e ∙ sym (here_is k j es w e (omega arith))

  named_kept : (names : List (List ℕ)) (ts us : Terms) → list_all (names_any is_value (take k es)) names ≡ true → ts ≡ us → named_before (known_of es) names ts ≡ named_before (known_of (take k es)) names us
  named_kept [] ts us h e = e
  named_kept (n ∷ names) ts us h e =
      ap₂ Before (kept n (left_true (names_any is_value (take k es) n) (list_all (names_any is_value (take k es)) names) h))
      (named_kept names ts us (right_true (names_any is_value (take k es) n) (list_all (names_any is_value (take k es)) names) h) e)

  mutual
    term_kept : (t : Tree) → are_named (take k es) (uses t) ≡ true → term_of (known_of es) t ≡ term_of (known_of (take k es)) t
    term_kept (AName word e) h =
        ap (extended_if e) (kept word.text (left_true (names_any is_value (take k es) word.text) true (left_true (names_any is_value (take k es) word.text && true) true h)))
    term_kept (ASet p ms e) h = ap (λ ts. extended_if e (Set ts)) (members_kept ms h)
    term_kept (AParen p t) h = term_kept t h
    term_kept (AUnary sign p t) h = ap (UnaryOf sign) (term_kept t h)
    term_kept (ABinary sign p t u) h =
        let both = sym (list_all-append (is_named (take k es)) (uses t) (uses u)) ∙ h in
        ap₂ (BinaryOf sign) (term_kept t (left_true (are_named (take k es) (uses t)) (are_named (take k es) (uses u)) both)) (term_kept u (right_true (are_named (take k es) (uses t)) (are_named (take k es) (uses u)) both))
    term_kept _ h = refl

    members_kept : (ms : Members) → are_named (take k es) (member_uses ms) ≡ true → terms_of (known_of es) ms ≡ terms_of (known_of (take k es)) ms
    members_kept NoMember h = refl
    members_kept (MoreMembers (OneMember t) ms) h =
        let both = sym (list_all-append (is_named (take k es)) (uses t) (member_uses ms)) ∙ h in
        ap₂ Before (term_kept t (left_true (are_named (take k es) (uses t)) (are_named (take k es) (member_uses ms)) both)) (members_kept ms (right_true (are_named (take k es) (uses t)) (are_named (take k es) (member_uses ms)) both))
    members_kept (MoreMembers (SpanMember first last) ms) h =
        let names = range_names first.text last.text in
        let one = left_true (list_all (names_any is_value (take k es)) names) (are_named (take k es) (member_uses ms)) h in
        named_kept names (terms_of (known_of es) ms) (terms_of (known_of (take k es)) ms) one (members_kept ms (right_true (list_all (names_any is_value (take k es)) names) (are_named (take k es) (member_uses ms)) h))

  meant_kept : (s : ℕ) (kind : Kind) → NamesEarlier (take k es) kind → term_meant (known_of (take k es)) s kind ≡ term_meant (known_of es) s kind
  meant_kept s (AConstant value) h = sym (term_kept value h)
  meant_kept s _ h = refl

-- what a declared name represents
pub named_meant : (es : List Entry) (w : List ℕ) (k : ℕ) (d : Entry) → AreInOrder es → find es w ≡ Some k → term_named (known_of es) w ≡ term_meant (known_of es) k (get_or es k d).kind
named_meant es w k d o h =
    let p = position-Some (λ (e : Entry). bytes_eq w e.name) es k d h in
    let s : slice_get es k ≡ Some (get_or es k d) = slice_get-get_or es k d p.0 in
    whole_is k es w h ∙ ap (here_term es k) s ∙ meant_kept es k k (get_or es k d).kind (o k (get_or es k d) s)

-- ---- sound names are in order

sound_kind : (es : List Entry) (pins : ℕ) (kind : Kind) → IsSoundKind pins es kind → NamesEarlier es kind
sound_kind es pins (AConstant value) h = h
sound_kind es pins _ h = tt

pub sound_in_order : (name : DeviceName) (pins : ℕ) (n : Names) → SoundNames name pins n → AreInOrder (entries_of n)
sound_in_order name pins n h k e s = sound_kind (take k (entries_of n)) pins e.kind (h.kinds k e s)

left_early : (es : List Entry) (k : ℕ) (t : Tree) → are_named (take k es) (uses t) ≡ true → names_left es t ≤ k
left_early es k (AName word e) h =
    found_early es k word.text (left_true (names_any is_value (take k es) word.text) true (left_true (names_any is_value (take k es) word.text && true) true h))
left_early es k (AParen p t) h = left_early es k t h
left_early es k (AUnary sign p t) h = left_early es k t h
left_early es k _ h = omega arith

signs_among : (es : List Entry) (k : ℕ) (d : Entry) → k < length es → kind_signs (get_or es k d).kind ≤ all_signs es
signs_among [] k d h = absurd (omega arith)
signs_among (x ∷ es) zero d h = omega arith
signs_among (x ∷ es) (suc k) d h = omega (arith, signs_among es k d (omega arith))

fewer_steps : (left k signs all : ℕ) → left ≤ k → signs ≤ all → left * suc all + signs < suc k * suc all
fewer_steps left k signs all h g = omega (arith, mul-le-mul_left (suc all) h)

leads_back : (es : List Entry) (w : List ℕ) (k : ℕ) (y : Entry) (t : Tree) → AreInOrder es → find es w ≡ Some k → get_or es k y ≡ y → y.kind ≡ AConstant t → steps_left es t < steps_up_to es (up_to (find es w))
leads_back es w k y t o h g e =
    let p = position-Some (λ (e : Entry). bytes_eq w e.name) es k y h in
    let n : NamesEarlier (take k es) (AConstant t) = subst (NamesEarlier (take k es)) e (o k y (slice_get-get_or es k y p.0 ∙ ap Some g)) in
    let s : signs_left t ≤ all_signs es = subst (λ x. kind_signs x ≤ all_signs es) (ap (λ (x : Entry). x.kind) g ∙ e) (signs_among es k y p.0) in
    subst (λ o. steps_left es t < steps_up_to es (up_to o)) (sym h) (fewer_steps (names_left es t) k (signs_left t) (all_signs es) (left_early es k t n) s)

pub stand_back : (n : Names) (w : List ℕ) (k : ℕ) (y : Entry) (s : Stand) → AreInOrder (entries_of n) → find (entries_of n) w ≡ Some k → get_or (entries_of n) k y ≡ y → IsOfKind s y.kind → LeadsBack n w s
stand_back n w k y (stand.Constant x) o h g e = leads_back (entries_of n) w k y _ o h g e
stand_back n w k y (stand.Part p) o h g e = tt
