-- What is found of an expression over the first names is what is found of it over all names, since the first keep what is
-- known of them.
use Rattle.std.proofs.Common.{◌≡◌, ℕ, zero, suc, ◌+◌, ◌≤◌, Bool, true, false, Option, None, Some, List, [], ◌∷◌, ◌++◌, if◌then◌else◌, take, get_or, cond, bytes_eq, unwrap_or, ◌&&◌, refl, sym, ap, ap₂, ◌∙◌, arith}
use Rattle.truth_tables.proofs.Common.{list_all, position_from, list_all-append, Entry, find, kind_of, passes, is_value, names_any, range_names, Tree, AName, ASet, AParen, AUnary, ABinary, OneMember, SpanMember, Members, NoMember, MoreMembers, Place, NameFound, Found, found_use, name_found, names_found, position_from-zero, is_named, are_named, uses, member_uses, all_found, found_after, found_entry, found_of, range_found, named, nothing_found, found_both, found_under, found_set}
use Rattle.truth_tables.proofs.NamesInOrder.{left_true, right_true}

-- ---- what is known of a name, by the entries after those that are known

entry_among : List NameFound → List Entry → List ℕ → Option NameFound
entry_among ns [] w = None
entry_among ns (e ∷ es) w = if bytes_eq w e.name then Some (found_entry ns e) else entry_among (ns ++ found_entry ns e ∷ []) es w

named_or : List NameFound → List ℕ → Option NameFound → Option NameFound
named_or [] w o = o
named_or (n ∷ ns) w o = if bytes_eq w n.name then Some n else named_or ns w o

or_none : (ns : List NameFound) (w : List ℕ) → named ns w ≡ named_or ns w None
unfolding named_or
or_none [] w = refl
or_none (n ∷ ns) w = ap (λ o. if bytes_eq w n.name then Some n else o) (or_none ns w)

or_last : (ns : List NameFound) (n : NameFound) (w : List ℕ) (o : Option NameFound) → named_or (ns ++ n ∷ []) w o ≡ named_or ns w (if bytes_eq w n.name then Some n else o)
unfolding named_or
or_last [] n w o = refl
or_last (x ∷ ns) n w o = ap (λ m. if bytes_eq w x.name then Some x else m) (or_last ns n w o)

after_among : (ns : List NameFound) (es : List Entry) (w : List ℕ) → named_or (found_after ns es) w None ≡ named_or ns w (entry_among ns es w)
unfolding entry_among named_or
after_among ns [] w = refl
after_among ns (e ∷ es) w =
    let n = found_entry ns e in
    after_among (ns ++ n ∷ []) es w ∙ or_last ns n w (entry_among (ns ++ n ∷ []) es w)

named_among : (es : List Entry) (w : List ℕ) → named (names_found es) w ≡ entry_among [] es w
unfolding named_or
named_among es w = or_none (names_found es) w ∙ after_among [] es w

-- a name among the first entries
among_kept : (ns : List NameFound) (k : ℕ) (es : List Entry) (w : List ℕ) → names_any is_value (take k es) w ≡ true → entry_among ns es w ≡ entry_among ns (take k es) w
unfolding entry_among
among_kept ns (suc k) (x ∷ es) w h = by_test (bytes_eq w x.name) h (among_kept (ns ++ found_entry ns x ∷ []) k es w)
  where
    more : List NameFound
    more = ns ++ found_entry ns x ∷ []

    by_test : (b : Bool) → passes is_value (if b then Some x.kind else kind_of (take k es) w) ≡ true
        → (names_any is_value (take k es) w ≡ true → entry_among more es w ≡ entry_among more (take k es) w)
        → (if b then Some (found_entry ns x) else entry_among more es w) ≡ (if b then Some (found_entry ns x) else entry_among more (take k es) w)
    by_test true h f = refl
    by_test false h f = f h
among_kept ns _ _ w h = absurd cc

from_least : (i j : ℕ) (es : List Entry) (w : List ℕ) → position_from (λ (e : Entry). bytes_eq w e.name) i es ≡ Some j → i ≤ j
from_least i j [] w e = absurd cc
from_least i j (x ∷ es) w e = by_test (bytes_eq w x.name) e (from_least (i + 1) j es w)
  where
    rest : Option ℕ
    rest = position_from (λ (e : Entry). bytes_eq w e.name) (i + 1) es

    by_test : (b : Bool) → cond b (Some i) rest ≡ Some j → (rest ≡ Some j → i + 1 ≤ j) → i ≤ j
    by_test true e f =
        let same : i ≡ j = cc in
        omega (arith, same)
    by_test false e f = omega (arith, f e)

-- what is known of the entry at the place of a name
among_at : (ns : List NameFound) (i j k : ℕ) (es : List Entry) (w : List ℕ) (y : Entry) → j ≡ i + k → position_from (λ (e : Entry). bytes_eq w e.name) i es ≡ Some j → get_or es k y ≡ y → entry_among ns es w ≡ Some (found_entry (found_after ns (take k es)) y)
unfolding entry_among
among_at ns i j k [] w y e h g = absurd cc
among_at ns i j zero (x ∷ es) w y e h g = by_test (bytes_eq w x.name) h (from_least (i + 1) j es w)
  where
    rest : Option ℕ
    rest = position_from (λ (e : Entry). bytes_eq w e.name) (i + 1) es

    by_test : (b : Bool) → cond b (Some i) rest ≡ Some j → (rest ≡ Some j → i + 1 ≤ j) → (if b then Some (found_entry ns x) else entry_among (ns ++ found_entry ns x ∷ []) es w) ≡ Some (found_entry ns y)
    by_test true h f = ap (λ z. Some (found_entry ns z)) g
    by_test false h f = absurd (omega (arith, f h, e))
among_at ns i j (suc k) (x ∷ es) w y e h g = by_test (bytes_eq w x.name) h (λ h. among_at (ns ++ found_entry ns x ∷ []) (i + 1) j k es w y (omega (arith, e)) h g)
  where
    rest : Option ℕ
    rest = position_from (λ (e : Entry). bytes_eq w e.name) (i + 1) es

    whole : Option NameFound
    whole = Some (found_entry (found_after (ns ++ found_entry ns x ∷ []) (take k es)) y)

    by_test : (b : Bool) → cond b (Some i) rest ≡ Some j → (rest ≡ Some j → entry_among (ns ++ found_entry ns x ∷ []) es w ≡ whole) → (if b then Some (found_entry ns x) else entry_among (ns ++ found_entry ns x ∷ []) es w) ≡ whole
    by_test true h f =
        let same : i ≡ j = cc in
        absurd (omega (arith, e, same))
    by_test false h f = f h

-- what is known of a name is what is found of its entry over the names before it
pub named_at : (es : List Entry) (w : List ℕ) (k : ℕ) (y : Entry) → find es w ≡ Some k → get_or es k y ≡ y → named (names_found es) w ≡ Some (found_entry (names_found (take k es)) y)
named_at es w k y h g = named_among es w ∙ among_at [] 0 k k es w y (omega arith) (sym (position_from-zero (λ (e : Entry). bytes_eq w e.name) es) ∙ h) g

-- ---- expressions over the first names

module _ (es : List Entry) (k : ℕ) where
  kept_name : (w : List ℕ) → names_any is_value (take k es) w ≡ true → name_found (names_found es) w ≡ name_found (names_found (take k es)) w
  kept_name w h = ap (λ o. unwrap_or o nothing_found) (named_among es w ∙ among_kept [] k es w h ∙ sym (named_among (take k es) w))

  kept_range : (p : Place) (names : List (List ℕ)) (fs gs : List Found) → list_all (names_any is_value (take k es)) names ≡ true → fs ≡ gs → range_found (names_found es) p names fs ≡ range_found (names_found (take k es)) p names gs
  kept_range p [] fs gs h e = e
  kept_range p (n ∷ names) fs gs h e =
      ap₂ (λ x xs. found_use p x ∷ xs) (kept_name n (left_true (names_any is_value (take k es) n) (list_all (names_any is_value (take k es)) names) h))
      (kept_range p names fs gs (right_true (names_any is_value (take k es) n) (list_all (names_any is_value (take k es)) names) h) e)

  mutual
    pub kept_tree : (t : Tree) → are_named (take k es) (uses t) ≡ true → found_of (names_found es) t ≡ found_of (names_found (take k es)) t
    kept_tree (AName word e) h =
        ap (found_use word.place) (kept_name word.text (left_true (names_any is_value (take k es) word.text) true (left_true (names_any is_value (take k es) word.text && true) true h)))
    kept_tree (ASet p ms e) h = ap (found_set p) (kept_members ms h)
    kept_tree (AParen p t) h = kept_tree t h
    kept_tree (AUnary sign p t) h = ap (found_under sign) (kept_tree t h)
    kept_tree (ABinary sign p t u) h =
        let both = sym (list_all-append (is_named (take k es)) (uses t) (uses u)) ∙ h in
        ap₂ (found_both sign p) (kept_tree t (left_true (are_named (take k es) (uses t)) (are_named (take k es) (uses u)) both)) (kept_tree u (right_true (are_named (take k es) (uses t)) (are_named (take k es) (uses u)) both))
    kept_tree _ h = refl

    kept_members : (ms : Members) → are_named (take k es) (member_uses ms) ≡ true → all_found (names_found es) ms ≡ all_found (names_found (take k es)) ms
    kept_members NoMember h = refl
    kept_members (MoreMembers (OneMember t) ms) h =
        let both = sym (list_all-append (is_named (take k es)) (uses t) (member_uses ms)) ∙ h in
        ap₂ (λ f fs. f ∷ fs) (kept_tree t (left_true (are_named (take k es) (uses t)) (are_named (take k es) (member_uses ms)) both)) (kept_members ms (right_true (are_named (take k es) (uses t)) (are_named (take k es) (member_uses ms)) both))
    kept_members (MoreMembers (SpanMember first last) ms) h =
        let names = range_names first.text last.text in
        kept_range first.place names (all_found (names_found es) ms) (all_found (names_found (take k es)) ms) (left_true (list_all (names_any is_value (take k es)) names) (are_named (take k es) (member_uses ms)) h)
        (kept_members ms (right_true (list_all (names_any is_value (take k es)) names) (are_named (take k es) (member_uses ms)) h))
