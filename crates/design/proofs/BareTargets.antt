-- A target of which nothing is refused is a signal's bare name, or a set of such.
use Rattle.std.proofs.Common.{◌≡◌, ℕ, true, ◌&&◌, Option, None, List, [], ◌∷◌, ◌++◌, length, map, refl, sym, ap, ap₂, ◌∙◌}
use Rattle.design.proofs.Common.{and_parts, true_from_ne_false, map-append, Place, without_extension, find, range_names, Tree, AName, ASet, AParen, OneMember, SpanMember, Members, NoMember, MoreMembers, Context, targets_of, all_targets, some_signals, Term, Terms, Read, Set, NoTerm, Before, term_named, term_of, terms_of, named_before, SignalUse, term_uses, all_term_uses, NotAnOutput, found_use, name_found, names_found, too_wide, names_signals, all_name_signals, no_signals, target_name, target_range, target_member, target_members, left_side, start_of, left_empty, right_empty, some_append, bare_signals, all_bare_signals}
use Rattle.design.proofs.GivenBlocks.{bare}

-- ---- of which nothing is refused

module _ (d : Context) where
  name_bare : (p q : Place) (w : List ℕ) → (target_name d p q w).refusals ≡ [] → names_signals (term_named d.known w) ≡ true
  name_bare p q w e =
      let f = found_use p (name_found (names_found d.names) w) in
      let t = term_named d.known w in
      let none : no_signals q (find d.names w) t ≡ [] = right_empty f.specials (no_signals q (find d.names w) t) (right_empty f.refusals (f.specials ++ no_signals q (find d.names w) t) e) in
      true_from_ne_false (names_signals t) (λ other. let bad : NotAnOutput q (find d.names w) ∷ [] ≡ [] = rw other at none in cc)

  range_bare : (p : Place) (names : List (List ℕ)) (ts : Terms) → all_name_signals ts ≡ true → (target_range d p names).refusals ≡ [] → all_name_signals (named_before d.known names ts) ≡ true
  range_bare p [] ts h e = h
  range_bare p (n ∷ names) ts h e =
      let a = target_name d p p n in
      let b = target_range d p names in
      ap₂ (λ x y. x && y) (name_bare p p n (left_empty a.refusals b.refusals e)) (range_bare p names ts h (right_empty a.refusals b.refusals e))

  mutual
    pub member_bare : (t : Tree) → (target_member d t).refusals ≡ [] → names_signals (term_of d.known t) ≡ true
    member_bare (AName word None) e = name_bare word.place word.place word.text e
    member_bare (ASet p ms None) e = members_bare ms (left_empty (target_members d ms).refusals (too_wide p (length (target_members d ms).aims)) e)
    member_bare (AParen p t) e = member_bare t e
    member_bare _ e = absurd cc

    members_bare : (ms : Members) → (target_members d ms).refusals ≡ [] → all_name_signals (terms_of d.known ms) ≡ true
    members_bare NoMember e = refl
    members_bare (MoreMembers (OneMember t) ms) e =
        let a = target_member d t in
        let b = target_members d ms in
        ap₂ (λ x y. x && y) (member_bare t (left_empty a.refusals b.refusals e)) (members_bare ms (right_empty a.refusals b.refusals e))
    members_bare (MoreMembers (SpanMember first last) ms) e =
        let a = target_range d first.place (range_names first.text last.text) in
        let b = target_members d ms in
        range_bare first.place (range_names first.text last.text) (terms_of d.known ms) (members_bare ms (right_empty a.refusals b.refusals e)) (left_empty a.refusals b.refusals e)

  pub left_bare : (p : Place) (t : Tree) → (left_side d p t).refusals ≡ [] → names_signals (term_of d.known (without_extension t)) ≡ true
  left_bare p (AName word x) e = name_bare word.place (start_of d p word) word.text e
  left_bare p (ASet q ms x) e = members_bare ms (left_empty (target_members d ms).refusals (too_wide q (length (target_members d ms).aims)) e)
  left_bare p t e = member_bare t e

-- ---- what it reads and names

-- its reads are its signals' by their names alone, and all of its signals have no extension
abbrev pub AreAlike : List (Option ℕ) → (bares : List ℕ) → (uses : List SignalUse) → Type 0
AreAlike ss bares uses = (some_signals ss ≡ bares) × (uses ≡ map bare (some_signals ss))

mutual
  pub bare_alike : (t : Term) → names_signals t ≡ true → AreAlike (targets_of t) (bare_signals t) (term_uses t)
  bare_alike (Read s None) h = (refl, refl)
  bare_alike (Set ts) h = all_alike ts h
  bare_alike _ h = absurd cc

  all_alike : (ts : Terms) → all_name_signals ts ≡ true → AreAlike (all_targets ts) (all_bare_signals ts) (all_term_uses ts)
  all_alike NoTerm h = (refl, refl)
  all_alike (Before t ts) h =
      let parts = and_parts (names_signals t) (all_name_signals ts) h in
      let one = bare_alike t parts.0 in
      let more = all_alike ts parts.1 in
      let joined = some_append (targets_of t) (all_targets ts) in (
        joined ∙ ap₂ (λ xs ys. xs ++ ys) one.0 more.0,
        ap₂ (λ xs ys. xs ++ ys) one.1 more.1 ∙ sym (ap (map bare) joined ∙ map-append bare (some_signals (targets_of t)) (some_signals (all_targets ts))),
      )
