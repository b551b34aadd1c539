-- The signals of a target that isn't refused are those of its term, position by position.
use Rattle.std.proofs.Common.{◌≡◌, ℕ, Bool, true, false, Option, None, Some, List, [], ◌∷◌, ◌++◌, if◌then◌else◌, length, map, append_assoc, refl, sym, ap, ap₂, ◌∙◌}
use Rattle.section_targets.proofs.Common.{and_parts, map-append, Place, Extension, find, range_names, Tree, AName, ASet, AParen, OneMember, SpanMember, Members, NoMember, MoreMembers, Context, targets_of, all_targets, some_signals, Term, Terms, Read, Set, NoTerm, Before, extended_if, term_named, term_of, terms_of, named_before, NotAnOutput, found_use, name_found, names_found, too_wide, Aim, TargetFound, aims_at, names_signals, all_name_signals, no_signals, target_name, target_range, target_member, target_members, left_side, start_of}
use Rattle.section_targets.proofs.Built.{left_empty, right_empty}
use Rattle.section_targets.proofs.SignalLists.{some_append, extended_targets}

-- each aim's signal, as a position of a target
abbrev pub positions_of : List Aim → List (Option ℕ)
positions_of aims = map (λ (a : Aim). Some a.signal) aims

mutual
  signals_alone : (t : Term) → names_signals t ≡ true → targets_of t ≡ map Some (some_signals (targets_of t))
  signals_alone (Read s None) e = refl
  signals_alone (Set ts) e = all_alone ts e
  signals_alone _ e = absurd cc

  all_alone : (ts : Terms) → all_name_signals ts ≡ true → all_targets ts ≡ map Some (some_signals (all_targets ts))
  all_alone NoTerm e = refl
  all_alone (Before t ts) e =
      let both = and_parts (names_signals t) (all_name_signals ts) e in
      ap₂ (λ xs ys. xs ++ ys) (signals_alone t both.0) (all_alone ts both.1)
      ∙ sym (ap (map Some) (some_append (targets_of t) (all_targets ts)) ∙ map-append Some (some_signals (targets_of t)) (some_signals (all_targets ts)))

aims_positions : (q : Place) (ss : List ℕ) → positions_of (aims_at q ss) ≡ map Some ss
aims_positions q [] = refl
aims_positions q (s ∷ ss) = ap (λ xs. Some s ∷ xs) (aims_positions q ss)

name_positions : (d : Context) (p q : Place) (w : List ℕ) → (target_name d p q w).refusals ≡ [] → targets_of (term_named d.known w) ≡ positions_of (target_name d p q w).aims
name_positions d p q w e =
    let f = found_use p (name_found (names_found d.names) w) in
    let t = term_named d.known w in
    signals_alone t (alone (names_signals t) (right_empty f.specials (no_signals q (find d.names w) t) (right_empty f.refusals (f.specials ++ no_signals q (find d.names w) t) e)))
    ∙ sym (aims_positions q (some_signals (targets_of t)))
  where
    alone : (b : Bool) → (if b then [] else NotAnOutput q (find d.names w) ∷ []) ≡ [] → b ≡ true
    alone true e = refl
    alone false e = absurd cc

range_positions : (d : Context) (p : Place) (names : List (List ℕ)) (ts : Terms) (x : TargetFound) → all_targets ts ≡ positions_of x.aims → (target_range d p names).refusals ≡ []
    → all_targets (named_before d.known names ts) ≡ positions_of ((target_range d p names).aims ++ x.aims)
range_positions d p [] ts x h e = h
range_positions d p (n ∷ names) ts x h e =
    let a = target_name d p p n in
    let b = target_range d p names in
    ap₂ (λ xs ys. xs ++ ys) (name_positions d p p n (left_empty a.refusals b.refusals e)) (range_positions d p names ts x h (right_empty a.refusals b.refusals e))
    ∙ sym (map-append (λ (a : Aim). Some a.signal) a.aims (b.aims ++ x.aims))
    ∙ ap positions_of (sym (append_assoc a.aims b.aims x.aims))

mutual
  pub member_positions : (d : Context) (t : Tree) → (target_member d t).refusals ≡ [] → targets_of (term_of d.known t) ≡ positions_of (target_member d t).aims
  member_positions d (AName word None) e = name_positions d word.place word.place word.text e
  member_positions d (ASet p ms None) e = members_positions d ms (left_empty (target_members d ms).refusals (too_wide p (length (target_members d ms).aims)) e)
  member_positions d (AParen p t) e = member_positions d t e
  member_positions d _ e = absurd cc

  members_positions : (d : Context) (ms : Members) → (target_members d ms).refusals ≡ [] → all_targets (terms_of d.known ms) ≡ positions_of (target_members d ms).aims
  members_positions d NoMember e = refl
  members_positions d (MoreMembers (OneMember t) ms) e =
      let a = target_member d t in
      let b = target_members d ms in
      ap₂ (λ xs ys. xs ++ ys) (member_positions d t (left_empty a.refusals b.refusals e)) (members_positions d ms (right_empty a.refusals b.refusals e))
      ∙ sym (map-append (λ (a : Aim). Some a.signal) a.aims b.aims)
  members_positions d (MoreMembers (SpanMember first last) ms) e =
      let a = target_range d first.place (range_names first.text last.text) in
      let b = target_members d ms in
      range_positions d first.place (range_names first.text last.text) (terms_of d.known ms) b (members_positions d ms (right_empty a.refusals b.refusals e)) (left_empty a.refusals b.refusals e)

extended_positions : (e : Option Extension) (t : Term) → targets_of (extended_if e t) ≡ targets_of t
extended_positions None t = refl
extended_positions (Some e) t = extended_targets e t

pub side_positions : (d : Context) (p : Place) (t : Tree) → (left_side d p t).refusals ≡ [] → targets_of (term_of d.known t) ≡ positions_of (left_side d p t).aims
side_positions d p (AName word x) e = extended_positions x (term_named d.known word.text) ∙ name_positions d word.place (start_of d p word) word.text e
side_positions d p (ASet q ms x) e = extended_positions x (Set (terms_of d.known ms)) ∙ members_positions d ms (left_empty (target_members d ms).refusals (too_wide q (length (target_members d ms).aims)) e)
side_positions d p t e = member_positions d t e
