-- The outputs of a header that isn't refused are the signals of its term, position by position, and names of the design.
use Rattle.std.proofs.Common.{◌≡◌, ℕ, Bool, true, false, Option, None, Some, List, [], ◌∷◌, ◌++◌, if◌then◌else◌, length, bytes_eq, append_assoc, refl, sym, ap, ap₂, ◌∙◌, zero, suc, ◌<◌, nat_lt, subst, arith, codes}
use Rattle.truth_tables.proofs.Common.{option_map, map-append, get_or_past, Place, find, Entry, is_signal, range_names, Tree, ASpecial, AName, ASet, AParen, OneMember, SpanMember, Members, NoMember, MoreMembers, Context, no_name, targets_of, all_targets, Term, Terms, X, Pulse, Release, term_named, term_of, terms_of, named_before, special_term, known_of, SectionFault, MisplacedSpecial, NotAnOutput, found_use, name_found, names_found, too_wide, Aim, left_empty, right_empty, names_positions, header_of, refused_header, outputs_at, named_outputs, header_name, header_range, header_special, output_header, output_members, signals_of, AreNamed, some_aims, unless_refused}
use Rattle.std.proofs.lemmas.Bool.{ltb-true, ltb-false}
use Rattle.section_targets.proofs.KnownTargets.{EachTarget, IsSignalOf, signal_targets}

signals_append : (xs ys : List (Option Aim)) → signals_of (xs ++ ys) ≡ signals_of xs ++ signals_of ys
signals_append xs ys = map-append (λ (x : Option Aim). option_map (λ (a : Aim). a.signal) x) xs ys

listed_signals : (p : Place) (ss : List (Option ℕ)) → ss ≡ signals_of (outputs_at p ss)
listed_signals p [] = refl
listed_signals p (None ∷ ss) = ap (λ xs. None ∷ xs) (listed_signals p ss)
listed_signals p (Some s ∷ ss) = ap (λ xs. Some s ∷ xs) (listed_signals p ss)

name_signals : (d : Context) (p : Place) (w : List ℕ) → (header_name d p w).refusals ≡ [] → targets_of (term_named d.known w) ≡ signals_of (header_name d p w).outputs
name_signals d p w e = by_refusals (found_use p (name_found (names_found d.names) w)).refusals e
  where
    t : Term
    t = term_named d.known w

    by_names : (b : Bool) → (if b then header_of (outputs_at p (targets_of t)) else refused_header (NotAnOutput p (find d.names w))).refusals ≡ []
        → targets_of t ≡ signals_of (if b then header_of (outputs_at p (targets_of t)) else refused_header (NotAnOutput p (find d.names w))).outputs
    by_names true e = listed_signals p (targets_of t)
    by_names false e = absurd cc

    by_refusals : (rs : List SectionFault) → (named_outputs rs p (find d.names w) t).refusals ≡ [] → targets_of t ≡ signals_of (named_outputs rs p (find d.names w) t).outputs
    by_refusals [] e = by_names (names_positions t) e
    by_refusals (r ∷ rs) e = absurd cc

range_signals : (d : Context) (p : Place) (names : List (List ℕ)) (ts : Terms) (xs : List (Option Aim)) → all_targets ts ≡ signals_of xs → (header_range d p names).refusals ≡ []
    → all_targets (named_before d.known names ts) ≡ signals_of ((header_range d p names).outputs ++ xs)
range_signals d p [] ts xs h e = h
range_signals d p (n ∷ names) ts xs h e =
    let a = header_name d p n in
    let b = header_range d p names in
    ap₂ (λ us vs. us ++ vs) (name_signals d p n (left_empty a.refusals b.refusals e)) (range_signals d p names ts xs h (right_empty a.refusals b.refusals e))
    ∙ sym (signals_append a.outputs (b.outputs ++ xs))
    ∙ ap signals_of (sym (append_assoc a.outputs b.outputs xs))

special_signals : (d : Context) (letter : ℕ) (p : Place) → (header_special letter p).refusals ≡ [] → targets_of (special_term letter) ≡ signals_of (header_special letter p).outputs
special_signals d letter p e = by_letter (bytes_eq (letter ∷ []) (codes "X")) (bytes_eq (letter ∷ []) (codes "C")) e
  where
    by_letter : (a b : Bool) → (if a then header_of (None ∷ []) else refused_header (MisplacedSpecial p)).refusals ≡ []
        → targets_of (if a then X else if b then Pulse else Release) ≡ signals_of (if a then header_of (None ∷ []) else refused_header (MisplacedSpecial p)).outputs
    by_letter true b e = refl
    by_letter false b e = absurd cc

mutual
  pub header_signals : (d : Context) (t : Tree) → (output_header d t).refusals ≡ [] → targets_of (term_of d.known t) ≡ signals_of (output_header d t).outputs
  header_signals d (ASpecial letter p) e = special_signals d letter p e
  header_signals d (AName word None) e = name_signals d word.place word.text e
  header_signals d (ASet p ms None) e = members_signals d ms (left_empty (output_members d ms).refusals (too_wide p (length (output_members d ms).outputs)) e)
  header_signals d (AParen p t) e = header_signals d t e
  header_signals d _ e = absurd cc

  members_signals : (d : Context) (ms : Members) → (output_members d ms).refusals ≡ [] → all_targets (terms_of d.known ms) ≡ signals_of (output_members d ms).outputs
  members_signals d NoMember e = refl
  members_signals d (MoreMembers (OneMember t) ms) e =
      let a = output_header d t in
      let b = output_members d ms in
      ap₂ (λ us vs. us ++ vs) (header_signals d t (left_empty a.refusals b.refusals e)) (members_signals d ms (right_empty a.refusals b.refusals e))
      ∙ sym (signals_append a.outputs b.outputs)
  members_signals d (MoreMembers (SpanMember first last) ms) e =
      let a = header_range d first.place (range_names first.text last.text) in
      let b = output_members d ms in
      range_signals d first.place (range_names first.text last.text) (terms_of d.known ms) b.outputs (members_signals d ms (right_empty a.refusals b.refusals e)) (left_empty a.refusals b.refusals e)

signal_within : (d : Context) (s : ℕ) → IsSignalOf d s → s < length d.names
signal_within d s h = by_test (nat_lt s (length d.names)) refl
  where
    by_test : (b : Bool) → nat_lt s (length d.names) ≡ b → s < length d.names
    by_test true e = ltb-true s (length d.names) e
    by_test false e =
        let past = get_or_past d.names s no_name (ltb-false s (length d.names) e) in
        absurd (no_signal (ap (λ (x : Entry). is_signal x.kind) (sym past) ∙ h))
      where
        no_signal : is_signal no_name.kind ≡ true → ⊥
        no_signal e = absurd cc

signals_inside : (d : Context) (xs : List (Option Aim)) → EachTarget (IsSignalOf d) (signals_of xs) → AreNamed (length d.names) (some_aims xs)
signals_inside d [] h = λ k a lt. absurd (omega (arith, lt))
signals_inside d (None ∷ xs) h = signals_inside d xs h
signals_inside d (Some x ∷ xs) h = more (signal_within d x.signal h.0) (signals_inside d xs h.1)
  where
    more : x.signal < length d.names → AreNamed (length d.names) (some_aims xs) → AreNamed (length d.names) (x ∷ some_aims xs)
    more lt rest zero a le = lt
    more lt rest (suc k) a le = rest k a (omega (arith, le))

-- outputs that are the signals of a term
pub outputs_inside : (d : Context) → d.known ≡ known_of d.names → (t : Tree) (xs : List (Option Aim)) → targets_of (term_of d.known t) ≡ signals_of xs → AreNamed (length d.names) (some_aims xs)
outputs_inside d k t xs e = signals_inside d xs (subst (EachTarget (IsSignalOf d)) e (signal_targets d k t))

-- the outputs that a header assigns are names of the design
pub header_named : (d : Context) → d.known ≡ known_of d.names → (t : Tree) → AreNamed (length d.names) (unless_refused (output_header d t).refusals (some_aims (output_header d t).outputs))
header_named d k t = by_refusals (output_header d t).refusals refl
  where
    by_refusals : (rs : List SectionFault) → (output_header d t).refusals ≡ rs → AreNamed (length d.names) (unless_refused rs (some_aims (output_header d t).outputs))
    by_refusals [] e = outputs_inside d k t (output_header d t).outputs (header_signals d t e)
    by_refusals (r ∷ rs) e = λ i a lt. absurd (omega (arith, lt))
