-- The targets of a design are signals.
use Rattle.std.proofs.Common.{◌≡◌, ℕ, suc, true, Option, None, Some, List, [], ◌∷◌, ◌++◌, length, get_or, refl, sym, ap, subst, ◌∙◌, arith, append_assoc, length-append, if◌then◌else◌, bytes_eq, codes}
use Rattle.section_targets.proofs.Common.{cond_both, get_or-append_seam, Extension, Kind, AConstant, ADeviceName, Entry, is_signal, range_names, Tree, ASpecial, AName, ASet, AParen, SetMember, OneMember, SpanMember, Members, NoMember, MoreMembers, Context, name_at, no_name, targets_of, all_targets, Term, Terms, X, Pulse, Release, Set, Known, term_named, extended_if, named_before, member_before, special_term, term_of, terms_of, term_meant, known_after, known_of}
use Rattle.section_targets.proofs.SignalLists.{extended_targets}

module _ (Q : ℕ → Type 0) where
  -- each signal of a target is one of those
  abbrev pub EachTarget : List (Option ℕ) → Type 0
  EachTarget [] = Unit {0}
  EachTarget (None ∷ ss) = EachTarget ss
  EachTarget (Some s ∷ ss) = Q s × EachTarget ss

  each_append : (xs ys : List (Option ℕ)) → EachTarget xs → EachTarget ys → EachTarget (xs ++ ys)
  each_append [] ys h k = k
  each_append (None ∷ xs) ys h k = each_append xs ys h k
  each_append (Some s ∷ xs) ys h k = (h.0, each_append xs ys h.1 k)

  abbrev pub EachKnown : List Known → Type 0
  EachKnown [] = Unit {0}
  EachKnown (k ∷ ks) = EachTarget (targets_of k.term) × EachKnown ks

  named_targets : (ks : List Known) (w : List ℕ) → EachKnown ks → EachTarget (targets_of (term_named ks w))
  named_targets [] w h = tt
  named_targets (k ∷ ks) w h =
      cond_both (bytes_eq w k.name) k.term (term_named ks w) (λ t. EachTarget (targets_of t)) (λ e. h.0) (λ e. named_targets ks w h.1)

  extended_each : (e : Option Extension) (t : Term) → EachTarget (targets_of t) → EachTarget (targets_of (extended_if e t))
  extended_each None t h = h
  extended_each (Some e) t h = subst EachTarget (sym (extended_targets e t)) h

  special_targets : (letter : ℕ) → EachTarget (targets_of (special_term letter))
  special_targets letter =
      cond_both (bytes_eq (letter ∷ []) (codes "X")) X (if bytes_eq (letter ∷ []) (codes "C") then Pulse else Release) (λ t. EachTarget (targets_of t)) (λ e. tt)
      (λ e. cond_both (bytes_eq (letter ∷ []) (codes "C")) Pulse Release (λ t. EachTarget (targets_of t)) (λ f. tt) (λ f. tt))

  module _ (ks : List Known) (known : EachKnown ks) where
    range_targets : (names : List (List ℕ)) (ts : Terms) → EachTarget (all_targets ts) → EachTarget (all_targets (named_before ks names ts))
    range_targets [] ts h = h
    range_targets (w ∷ names) ts h =
        each_append (targets_of (term_named ks w)) (all_targets (named_before ks names ts)) (named_targets ks w known) (range_targets names ts h)

    mutual
      pub term_targets : (t : Tree) → EachTarget (targets_of (term_of ks t))
      term_targets (ASpecial letter p) = special_targets letter
      term_targets (AName word e) = extended_each e (term_named ks word.text) (named_targets ks word.text known)
      term_targets (ASet p ms e) = extended_each e (Set (terms_of ks ms)) (members_targets ms)
      term_targets (AParen p t) = term_targets t
      term_targets _ = tt

      members_targets : (ms : Members) → EachTarget (all_targets (terms_of ks ms))
      members_targets NoMember = tt
      members_targets (MoreMembers m ms) = member_targets m (terms_of ks ms) (members_targets ms)

      member_targets : (m : SetMember) (ts : Terms) → EachTarget (all_targets ts) → EachTarget (all_targets (member_before ks m ts))
      member_targets (OneMember t) ts h = each_append (targets_of (term_of ks t)) (all_targets ts) (term_targets t) h
      member_targets (SpanMember first last) ts h = range_targets (range_names first.text last.text) ts h

  known_append : (ks : List Known) (k : Known) → EachKnown ks → EachTarget (targets_of k.term) → EachKnown (ks ++ k ∷ [])
  known_append [] k h g = (g, tt)
  known_append (x ∷ ks) k h g = (h.0, known_append ks k h.1 g)

  meant_targets : (ks : List Known) (s : ℕ) (kind : Kind) → EachKnown ks → (is_signal kind ≡ true → Q s) → EachTarget (targets_of (term_meant ks s kind))
  meant_targets ks s (AConstant value) h q = term_targets ks h value
  meant_targets ks s ADeviceName h q = tt
  meant_targets ks s _ h q = (q refl, tt)

  after_known : (names before es : List Entry) (ks : List Known) → before ++ es ≡ names → ((s : ℕ) → is_signal (get_or names s no_name).kind ≡ true → Q s) → EachKnown ks → EachKnown (known_after ks (length before) es)
  after_known names before [] ks e q h = h
  after_known names before (x ∷ es) ks e q h =
      let here : get_or names (length before) no_name ≡ x = ap (λ ys. get_or ys (length before) no_name) (sym e) ∙ get_or-append_seam before x es no_name in
      let size : length (before ++ x ∷ []) ≡ suc (length before) = omega (arith, length-append before (x ∷ [])) in
      subst (λ n. EachKnown (known_after (ks ++ record { name = x.name; term = term_meant ks (length before) x.kind } ∷ []) n es)) size
      (after_known names (before ++ x ∷ []) es (ks ++ record { name = x.name; term = term_meant ks (length before) x.kind } ∷ [])
      (append_assoc before (x ∷ []) es ∙ e) q
      (known_append ks (record { name = x.name; term = term_meant ks (length before) x.kind }) h
      (meant_targets ks (length before) x.kind h (λ signal. q (length before) (ap (λ (y : Entry). is_signal y.kind) here ∙ signal)))))

-- each name that a target has is a signal
abbrev pub IsSignalOf : Context → ℕ → Type 0
IsSignalOf d s = is_signal (name_at d s).kind ≡ true

pub signal_targets : (d : Context) → d.known ≡ known_of d.names → (t : Tree) → EachTarget (IsSignalOf d) (targets_of (term_of d.known t))
signal_targets d known t =
    term_targets (IsSignalOf d) d.known (subst (EachKnown (IsSignalOf d)) (sym known) (after_known (IsSignalOf d) d.names [] d.names [] refl (λ s is. is) tt)) t
