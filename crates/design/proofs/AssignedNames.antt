-- What the names of a module say of its assignments; and what a target names by its names alone is among what its names
-- would read as Q.
use Rattle.std.proofs.Common.{◌≡◌, ℕ, zero, suc, ◌+◌, Bool, true, false, Some, List, [], ◌∷◌, ◌++◌, get_or, refl, sym, ap, ◌∙◌, arith, slice_get, if◌then◌else◌, None, bytes_eq}
use Rattle.design.proofs.Common.{Flip, Table, Named, Assigned, meant, signals_of, named_after, named_of, is_assigned, sections_assign, Entry, is_signal, Tree, ModuleTree, declared_names, Design, design_of, name_at, no_name, Holds, holds_of, with_kind, with_kinds, names_of, term_of, among, bare_signals, signals_of_name, signals_of_names, signals_of_members, signals_of_member, Kind, AConstant, ADeviceName, range_names, AName, ASet, AParen, SetMember, OneMember, SpanMember, Members, NoMember, MoreMembers, Held, held_by, held_meant, held_after, held_of, read_names, read_in, read_in_members, read_in_member}
use Rattle.declared_names.proofs.AssignedMarks.{is_no_target}
use Rattle.design.proofs.NamedTerms.{IsWithin, same_signals, bare_among, both_among}

-- ---- assignments

-- kinds change neither names nor what they represent
named_kept : (flip : Flip) (held : Holds) (found : List Assigned) (ks : List Named) (s k : ℕ) (es : List Entry) → named_after ks s (with_kinds flip held found k es) ≡ named_after ks s es
named_kept flip held found ks s k [] = refl
named_kept flip held found ks s k (e ∷ es) = named_kept flip held found (ks ++ record { name = e.name; signals = meant ks s e.kind } ∷ []) (suc s) (suc k) es

-- an assigned name as it was declared, with its kind
kinds_there : (flip : Flip) (held : Holds) (found : List Assigned) (k s n : ℕ) (es : List Entry) → n ≡ k + s → (get_or (with_kinds flip held found k es) s no_name).assigned ≡ true
    → (x : Entry) × ((slice_get es s ≡ Some x) × (get_or (with_kinds flip held found k es) s no_name ≡ with_kind flip held found n x))
kinds_there flip held found k s n [] place h = absurd cc
kinds_there flip held found k zero n (e ∷ es) place h = (e, (refl, ap (λ j. with_kind flip held found j e) (let same : k ≡ n = omega (arith, place) in same)))
kinds_there flip held found k (suc s) n (e ∷ es) place h = kinds_there flip held found (suc k) s n es (omega (arith, place)) h

module _ (t : Table) (m : ModuleTree) where
  abbrev pub own_names : List Named
  own_names = named_of (declared_names m)

  abbrev pub own_held : Holds
  own_held = holds_of (declared_names m) m.sections

  abbrev d : Design
  d = design_of t m

  pub same_targets : (x : Tree) → signals_of own_names x ≡ bare_signals (term_of d.context.known x)
  same_targets x = ap (λ ks. signals_of ks x) (sym (named_kept t.flip own_held (sections_assign own_names m.sections) [] 0 0 (declared_names m))) ∙ same_signals (names_of t m) x

  pub names_within : (s : ℕ) → IsWithin s own_names d.context.known
  names_within s x h = bare_among s (term_of d.context.known x) (sym (ap (among s) (same_targets x)) ∙ h)

  abbrev pub own_assigned : List Assigned
  own_assigned = sections_assign own_names m.sections

  -- an assigned name as it was declared, and as it is assigned
  pub declared_there : (s : ℕ) → (name_at d.context s).assigned ≡ true → (x : Entry) × ((slice_get (declared_names m) s ≡ Some x) × (name_at d.context s ≡ with_kind t.flip own_held own_assigned s x))
  declared_there s h = kinds_there t.flip own_held own_assigned 0 s s (declared_names m) (omega arith) h

  pub by_sections : (s : ℕ) → (name_at d.context s).assigned ≡ true → is_assigned own_assigned s ≡ true
  by_sections s h = sym (ap (λ (e : Entry). e.assigned) (declared_there s h).1.1) ∙ h

  -- only signals are assigned
  pub signal_there : (s : ℕ) → (name_at d.context s).assigned ≡ true → is_signal (name_at d.context s).kind ≡ true
  signal_there s h =
      let x = declared_there s h in
      ap (λ (e : Entry). is_signal e.kind) x.1.1 ∙ by x.0 x.1.0 (is_signal x.0.kind) refl
    where
      by : (x : Entry) → slice_get (declared_names m) s ≡ Some x → (b : Bool) → is_signal x.kind ≡ b → b ≡ true
      by x g true e = refl
      by x g false e = absurd (let bad : true ≡ false = sym (by_sections s h) ∙ is_no_target (declared_names m) m.sections s x g e in cc)

-- ---- what is read as Q

module _ (s : ℕ) where
  -- names one by one: what the one names, the other reads as Q
  abbrev Reads : List Named → List Held → Type 0
  Reads [] [] = Unit {0}
  Reads (k ∷ ks) (h ∷ hs) = (k.name ≡ h.name) × ((among s k.signals ≡ true → among s (h.signals true) ≡ true) × Reads ks hs)
  Reads _ _ = ⊥

  reads_more : (ks : List Named) (hs : List Held) (k : Named) (h : Held) → Reads ks hs → k.name ≡ h.name → (among s k.signals ≡ true → among s (h.signals true) ≡ true) → Reads (ks ++ k ∷ []) (hs ++ h ∷ [])
  reads_more [] [] k h all n f = (n, (f, tt))
  reads_more (l ∷ ks) (g ∷ hs) k h all n f = (all.0, (all.1.0, reads_more ks hs k h all.1.1 n f))
  reads_more _ _ k h all n f = absurd all

  name_read : (ks : List Named) (hs : List Held) → Reads ks hs → (w : List ℕ) → among s (signals_of_name ks w) ≡ true → among s (held_by hs w true) ≡ true
  name_read [] hs all w e = absurd cc
  name_read (k ∷ ks) [] all w e = absurd all
  name_read (k ∷ ks) (h ∷ hs) all w e = ap (λ n. among s (if bytes_eq w n then h.signals true else held_by hs w true)) (sym all.0) ∙ by (bytes_eq w k.name) e (name_read ks hs all.1.1 w)
    where
      by : (b : Bool) → among s (if b then k.signals else signals_of_name ks w) ≡ true → (among s (signals_of_name ks w) ≡ true → among s (held_by hs w true) ≡ true) → among s (if b then h.signals true else held_by hs w true) ≡ true
      by true e more = all.1.0 e
      by false e more = more e

  module _ (ks : List Named) (hs : List Held) (all : Reads ks hs) where
    names_read : (names : List (List ℕ)) → among s (signals_of_names ks names) ≡ true → among s (read_names (held_by hs) true names) ≡ true
    names_read [] e = absurd cc
    names_read (w ∷ names) e = both_among s (signals_of_name ks w) (signals_of_names ks names) (held_by hs w true) (read_names (held_by hs) true names) (name_read ks hs all w) (names_read names) e

    mutual
      target_read : (t : Tree) → among s (signals_of ks t) ≡ true → among s (read_in (held_by hs) true t) ≡ true
      target_read (AName word None) e = name_read ks hs all word.text e
      target_read (ASet p ms None) e = members_read ms e
      target_read (AParen p t) e = target_read t e
      target_read _ e = absurd cc

      members_read : (ms : Members) → among s (signals_of_members ks ms) ≡ true → among s (read_in_members (held_by hs) true ms) ≡ true
      members_read NoMember e = absurd cc
      members_read (MoreMembers m ms) e = both_among s (signals_of_member ks m) (signals_of_members ks ms) (read_in_member (held_by hs) true m) (read_in_members (held_by hs) true ms) (member_read m) (members_read ms) e

      member_read : (m : SetMember) → among s (signals_of_member ks m) ≡ true → among s (read_in_member (held_by hs) true m) ≡ true
      member_read (OneMember t) e = target_read t e
      member_read (SpanMember first last) e = names_read (range_names first.text last.text) e

    meant_read : (n : ℕ) (kind : Kind) → among s (meant ks n kind) ≡ true → among s (held_meant hs n kind true) ≡ true
    meant_read n (AConstant value) e = target_read value e
    meant_read n ADeviceName e = absurd cc
    meant_read n _ e = e

  after_read : (ks : List Named) (hs : List Held) → Reads ks hs → (n : ℕ) (es : List Entry) → Reads (named_after ks n es) (held_after hs n es)
  after_read ks hs all n [] = all
  after_read ks hs all n (e ∷ es) =
      after_read (ks ++ record { name = e.name; signals = meant ks n e.kind } ∷ []) (hs ++ record { name = e.name; signals = held_meant hs n e.kind } ∷ [])
      (reads_more ks hs (record { name = e.name; signals = meant ks n e.kind }) (record { name = e.name; signals = held_meant hs n e.kind }) all refl (meant_read ks hs all n e.kind))
      (suc n) es

  pub is_read : (es : List Entry) (t : Tree) → among s (signals_of (named_of es) t) ≡ true → among s (read_in (held_by (held_of es)) true t) ≡ true
  is_read es t e = target_read (named_of es) (held_of es) (after_read [] [] tt 0 es) t e
