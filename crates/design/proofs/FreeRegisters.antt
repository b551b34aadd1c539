-- If nothing is refused of the sections, the polarity of a free register may be chosen.
use Rattle.std.proofs.Common.{◌≡◌, ℕ, ◌==◌, Bool, true, false, not, ◌&&◌, if◌then◌else◌, Option, None, Some, List, [], ◌∷◌, refl, sym, ap, ◌∙◌}
use Rattle.design.proofs.Common.{AllByRecursion, list_any, and_parts, false_from_ne_true, not-true, or_parts, true≢false, list_any-append, Formula, Flip, Table, Extension, signals_of, target_extension, without_extension, is_assigned, is_clocked_target, Entry, is_signal, is_stored, Tree, ModuleTree, is_data, is_raw, Contribution, is_the_control, is_control, control_by, declared_names, Design, design_of, name_at, formulas, is_data_to, is_raw_signal, Part, ATarget, AValue, sections_parts, read_in, part_reads, parts_read, held_by, held_of, is_shared, part_shares, is_held, is_buffer_by_default, is_registered, is_buffer, is_open, stays_free, with_kind, given_formulas, term_of, HasNoEquation, among, FreeMayChoose, HaveBareHeaders, and-false}
use Rattle.pld_device.specs.declared.flip.Flip.TheVariants.{AfterRegister}
use Rattle.abel_tree.specs.declared.words.Extension.TheVariants as extension
use Rattle.abel_meaning.specs.Choices.{is_free}
use Rattle.design.proofs.AssignedNames.{is_read, own_names, own_held, own_assigned, same_targets, declared_there, signal_there}
use Rattle.design.proofs.BareTargets.{bare_alike}
use Rattle.design.proofs.Each.{each_always, each_weaker, Misses, any_none, none_any, none_filtered}
use Rattle.design.proofs.GivenSections.{IsBare, MayGive}
use Rattle.design.proofs.GivenSignals.{EachOwn, own_given, control_extension}
use Rattle.design.proofs.NamedTerms.{signals_in, without_alike}

-- ---- what is free

-- the settled words say neither polarity only if the register stays free
must_be_free : (stored buffer free : Bool) → (stored && (not (buffer && not free) && not (not buffer && not free))) ≡ true → free ≡ true
must_be_free stored buffer true h = refl
must_be_free true true false h = absurd cc
must_be_free _ _ false h = absurd cc

by_default : (flip : Flip) → is_buffer_by_default flip ≡ true → flip ≡ AfterRegister
by_default AfterRegister h = refl
by_default _ h = absurd cc

-- ---- controls

shared_control : (e : Extension) → is_shared (Some e) ≡ true → (o : Option Extension) → is_shared o ≡ false → is_the_control e o ≡ false
shared_control e shared o other =
    false_from_ne_true (is_the_control e o) (λ is. true≢false (sym shared ∙ ap is_shared (sym (control_extension e o is)) ∙ other))

-- ---- a module

module _ (t : Table) (m : ModuleTree) (bare : AllByRecursion (IsBare (design_of t m).context) (sections_parts m.sections)) (headers : HaveBareHeaders (design_of t m).context m.sections) where
  abbrev d : Design
  d = design_of t m

  -- what holds of the signals of each target holds of all that is contributed
  each_own : (K : Option Extension → ℕ → Type 0) (plain : (j : ℕ) → K None j) → AllByRecursion (MayGive d.context K) (sections_parts m.sections) → EachOwn K (given_formulas d)
  each_own K plain parts = own_given d K (λ e j k. plain j) (λ x. each_always (K None) plain (signals_in (term_of d.context.known x))) headers parts

  -- ---- controls

  abbrev NotShared : Option Extension → ℕ → Type 0
  NotShared e j = is_shared e ≡ false

  part_unshared : (p : Part) → part_shares p ≡ false → MayGive d.context NotShared p
  part_unshared (ATarget x) e = each_always (NotShared (target_extension x)) (λ j. e) (signals_in (term_of d.context.known x))
  part_unshared (AValue x) e = tt

  none_given : (e : Extension) → is_shared (Some e) ≡ true → (own_held t m).all ≡ false → HasNoEquation d e
  none_given e shared none s =
      let parts = each_weaker (λ p. part_shares p ≡ false) (MayGive d.context NotShared) part_unshared (sections_parts m.sections) (any_none part_shares (sections_parts m.sections) none) in
      ap (control_by (formulas d.context)) (none_filtered (is_control s e) (given_formulas d)
      (each_weaker (λ (c : Contribution Formula). NotShared c.extension c.signal) (λ c. is_control s e c ≡ false) (λ c is. ap (λ b. (c.signal == s) && b) (shared_control e shared c.extension is) ∙ and-false (c.signal == s)) (given_formulas d)
      (each_own NotShared (λ j. refl) parts)))

  -- ---- raw inputs

  module _ (s : ℕ) where
    abbrev NotRaw : Option Extension → ℕ → Type 0
    NotRaw e j = (((j == s) && is_data e) && is_raw e) ≡ false

    abbrev held : List ℕ → Bool → List ℕ
    held = held_by (held_of (declared_names m))

    -- the target of a raw input names nothing that isn't held
    target_free : (x : Tree) → IsBare d.context (ATarget x) → (raw : Bool) → is_raw (target_extension x) ≡ raw → among s (if raw then read_in held true (without_extension x) else []) ≡ false
        → AllByRecursion (NotRaw (target_extension x)) (signals_in (term_of d.context.known x))
    target_free x clear false plain free =
        let e = target_extension x in
        each_always (NotRaw e) (λ j. ap (λ b. ((j == s) && is_data e) && b) plain ∙ and-false ((j == s) && is_data e)) (signals_in (term_of d.context.known x))
    target_free x clear true raw free =
        let e = target_extension x in
        let own = without_extension x in
        let named = signals_of (own_names t m) own in
        let same : signals_in (term_of d.context.known x) ≡ named = without_alike d.context.known x ∙ ((bare_alike (term_of d.context.known own) clear).0 ∙ sym (same_targets t m own)) in
        let none = false_from_ne_true (among s named) (λ there. true≢false (sym (is_read s (declared_names m) own there) ∙ free)) in
        each_weaker (Misses (λ j. j == s)) (NotRaw e) (λ j other. ap (λ b. (b && is_data e) && is_raw e) other) (signals_in (term_of d.context.known x))
        (any_none (λ j. j == s) (signals_in (term_of d.context.known x)) (ap (among s) same ∙ none))

    parts_free : (ps : List Part) → AllByRecursion (IsBare d.context) ps → among s (parts_read held ps) ≡ false → AllByRecursion (MayGive d.context NotRaw) ps
    parts_free [] clear free = tt
    parts_free (p ∷ ps) clear free =
        let parts = or_parts (among s (part_reads held p)) (among s (parts_read held ps)) (sym (list_any-append (λ j. j == s) (part_reads held p) (parts_read held ps)) ∙ free) in
        (part_free p clear.0 parts.0, parts_free ps clear.1 parts.1)
      where
        part_free : (q : Part) → IsBare d.context q → among s (part_reads held q) ≡ false → MayGive d.context NotRaw q
        part_free (ATarget x) apart g = target_free x apart (is_raw (target_extension x)) refl g
        part_free (AValue x) apart g = tt

    -- of what isn't held, the data are its name's
    named : is_held (own_held t m) s ≡ false → is_raw_signal (given_formulas d) s ≡ false
    named free =
        none_any (λ (c : Contribution Formula). is_data_to s c && is_raw c.extension) (given_formulas d)
        (each_own NotRaw (λ j. and-false ((j == s) && true)) (parts_free (sections_parts m.sections) bare (or_parts (own_held t m).all (list_any (λ h. h == s) (own_held t m).signals) free).1))

  -- ---- what is free

  stays : (s : ℕ) (x : Entry) → is_signal x.kind ≡ true → is_free (with_kind t.flip (own_held t m) (own_assigned t m) s x) ≡ true
      → (t.flip ≡ AfterRegister) × (is_held (own_held t m) s ≡ false)
  stays s x signal h =
      let registered = is_registered x.words (is_clocked_target (own_assigned t m) s) in
      let is = must_be_free (registered && is_assigned (own_assigned t m) s) (is_buffer t.flip x.words) (stays_free t.flip (own_held t m) s x.words registered) (rw signal at h) in
      let kept = and_parts (is_open t.flip x.words) (not (is_held (own_held t m) s)) (and_parts registered (is_open t.flip x.words && not (is_held (own_held t m) s)) is).1 in
      let default = (and_parts (not x.words.invert) (is_buffer_by_default t.flip) (and_parts (not x.words.buffer) (not x.words.invert && is_buffer_by_default t.flip) kept.0).1).1 in
      (by_default t.flip default, not-true (is_held (own_held t m) s) kept.1)

  pub free_may_choose : FreeMayChoose d
  free_may_choose s free =
      let stored = (and_parts (is_stored (name_at d.context s)) (not (name_at d.context s).words.buffer && not (name_at d.context s).words.invert) free).0 in
      let assigned = (and_parts (name_at d.context s).words.registered (name_at d.context s).assigned stored).1 in
      let there = declared_there t m s assigned in
      let stay = stays s there.0 (sym (ap (λ (e : Entry). is_signal e.kind) there.1.1) ∙ signal_there t m s assigned) (sym (ap is_free there.1.1) ∙ free) in
      let clear = (or_parts (own_held t m).all (list_any (λ h. h == s) (own_held t m).signals) stay.1).0 in
      record {
        named = named s stay.1;
        behind = stay.0;
        no_reset = none_given extension.Ar refl clear;
        no_preset = none_given extension.Sp refl clear;
      }
