-- Each contribution to a design is to a signal, and each control is one that its signal has.
use Rattle.std.proofs.Common.{◌≡◌, ℕ, ◌==◌, Bool, true, false, not, ◌||◌, Option, None, Some, List, [], ◌∷◌, map, refl, sym, ap, subst, ◌∙◌, IsSome, filter, is_none}
use Rattle.design.proofs.Common.{AllByRecursion, true_from_ne_false, list_any, and_parts, eqb-true, Table, Formula, Extension, Kind, APin, Entry, is_signal, is_stored, Tree, Contribution, Evaluator, is_control, is_the_control, control_by, control_of, Design, name_at, formulas, is_data_to, Part, ATarget, AValue, sections_parts, given_formulas, targets_of, some_signals, known_of, term_of, view_contribution, lacking_controls, lacks_by, lacks_control, pin_lacks, SignalUse, given_uses, PlacedUse, design_uses, HaveBareHeaders, EachTarget, IsSignalOf, signal_targets}
use Rattle.abel_tree.specs.declared.words.Extension.TheVariants as extension
use Rattle.abel_meaning.specs.Follows.{seen}
use Rattle.set_expr.specs.declared.contributions.Contribution as code
use Rattle.netlist_laws.proofs.SourcedFormulas.{Sourced, sourced_contributions, formulas_are, uses_are}
use Rattle.design.proofs.AssignedData.{has_data}
use Rattle.design.proofs.Each.{each_always, each_weaker, some_of, any_none, none_filtered}
use Rattle.design.proofs.GivenBlocks.{IsGood, EachGood}
use Rattle.design.proofs.GivenSections.{MayGive, sections_part}
use Rattle.design.proofs.NamedTerms.{signals_in}
use Rattle.design.proofs.Unlisted.{HasControl, controls_there}

-- ---- formulas and uses are contributed alike

-- what is said of extensions and signals
abbrev pub EachOwn : {W : Type 0} → (Option Extension → ℕ → Type 0) → List (Contribution W) → Type 0
EachOwn {W} K cs = AllByRecursion (λ (c : Contribution W). K c.extension c.signal) cs

abbrev pub EachSignal : {W : Type 0} → (ℕ → Type 0) → List (Contribution W) → Type 0
EachSignal Q cs = EachOwn (λ e s. Q s) cs

own_seen : {U V W : Type 0} (K : Option Extension → ℕ → Type 0) (h : U → V) (k : U → W) (cs : List (Contribution U)) → EachOwn K (map (seen h) cs) → EachOwn K (map (seen k) cs)
own_seen K h k [] all = tt
own_seen K h k (c ∷ cs) all = (all.0, own_seen K h k cs all.1)

data_seen : {U V W : Type 0} (s : ℕ) (h : U → V) (k : U → W) (cs : List (Contribution U)) → has_data s (map (seen h) cs) ≡ has_data s (map (seen k) cs)
data_seen s h k [] = refl
data_seen s h k (c ∷ cs) = ap (λ b. is_data_to s c || b) (data_seen s h k cs)

abbrev pub AnyUse : SignalUse → Type 0
AnyUse u = Unit {0}

module _ (d : Design) where
  -- what holds of the signals of each target holds of all that is contributed
  pub own_given : (K : Option Extension → ℕ → Type 0) → ((e : Option Extension) (s : ℕ) → K e s → K None s) → ((t : Tree) → AllByRecursion (K None) (signals_in (term_of d.context.known t)))
      → HaveBareHeaders d.context d.sections → AllByRecursion (MayGive d.context K) (sections_parts d.sections) → EachOwn K (given_formulas d)
  own_given K plain named headers parts =
      let part = sections_part d.context AnyUse K plain 0 [] named d.starts_dontcare 0 [] d.sections in
      let good = part.good headers (each_always (λ (u : PlacedUse). AnyUse u.read) (λ u. tt) (design_uses d)) parts in
      subst (EachOwn K) (formulas_are d)
      (own_seen K (λ (x : Sourced d.context). x.uses) (λ (x : Sourced d.context). x.formula) (sourced_contributions d)
      (subst (EachOwn K) (sym (uses_are d)) (each_weaker (IsGood d.context AnyUse K plain) (λ c. K c.extension c.signal) (λ c is. is.own) (given_uses d) good)))

  pub data_formulas : (s : ℕ) → has_data s (given_formulas d) ≡ has_data s (given_uses d)
  data_formulas s =
      sym (ap (has_data s) (formulas_are d))
      ∙ data_seen s (λ (x : Sourced d.context). x.formula) (λ (x : Sourced d.context). x.uses) (sourced_contributions d) ∙ ap (has_data s) (uses_are d)

-- ---- controls

-- a control that is there is given by some contribution
control_given : (ev : Evaluator Formula) (test : Contribution Formula → Bool) (cs : List (Contribution Formula)) (f : Formula) → control_by ev (filter test cs) ≡ Some f → list_any test cs ≡ true
control_given ev test cs f e =
    true_from_ne_false (list_any test cs) (λ none. let bad : None ≡ Some f = sym (ap (control_by ev) (none_filtered test cs (any_none test cs none))) ∙ e in cc)

-- a control is given by its own extension
pub control_extension : (e : Extension) (o : Option Extension) → is_the_control e o ≡ true → o ≡ Some e
control_extension extension.Oe (Some extension.Oe) is = refl
control_extension extension.Ar (Some extension.Ar) is = refl
control_extension extension.Sp (Some extension.Sp) is = refl
control_extension _ _ is = absurd cc

each_some : (Q : ℕ → Type 0) (ss : List (Option ℕ)) → EachTarget Q ss → AllByRecursion Q (some_signals ss)
each_some Q [] all = tt
each_some Q (None ∷ ss) all = each_some Q ss all
each_some Q (Some s ∷ ss) all = (all.0, each_some Q ss all.1)

-- a register on a pin, and a row of the device for one of its controls
pub record IsRowed (x : Entry) (row : Option ℕ) : Type 0 where
  pub pin : ℕ
  pub negated : Bool
  pub kind : x.kind ≡ APin pin negated
  pub stored : is_stored x ≡ true
  pub there : IsSome row

stored_row : (stored : Bool) (row : Option ℕ) → (not stored || is_none row) ≡ false → (stored ≡ true) × IsSome row
stored_row true (Some r) has = (refl, refl)
stored_row _ _ has = absurd cc

-- so is a signal that has the control
rowed : (t : Table) (x : Entry) (e : Extension) (row : Option ℕ) → ((stored : Bool) → pin_lacks t stored (Some e) ≡ (not stored || is_none row)) → (kind : Kind) → x.kind ≡ kind → is_signal kind ≡ true → lacks_by t (is_stored x) kind (Some e) ≡ false → IsRowed x row
rowed t x e row own (APin pin negated) is signal has =
    let at = stored_row (is_stored x) row (sym (own (is_stored x)) ∙ has) in
    record { pin = pin; negated = negated; kind = is; stored = at.0; there = at.1 }
rowed t x e row own _ is signal has = absurd cc

module _ (d : Design) (known : d.context.known ≡ known_of d.context.names) where
  abbrev ToSignal : Option Extension → ℕ → Type 0
  ToSignal e s = IsSignalOf d.context s

  pub targets : (t : Tree) → AllByRecursion (IsSignalOf d.context) (signals_in (term_of d.context.known t))
  targets t = each_some (IsSignalOf d.context) (targets_of (term_of d.context.known t)) (signal_targets d.context known t)

  may_give : (p : Part) → MayGive d.context ToSignal p
  may_give (ATarget t) = targets t
  may_give (AValue t) = tt

  all_give : AllByRecursion (MayGive d.context ToSignal) (sections_parts d.sections)
  all_give = each_always (MayGive d.context ToSignal) may_give (sections_parts d.sections)

module _ (d : Design) (known : d.context.known ≡ known_of d.context.names) (headers : HaveBareHeaders d.context d.sections) where
  -- each contribution is to a signal
  pub given_signals : EachSignal (IsSignalOf d.context) (given_formulas d)
  given_signals = own_given d (ToSignal d known) (λ e s is. is) (targets d known) headers (all_give d known)

  -- and reads what the uses do
  pub good_signals : (P : SignalUse → Type 0) → AllByRecursion (λ (u : PlacedUse). P u.read) (design_uses d) → EachGood d.context P (λ e s. IsSignalOf d.context s) (λ e s is. is) (given_uses d)
  good_signals P reads =
      (sections_part d.context P (λ e s. IsSignalOf d.context s) (λ e s is. is) 0 [] (targets d known) d.starts_dontcare 0 [] d.sections).good headers reads (all_give d known)

  module _ (fs : List Formula) (cs : List code.Contribution) (same : map (view_contribution fs) cs ≡ given_formulas d) (controls : lacking_controls d.context.device d.context.names cs ≡ []) where
    -- what holds of each signal and extension that something is given to holds of those of a control with an equation
    of_control : (Q : ℕ → Option Extension → Type 0) → AllByRecursion (λ (c : Contribution Formula). Q c.signal c.extension) (given_formulas d) → (e : Extension) (s : ℕ) (f : Formula)
        → control_of (formulas d.context) (given_formulas d) s e ≡ Some f → Q s (Some e)
    of_control Q all e s f is =
        let c = some_of (λ (c : Contribution Formula). Q c.signal c.extension) (is_control s e) (given_formulas d) all (control_given (formulas d.context) (is_control s e) (given_formulas d) f is) in
        let parts = and_parts (c.0.signal == s) (is_the_control e c.0.extension) c.2 in
        subst (λ n. Q n (Some e)) (eqb-true c.0.signal s parts.0) (subst (Q c.0.signal) (control_extension e c.0.extension parts.1) c.1)

    had : (e : Extension) (row : Option ℕ) → ((stored : Bool) → pin_lacks d.context.device stored (Some e) ≡ (not stored || is_none row)) → (s : ℕ) (f : Formula)
        → control_of (formulas d.context) (given_formulas d) s e ≡ Some f → IsRowed (name_at d.context s) row
    had e row own s f is =
        let there = subst (AllByRecursion (HasControl d.context fs)) same (controls_there d.context fs cs controls) in
        rowed d.context.device (name_at d.context s) e row own (name_at d.context s).kind refl (of_control (λ n o. IsSignalOf d.context n) given_signals e s f is)
        (of_control (λ n o. lacks_control d.context.device (name_at d.context n) o ≡ false) there e s f is)

    pub reset_had : (s : ℕ) (f : Formula) → control_of (formulas d.context) (given_formulas d) s extension.Ar ≡ Some f → IsRowed (name_at d.context s) d.context.device.reset
    reset_had = had extension.Ar d.context.device.reset (λ stored. refl)

    pub preset_had : (s : ℕ) (f : Formula) → control_of (formulas d.context) (given_formulas d) s extension.Sp ≡ Some f → IsRowed (name_at d.context s) d.context.device.preset
    preset_had = had extension.Sp d.context.device.preset (λ stored. refl)
