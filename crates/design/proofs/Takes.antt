-- A device can take the netlist of a design of which nothing is refused.
use Rattle.std.proofs.Common.{◌≡◌, ◌≢◌, ℕ, ◌==◌, Bool, true, false, ◌&&◌, Option, None, Some, List, [], ◌∷◌, map, refl, sym, ap, subst, ◌∙◌, if◌then◌else◌, slice_get, IsSome}
use Rattle.design.proofs.Common.{AllByRecursion, false_from_ne_true, and_from, and_parts, eqb-true, true≢false, All-get_or, list_any_at, position-Some, get_or_from_slice_get, Leaf, Formula, Cell, IsCell, IsDevice, cell_at, no_cell, Kind, APin, ANode, Entry, is_signal, is_stored, cell_on, is_data, Design, name_at, no_name, is_data_to, given_formulas, MayRegister, view_contribution, is_wrong_kind, is_wrong_cell, has_wrong_kind, has_wrong_kind_by, has_wrong_kind_on, is_registered_by, cell_by, SignalUse, use_reads, uses_read, given_uses, HasColumns, IsAllowedOn, ControlIsThere, IsTakeable, PlacedUse, is_missing, is_unread, design_uses, IsAccepted, IsUnrefused, IsSignalOf}
use Rattle.pld_device.specs.declared.kinds.Kinds.{Kinds}
use Rattle.pld_device.specs.declared.kinds.Kinds.TheVariants.{Combinational, Registered, Either}
use Rattle.abel_tree.specs.declared.words.Extension.TheVariants as extension
use Rattle.set_expr.specs.declared.contributions.Contribution as code
use Rattle.design_checks.specs.Correct.{UsesHaveColumns}
use Rattle.design.proofs.GivenSignals.{good_signals, reset_had, preset_had}
use Rattle.design.proofs.Each.{each_at, filtered_none, some_of}
use Rattle.design.proofs.GivenBlocks.{IsGood, EachGood}
use Rattle.design.proofs.Unlisted.{FitsKind, kinds_fit, no_registered}

-- ---- kinds

may_be : (kinds : Kinds) (stored : Bool) → is_wrong_kind kinds stored ≡ false → MayRegister kinds stored
may_be Combinational stored right = right
may_be Registered true right = refl
may_be Registered false right = absurd cc
may_be Either stored right = tt

may_register : (kinds : Kinds) (stored : Bool) → stored ≡ true → MayRegister kinds stored → kinds ≢ Combinational
may_register Combinational stored is may same = true≢false (sym is ∙ may)
may_register _ stored is may same = absurd cc

module _ (uses_have_columns : UsesHaveColumns) (d : Design) (fs : List Formula) (cs : List code.Contribution) (laws : IsDevice d.context.device) (accepted : IsAccepted d) (same : map (view_contribution fs) cs ≡ given_formulas d) (unrefused : IsUnrefused d cs) where
  -- ---- names

  stored_on_cell : (s : ℕ) (x : Entry) (kind : Kind) → name_at d.context s ≡ x → x.kind ≡ kind → is_signal kind ≡ true → is_registered_by x.words.registered kind ≡ false → is_stored x ≡ true → IsSome (cell_by d.context.device x kind)
  stored_on_cell s x (APin pin negated) here is signal no_node stored =
      let assigned = (and_parts x.words.registered x.assigned stored).1 in
      rw assigned (accepted.names.cells s pin negated (ap (λ (y : Entry). y.kind) here ∙ is) (ap (λ (y : Entry). y.assigned) here ∙ assigned))
  stored_on_cell s x (ANode n) here is signal no_node stored = absurd (true≢false (sym (and_parts x.words.registered x.assigned stored).0 ∙ no_node))
  stored_on_cell s x _ here is signal no_node stored = absurd cc

  registers : (s : ℕ) (x : Entry) → slice_get d.context.names s ≡ Some x → is_stored x ≡ true → IsSome (cell_by d.context.device x x.kind)
  registers s x is stored =
      let here : name_at d.context s ≡ x = get_or_from_slice_get d.context.names s x no_name is in
      let assigned = ap (λ (y : Entry). y.assigned) here ∙ (and_parts x.words.registered x.assigned stored).1 in
      stored_on_cell s x x.kind here refl (sym (ap (λ (y : Entry). is_signal y.kind) here) ∙ accepted.names.signals s assigned) (no_registered 0 d.context.names unrefused.nodes s x is) stored

  -- ---- cells

  right_kind : (s : ℕ) → (name_at d.context s).assigned ≡ true → has_wrong_kind d.context.device (name_at d.context s) ≡ false
  right_kind s assigned =
      let some = some_of (FitsKind d.context fs) (is_data_to s) (given_formulas d) (subst (AllByRecursion (FitsKind d.context fs)) same (kinds_fit d.context fs cs unrefused.kinds)) (accepted.data_given s assigned) in
      let parts = and_parts (some.0.signal == s) (is_data some.0.extension) some.2 in
      let either : (is_data some.0.extension && has_wrong_kind d.context.device (name_at d.context some.0.signal)) ≡ false = some.1 in
      let fits : has_wrong_kind d.context.device (name_at d.context some.0.signal) ≡ false = rw parts.1 at either in
      sym (ap (λ n. has_wrong_kind d.context.device (name_at d.context n)) (eqb-true some.0.signal s parts.0)) ∙ fits

  cell_kind : (pin c : ℕ) (stored : Bool) → cell_on d.context.device pin ≡ Some c → has_wrong_kind_on d.context.device pin stored ≡ false → is_wrong_kind (cell_at d.context.device c).kinds stored ≡ false
  cell_kind pin c stored on right =
      let at = position-Some (λ (x : Cell). x.pin == pin) d.context.device.cells c no_cell on in
      false_from_ne_true (is_wrong_kind (cell_at d.context.device c).kinds stored)
      (λ wrong. true≢false (sym (list_any_at (is_wrong_cell pin stored) d.context.device.cells c no_cell at.0 (and_from ((cell_at d.context.device c).pin == pin) (is_wrong_kind (cell_at d.context.device c).kinds stored) at.1 wrong)) ∙ right))

  -- a device on which a cell may be a register has a clock
  clocked : (pin c : ℕ) → cell_on d.context.device pin ≡ Some c → (cell_at d.context.device c).kinds ≢ Combinational → d.context.device.clock ≢ 0
  clocked pin c on =
      let at = position-Some (λ (x : Cell). x.pin == pin) d.context.device.cells c no_cell on in
      (All-get_or (IsCell d.context.device) d.context.device.cells c no_cell at.0 laws.cells).clocked

  allowed : (s c : ℕ) (kind : Kind) → (name_at d.context s).kind ≡ kind → cell_by d.context.device (name_at d.context s) kind ≡ Some c → IsAllowedOn d.context s c
  allowed s c (APin pin negated) kind on =
      let parts = on_cell (name_at d.context s).assigned (cell_on d.context.device pin) on in
      let may = may_be (cell_at d.context.device c).kinds (is_stored (name_at d.context s)) (cell_kind pin c (is_stored (name_at d.context s)) parts.1 (sym (ap (has_wrong_kind_by d.context.device (is_stored (name_at d.context s))) kind) ∙ right_kind s parts.0)) in
      record {
        kind = may;
        buffer = λ stored follows. accepted.names.buffers s stored follows (clocked pin c parts.1 (may_register (cell_at d.context.device c).kinds (is_stored (name_at d.context s)) stored may));
      }
    where
      on_cell : (b : Bool) (o : Option ℕ) → (if b then o else None) ≡ Some c → (b ≡ true) × (o ≡ Some c)
      on_cell true o e = (refl, e)
      on_cell false o e = absurd cc
  allowed s c _ kind on = absurd cc

  -- ---- reads

  abbrev Carried : SignalUse → Type 0
  Carried u = (l : Leaf) → use_reads d.context l u ≡ true → HasColumns d.context l

  carried : (us : List PlacedUse) → AllByRecursion (λ u. is_missing d.context u ≡ false) us → AllByRecursion (λ u. is_unread d.context u ≡ false) us → AllByRecursion (λ (u : PlacedUse). Carried u.read) us
  carried [] missing unread = tt
  carried (u ∷ us) missing unread = (λ l is. uses_have_columns d.context u l accepted.names.pins missing.0 unread.0 is, carried us missing.1 unread.1)

  given_good : EachGood d.context Carried (λ e s. IsSignalOf d.context s) (λ e s is. is) (given_uses d)
  given_good =
      good_signals d accepted.names.known accepted.headers Carried
      (carried (design_uses d) (filtered_none (is_missing d.context) (design_uses d) unrefused.missing) (filtered_none (is_unread d.context) (design_uses d) unrefused.unread))

  some_carried : (us : List SignalUse) (l : Leaf) → AllByRecursion Carried us → uses_read d.context us l ≡ true → HasColumns d.context l
  some_carried us l all is = let u = some_of Carried (use_reads d.context l) us all is in u.1 l u.2

  -- ---- controls

  resets : ControlIsThere d extension.Ar d.context.device.reset
  resets s f is = (reset_had d accepted.names.known accepted.headers fs cs same unrefused.controls s f is).there

  presets : ControlIsThere d extension.Sp d.context.device.preset
  presets s f is = (preset_had d accepted.names.known accepted.headers fs cs same unrefused.controls s f is).there

  pub takes : IsTakeable d
  takes =
      record {
        registers = registers;
        pins = accepted.names.pins;
        nodes = accepted.names.nodes;
        cells = λ s c on. allowed s c (name_at d.context s).kind refl on;
        free = accepted.free;
        resets = resets;
        presets = presets;
        reads = λ k c is kept l read. some_carried c.holds l ((each_at (IsGood d.context Carried (λ e s. IsSignalOf d.context s) (λ e s is. is)) (given_uses d) k c given_good is).reads kept) read;
        no_loop = unrefused.no_loop;
        no_path = unrefused.no_path;
      }
