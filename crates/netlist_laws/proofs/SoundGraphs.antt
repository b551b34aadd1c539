-- A gathered netlist has a loop, or a path from a reset to a register, only if its module has one.
use Rattle.std.proofs.Common.{◌≡◌, ℕ, suc, ◌<◌, ◌≤◌, true, false, not, ◌==◌, nat_lt, List, [], ◌∷◌, ◌++◌, length, get_or, Option, Some, None, refl, sym, ap, ◌∙◌, subst, inl, inr, arith, if◌then◌else◌}
use Rattle.netlist_laws.proofs.Common.{list_any, All, cases_Bool, and_parts, or_cases, eq-eqb, eqb-true, true≢false, not-true, All-head, All-tail, position-Some, IsDevice, cell_at, no_cell, has, IsChain, has_push, Ranked, ranked, no_loop_by_rank, Leaf, is_stored, is_on_pin, signal_on, control_of, control_if_stored, Design, name_at, formulas, Wanted, signal_count, signal_leaf, is_register_signal, netlist_names, netlist_reads, netlist_waits, netlist_passes, netlist_reset_reads, HasNoNetlistLoop, HasNoNetlistPath, given_formulas, names_if_any, signal_reads, HasNoSignalLoop, HasNoSignalPath, gathered, PinsApart}
use Rattle.bit_expr.specs.declared.node.Leaf.TheVariants as leaf
use Rattle.abel_tree.specs.declared.words.Extension.TheVariants as extension
use Rattle.netlist_laws.proofs.CellsFound.{has_pin}
use Rattle.netlist_laws.proofs.NodesFound.{AreNumbered}
use Rattle.netlist_laws.proofs.SignalsAlike.{signal_of, named_by, named_declared, reset_declared, leaf_alike, register_alike, reads_alike, in_names}
use Rattle.netlist_laws.proofs.SoundCells.{IsFor, each_for}
use Rattle.netlist_laws.proofs.SoundLeaves.{IsDeclared, assigned_on}

-- ---- loops

module _ (d : Design) (laws : IsDevice d.context.device) (numbered : AreNumbered 0 d.context.names) (apart : PinsApart d.context) (none : HasNoSignalLoop d) where
  ranks : Ranked (length d.context.names) (signal_reads d)
  ranks = ranked (length d.context.names) (signal_reads d) none

  abbrev rank_by : Option ℕ → ℕ
  rank_by None = 0
  rank_by (Some s) = suc (ranks.rank s)

  -- registers wait for any others, and none waits for them
  abbrev rank_of : ℕ → ℕ
  rank_of v = if is_register_signal d.context.device (gathered d) v then suc ranks.top else rank_by (signal_of d laws numbered apart v)

  low : (w : ℕ) (found : Option ℕ) → signal_of d laws numbered apart w ≡ found → rank_by found ≤ ranks.top
  low w None is = omega arith
  low w (Some r) is = omega (arith, ranks.below r (in_names d laws numbered apart w r is))

  below_by : (v w s : ℕ) (found : Option ℕ) → signal_of d laws numbered apart v ≡ Some s → signal_of d laws numbered apart w ≡ found → is_register_signal d.context.device (gathered d) v ≡ false → netlist_reads d.context.device (gathered d) v w ≡ true
      → rank_by found < suc (ranks.rank s)
  below_by v w s None here there plain reads = omega arith
  below_by v w s (Some r) here there plain reads =
      let from = reads_alike d laws numbered apart v w r there plain reads in
      let same : Some from.0 ≡ Some s = sym from.1 ∙ here in
      let on : signal_reads d s r ≡ true = subst (λ i. signal_reads d i r ≡ true) (unwrapped same) from.2 in
      omega (arith, ranks.falls s r (in_names d laws numbered apart v s here) (in_names d laws numbered apart w r there) on)
    where
      unwrapped : {a b : ℕ} → Some a ≡ Some b → a ≡ b
      unwrapped e = cc

  falls : (v w : ℕ) → netlist_waits d.context.device (gathered d) v w ≡ true → rank_of w < rank_of v
  falls v w waits =
      let parts = and_parts (not (is_register_signal d.context.device (gathered d) w)) (netlist_reads d.context.device (gathered d) v w) waits in
      let still : is_register_signal d.context.device (gathered d) w ≡ false = not-true _ parts.0 in
      let from = named_by d laws numbered apart v (signal_leaf d.context.device (gathered d) w) parts.1 in
      elim (cases_Bool (is_register_signal d.context.device (gathered d) v)) [
        | inl register ↦ rw (register, still) (omega (arith, low w (signal_of d laws numbered apart w) refl))
        | inr plain ↦ rw (plain, still, from.1) (below_by v w from.0 (signal_of d laws numbered apart w) from.1 refl plain parts.1)
      ]

  pub no_netlist_loop : HasNoNetlistLoop d.context.device (gathered d)
  no_netlist_loop = no_loop_by_rank (signal_count d.context.device (gathered d)) (netlist_waits d.context.device (gathered d)) rank_of (λ v w v_in w_in waits. falls v w waits)

-- ---- paths

first_of : (rest : List ℕ) (last : ℕ) → get_or rest 0 last ≡ get_or (rest ++ last ∷ []) 0 0
first_of [] last = refl
first_of (v ∷ rest) last = refl

module _ (d : Design) (laws : IsDevice d.context.device) (numbered : AreNumbered 0 d.context.names) (apart : PinsApart d.context) where
  of_cell : (v s : ℕ) → nat_lt v (length d.context.device.cells) ≡ true → signal_on d.context v ≡ Some s → signal_of d laws numbered apart v ≡ Some s
  of_cell v s within is = rw within is

  -- a register that is read is one of the module's
  register_of : (v : ℕ) → is_register_signal d.context.device (gathered d) v ≡ true → IsDeclared d.context (signal_leaf d.context.device (gathered d) v) → (s : ℕ) × (signal_of d laws numbered apart v ≡ Some s)
  register_of v register declared =
      let parts = and_parts (nat_lt v (length d.context.device.cells)) _ register in
      let here : IsDeclared d.context (leaf.Q v) = rw (parts.0, parts.1) at declared in
      let s = here.0 in
      let at = position-Some (has_pin here.1) d.context.device.cells v no_cell here.5 in
      let on : is_on_pin (cell_at d.context.device v).pin (name_at d.context s).kind ≡ true = rw here.3 (eq-eqb here.1 (cell_at d.context.device v).pin (sym (eqb-true (cell_at d.context.device v).pin here.1 at.1))) in
      (s, of_cell v s parts.0 (assigned_on d laws numbered apart s v at.0 (and_parts (name_at d.context s).words.registered (name_at d.context s).assigned here.4).1 on))

  -- the module's signals after those of a chain to a register
  record Behind (before : List ℕ) (last r : ℕ) : Type 0 where
    signals : List ℕ
    first : signal_of d laws numbered apart (get_or (before ++ last ∷ []) 0 0) ≡ Some (get_or (signals ++ r ∷ []) 0 0)
    leads : IsChain (signal_reads d) signals r
    inside : (x : ℕ) → has signals x ≡ true → x < length d.context.names

  behind : (before : List ℕ) (last r : ℕ) → signal_of d laws numbered apart last ≡ Some r → IsChain (netlist_passes d.context.device (gathered d)) before last → Behind before last r
  behind [] last r is chain = record { signals = []; first = is; leads = tt; inside = λ x there. absurd (true≢false (sym there)) }
  behind (v ∷ rest) last r is chain =
      let more = behind rest last r is chain.1 in
      let parts = and_parts (not (is_register_signal d.context.device (gathered d) v)) (netlist_reads d.context.device (gathered d) v (get_or rest 0 last)) chain.0 in
      let next : signal_of d laws numbered apart (get_or rest 0 last) ≡ Some (get_or more.signals 0 r) = ap (λ w. signal_of d laws numbered apart w) (first_of rest last) ∙ more.first ∙ ap (λ s. Some s) (sym (first_of more.signals r)) in
      let from = reads_alike d laws numbered apart v (get_or rest 0 last) (get_or more.signals 0 r) next (not-true _ parts.0) parts.1 in
      record {
        signals = from.0 ∷ more.signals;
        first = from.1;
        leads = (from.2, more.leads);
        inside = λ x there. elim (or_cases (x == from.0) (has more.signals x) there) [
          | inl same ↦ subst (λ y. y < length d.context.names) (sym (eqb-true x from.0 same)) (in_names d laws numbered apart v from.0 from.1)
          | inr later ↦ more.inside x later
        ];
      }

  -- the reset equation of which the netlist's reset is
  reset_of : (l : Leaf) (ws : List Wanted) → All (IsFor d 0) ws → list_any (λ (w : Wanted). names_if_any w.reset l) ws ≡ true → (s : ℕ) × (names_if_any (control_if_stored (formulas d.context) (given_formulas d) extension.Ar s (name_at d.context s)) l ≡ true)
  reset_of l [] all is = absurd (true≢false (sym is))
  reset_of l (w ∷ ws) all is =
      elim (or_cases (names_if_any w.reset l) (list_any (λ (v : Wanted). names_if_any v.reset l) ws) is) [
        | inl here ↦ let this = All-head (IsFor d 0) w ws all in (this.signal, subst (λ (v : Wanted). names_if_any v.reset l ≡ true) this.is here)
        | inr later ↦ reset_of l ws (All-tail (IsFor d 0) w ws all) later
      ]

  if_stored : (l : Leaf) (s : ℕ) → names_if_any (control_if_stored (formulas d.context) (given_formulas d) extension.Ar s (name_at d.context s)) l ≡ true → names_if_any (control_of (formulas d.context) (given_formulas d) s extension.Ar) l ≡ true
  if_stored l s is =
      elim (cases_Bool (is_stored (name_at d.context s))) [
        | inl stored ↦ rw stored at is
        | inr other ↦ absurd (true≢false (sym (rw other at is)))
      ]

  -- the last signal of a chain is read by the one before it, or by the reset
  last_declared : (before : List ℕ) (last : ℕ) → ((l : Leaf) → signal_leaf d.context.device (gathered d) (get_or (before ++ last ∷ []) 0 0) ≡ l → IsDeclared d.context l) → IsChain (netlist_passes d.context.device (gathered d)) before last → IsDeclared d.context (signal_leaf d.context.device (gathered d) last)
  last_declared [] last first chain = first (signal_leaf d.context.device (gathered d) last) refl
  last_declared (v ∷ rest) last first chain =
      last_declared rest last
      (λ l is. named_declared d laws numbered apart v l
      (subst (λ m. netlist_names d.context.device (gathered d) v m ≡ true) (ap (λ w. signal_leaf d.context.device (gathered d) w) (first_of_rest rest last) ∙ is)
      (and_parts (not (is_register_signal d.context.device (gathered d) v)) (netlist_reads d.context.device (gathered d) v (get_or rest 0 last)) chain.0).1))
      chain.1
    where
      first_of_rest : (rest : List ℕ) (last : ℕ) → get_or rest 0 last ≡ get_or (rest ++ last ∷ []) 0 0
      first_of_rest [] last = refl
      first_of_rest (v ∷ rest) last = refl

  pub no_netlist_path : ((s : ℕ) → HasNoSignalPath d s) → HasNoNetlistPath d.context.device (gathered d)
  no_netlist_path none path is =
      let begins = subst (λ p. netlist_reset_reads d.context.device (gathered d) (get_or p 0 0) ≡ true) is.is is.begins in
      let l = signal_leaf d.context.device (gathered d) (get_or (is.before ++ is.last ∷ []) 0 0) in
      let reset = reset_of l (gathered d).cells (each_for d 0 d.context.names (λ k less. ap (λ j. name_at d.context j) (omega arith))) begins in
      let reads = if_stored l reset.0 reset.1 in
      let declared = last_declared is.before is.last (λ m e. subst (λ x. IsDeclared d.context x) e (reset_declared d laws numbered apart reset.0 l reads)) is.leads in
      let last = register_of is.last is.arrives declared in
      let signals = behind is.before is.last last.0 last.1 is.leads in
      none reset.0 (signals.signals ++ last.0 ∷ []) (record {
        before = signals.signals;
        last = last.0;
        is = refl;
        inside = λ x there. elim (has_push signals.signals last.0 x there) [
          | inl earlier ↦ signals.inside x earlier
          | inr same ↦ subst (λ y. y < length d.context.names) (sym same) (in_names d laws numbered apart is.last last.0 last.1)
        ];
        begins = rw (leaf_alike d laws numbered apart (get_or (is.before ++ is.last ∷ []) 0 0) (get_or (signals.signals ++ last.0 ∷ []) 0 0) signals.first) reads;
        leads = signals.leads;
        arrives = register_alike d laws numbered apart is.last last.0 last.1 is.arrives;
      })
