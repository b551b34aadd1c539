-- A netlist's look-ups where chosen cells store the complement are the netlist's logic under the choice, and so the module's.
use Rattle.std.proofs.Common.{◌≡◌, ℕ, Bool, true, false, ◌&&◌, nat_lt, List, length, refl, ap, ◌∙◌, subst, inl, inr}
use Rattle.source_machine.proofs.Common.{fun_ext, cases_Bool, ltb-true, bits, is_on, same_level, Logic, Levels, exchanged, exchanged_at, exchanged_lookups, in_sense, Lookups, logic_of, IsOrdered, IsDetermined, is_determined, IsDevice, Table, ModuleTree, signal_on, design_of, PlainNetlist, wanted_at, IsSound, logic_with_any_0, MeansTheSame, is_free_wanted, netlist_of, netlist_with_any_0, AreChosen, chosen, inverts_by, module_as_chosen, netlist_as_chosen, AllowTheSame, IsSignalOrder, netlist_lookups}
use Rattle.pld_machine.proofs.ExchangedLogics.{exchanged_refines}
use Rattle.pld_machine.proofs.ExchangedLookups.{lookups_exchanged}
use Rattle.abel_meaning.specs.Choices.{inverting, is_free_signal}
use Rattle.source_machine.proofs.OneValue.{is_ordered}
use Rattle.source_machine.proofs.SignalPlaces.{same_logic}
use Rattle.source_machine.proofs.SourceAs0.{netlist_as_0}

-- ---- look-ups

complement_same : (b v w : Bool) → same_level v (in_sense b w) ≡ same_level (in_sense b v) w
complement_same true true true = refl
complement_same true true false = refl
complement_same true false true = refl
complement_same true false false = refl
complement_same false v w = refl

-- the exchanged logic, except for the next Qs
with_next : (ℕ → Bool) → Lookups → (Levels → ℕ → Bool → Bool) → Logic
with_next x m next = record (exchanged x (logic_of m)) { allows_next = next }

-- exchanged look-ups are those of the exchanged logic
logic_exchanged : (x : ℕ → Bool) (m : Lookups) → logic_of (exchanged_lookups x m) ≡ exchanged x (logic_of m)
unfolding with_next
logic_exchanged x m =
    ap (with_next x m) (fun_ext (λ at. fun_ext (λ c. fun_ext (λ v. complement_same (x c) v (m.next (exchanged_at x at) c)))))

module _ (t : Table) (laws : IsDevice t) (net : PlainNetlist) (order : List ℕ) (ordered : IsSignalOrder t net order) (inverted complemented : ℕ) (are : AreChosen t net inverted complemented) where
  pub chosen_logic : logic_of (exchanged_lookups (is_on (bits 32 complemented)) (netlist_lookups t net order)) ≡ netlist_as_chosen t net inverted
  chosen_logic =
      logic_exchanged (is_on (bits 32 complemented)) (netlist_lookups t net order)
      ∙ (ap (λ x. exchanged x (logic_of (netlist_lookups t net order))) (fun_ext are)
      ∙ ap (exchanged (chosen t net inverted)) (same_logic t laws net order ordered))

  module _ (sound : IsSound t net) where
    pub chosen_ordered : IsOrdered (exchanged_lookups (is_on (bits 32 complemented)) (netlist_lookups t net order))
    chosen_ordered = (lookups_exchanged (is_on (bits 32 complemented)) (netlist_lookups t net order)).0 (is_ordered t laws net sound order ordered)

    pub chosen_determined : IsDetermined (netlist_as_chosen t net inverted)
    chosen_determined = subst IsDetermined chosen_logic (is_determined (exchanged_lookups (is_on (bits 32 complemented)) (netlist_lookups t net order)) chosen_ordered)

-- ---- the module

-- the netlist's free registers are the module's
same_choice : (t : Table) (m : ModuleTree) (net : PlainNetlist) (inverted : ℕ) → MeansTheSame t m net
    → (c : ℕ) → chosen t net inverted c ≡ inverting (inverts_by t inverted) (design_of t m).context c
same_choice t m net inverted means c =
    elim (cases_Bool (nat_lt c (length t.cells))) [
      | inl less ↦ ap (λ b. b && inverts_by t inverted c) (means.free c (ltb-true c (length t.cells) less))
      | inr past ↦ rw past (never (is_free_wanted (wanted_at net c)) (is_free_signal (design_of t m).context (signal_on (design_of t m).context c)))
    ]
  where
    never : (a b : Bool) → (a && false) ≡ (b && false)
    never true true = refl
    never true false = refl
    never false true = refl
    never false false = refl

pub chosen_module : (t : Table) (m : ModuleTree) (net : PlainNetlist) (inverted : ℕ) → IsDevice t → net ≡ netlist_of t m → MeansTheSame t m net
    → AllowTheSame (netlist_as_chosen t net inverted) (module_as_chosen t m inverted)
chosen_module t m net inverted laws is means =
    let plain : AllowTheSame (netlist_with_any_0 t net) (logic_with_any_0 (design_of t m)) = netlist_as_0 t m net laws is means in
    subst (λ x. AllowTheSame (netlist_as_chosen t net inverted) (exchanged x (logic_with_any_0 (design_of t m))))
    (fun_ext (same_choice t m net inverted means))
    (record {
      to = exchanged_refines (chosen t net inverted) (netlist_with_any_0 t net) (logic_with_any_0 (design_of t m)) plain.to;
      from = exchanged_refines (chosen t net inverted) (logic_with_any_0 (design_of t m)) (netlist_with_any_0 t net) plain.from;
    })
