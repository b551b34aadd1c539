-- The slot of each signal of a netlist, and the signal of each slot.
use Rattle.std.proofs.Common.{◌≡◌, ℕ, zero, suc, ◌+◌, ◌-◌, ◌<◌, ◌≤◌, nat_lt, List, [], ◌∷◌, map, length, Some, slice_get, refl, ap, ◌∙◌, subst, arith, inl, inr}
use Rattle.source_machine.proofs.Common.{option_map, cases_Bool, lt-ltb, le-ltb, ltb-true, ltb-false, slice_get-map, Slot, Table, signal_slot}
use Rattle.pld_machine.specs.declared.logic.Slot.TheVariants as slot

-- ---- the slot of a signal

pub cell_slot : (t : Table) (c : ℕ) → c < length t.cells → signal_slot t c ≡ slot.Cell c
cell_slot t c within = rw (lt-ltb c (length t.cells) within) refl

pub node_slot : (t : Table) (n : ℕ) → signal_slot t (length t.cells + n) ≡ slot.Node n
node_slot t n =
    let behind : length t.cells + n - length t.cells ≡ n = omega arith in
    rw (le-ltb (length t.cells + n) (length t.cells) (omega arith), behind) refl

-- a signal by its slot
pub record IsCellSignal (t : Table) (v c : ℕ) : Type 0 where
  pub is : v ≡ c
  pub within : c < length t.cells

pub of_cell_slot : (t : Table) (v c : ℕ) → signal_slot t v ≡ slot.Cell c → IsCellSignal t v c
of_cell_slot t v c e =
    elim (cases_Bool (nat_lt v (length t.cells))) [
      | inl less ↦
          let same : v ≡ c = same_cell v c (rw less at e) in
          record { is = same; within = subst (λ x. x < length t.cells) same (ltb-true v (length t.cells) less) }
      | inr more ↦ absurd (not_cell (v - length t.cells) c (rw more at e))
    ]
  where
    same_cell : (a b : ℕ) → ◌≡◌ {A = Slot} (slot.Cell a) (slot.Cell b) → a ≡ b
    same_cell a b e = cc

    not_cell : (a b : ℕ) → ◌≡◌ {A = Slot} (slot.Node a) (slot.Cell b) → ⊥
    not_cell a b e = absurd cc

pub of_node_slot : (t : Table) (v n : ℕ) → signal_slot t v ≡ slot.Node n → v ≡ length t.cells + n
of_node_slot t v n e =
    elim (cases_Bool (nat_lt v (length t.cells))) [
      | inl less ↦ absurd (not_node v n (rw less at e))
      | inr more ↦
          let same : v - length t.cells ≡ n = same_node (v - length t.cells) n (rw more at e) in
          let past : length t.cells ≤ v = ltb-false v (length t.cells) more in
          omega (arith, same, past)
    ]
  where
    same_node : (a b : ℕ) → ◌≡◌ {A = Slot} (slot.Node a) (slot.Node b) → a ≡ b
    same_node a b e = cc

    not_node : (a b : ℕ) → ◌≡◌ {A = Slot} (slot.Cell a) (slot.Node b) → ⊥
    not_node a b e = absurd cc

-- ---- slots by their places

pub slot_at : (t : Table) (order : List ℕ) (i v : ℕ) → slice_get order i ≡ Some v → slice_get (map (signal_slot t) order) i ≡ Some (signal_slot t v)
slot_at t order i v found = slice_get-map (signal_slot t) order i ∙ ap (λ o. option_map (signal_slot t) o) found

pub record SignalAt (t : Table) (order : List ℕ) (i : ℕ) (s : Slot) : Type 0 where
  pub signal : ℕ
  pub is : slice_get order i ≡ Some signal
  pub slot : signal_slot t signal ≡ s

pub signal_at : (t : Table) (order : List ℕ) (i : ℕ) (s : Slot) → slice_get (map (signal_slot t) order) i ≡ Some s → SignalAt t order i s
signal_at t [] i s found = absurd cc
signal_at t (v ∷ order) zero s found = record { signal = v; is = refl; slot = same_some (signal_slot t v) s found }
  where
    same_some : (a b : Slot) → Some a ≡ Some b → a ≡ b
    same_some a b e = cc
signal_at t (v ∷ order) (suc i) s found = let rest = signal_at t order i s found in record { signal = rest.signal; is = rest.is; slot = rest.slot }
