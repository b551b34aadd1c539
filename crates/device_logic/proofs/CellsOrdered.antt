-- A device's cells in an order in which each reads earlier ones alone are an order that the machine takes.
use Rattle.std.proofs.Common.{◌≡◌, ℕ, zero, suc, ◌+◌, ◌<◌, ◌≤◌, Bool, true, false, not, ◌==◌, eqb, List, [], ◌∷◌, map, length, drop, get_or, Some, slice_get, refl, ap, sym, ◌∙◌, subst, arith, inl, inr}
use Rattle.device_logic.proofs.Common.{IsDistinct, cases_Bool, cases_lt, eqb-true, eq-eqb, or_cases, or_left, or_right, true≢false, false_from_ne_true, get_or_past, list_any_at, get_or_from_slice_get, slice_get_within, is_on, Levels, Cell, Table, cell_at, no_cell, stores, device_logic, is_free_pin, Slot, DifferOnlyIn, SameAt, InRange, HasPins, HasSlots, ResetsWithoutQ, IsOrdered, IsDetermined, has, IsOrder, cell_reads, device_lookups}
use Rattle.std.proofs.Math.Path.{fun_ext}
use Rattle.std.proofs.lemmas.Map.Keys.{apart_from_distinct}
use Rattle.pld_base.specs.Logic.{Logic}
use Rattle.pld_machine.specs.declared.logic.Slot.TheVariants as slot
use Rattle.pld_machine.specs.Lookups.{Lookups, sets_pin, sets_node, logic_of}
use Rattle.pld_machine.proofs.OneRun.{is_determined}
use Rattle.pld_machine.proofs.Ordered.{setter_of_pin, get_behind}
use Rattle.device_logic.proofs.FreeReads.{ReadsFreePins, free_pin}
use Rattle.device_logic.proofs.ReadCells.{cell_reads-rest}
use Rattle.device_logic.proofs.SameCells.{cell_same}

-- a list of cells sets no node
no_nodes : (cells : List ℕ) (n : ℕ) → sets_node (map (λ c. slot.Cell c) cells) n ≡ false
no_nodes [] n = refl
no_nodes (c ∷ cells) n = no_nodes cells n

-- a device's logic except for what is a node
with_nodes : Table → List Bool → (ℕ → Bool) → Logic
with_nodes t fuses nodes = record (device_logic t fuses) { is_node = nodes }

-- the machine's logic is the device's
pub same_logic : (t : Table) (fuses : List Bool) (order : List ℕ) → logic_of (device_lookups t fuses order) ≡ device_logic t fuses
unfolding with_nodes
same_logic t fuses order = ap (with_nodes t fuses) (fun_ext (λ n. no_nodes order n))

-- the slots are cells
pub cell_slot : (cells : List ℕ) (i : ℕ) (s : Slot) → slice_get (map (λ c. slot.Cell c) cells) i ≡ Some s → (c : ℕ) × (slice_get cells i ≡ Some c) × (s ≡ slot.Cell c)
cell_slot [] i s found = absurd cc
cell_slot (c ∷ cells) zero s found = (c, refl, cc)
cell_slot (c ∷ cells) (suc i) s found = cell_slot cells i s found

pub same_cell : (c d : ℕ) → ◌≡◌ {A = Slot} (slot.Cell c) (slot.Cell d) → c ≡ d
same_cell c d e = cc

pin_is_set : (m : Lookups) (cells : List ℕ) (c : ℕ) → has cells c ≡ true → sets_pin m (map (λ d. slot.Cell d) cells) (m.pin c) ≡ true
pin_is_set m [] c has_it = absurd (true≢false (sym has_it))
pin_is_set m (d ∷ cells) c has_it =
    elim (or_cases (c == d) (has cells c) has_it) [
      | inl here ↦ or_left (m.pin d == m.pin c) (sets_pin m (map (λ e. slot.Cell e) cells) (m.pin c)) (eq-eqb (m.pin d) (m.pin c) (ap m.pin (sym (eqb-true c d here))))
      | inr later ↦ or_right (m.pin d == m.pin c) (sets_pin m (map (λ e. slot.Cell e) cells) (m.pin c)) (pin_is_set m cells c later)
    ]

has_at : (numbers : List ℕ) (i n : ℕ) → slice_get numbers i ≡ Some n → has numbers n ≡ true
has_at numbers i n found =
    list_any_at (λ x. n == x) numbers i 0 (slice_get_within numbers i n found) (eq-eqb n (get_or numbers i 0) (sym (get_or_from_slice_get numbers i n 0 found)))

-- a number that is once has one place
one_place : (numbers : List ℕ) (i j n : ℕ) → IsDistinct eqb numbers → slice_get numbers i ≡ Some n → slice_get numbers j ≡ Some n → i ≡ j
one_place numbers i j n once here there =
    elim (cases_lt i j) [
      | inl less ↦ absurd (twice i j n less here there)
      | inr more ↦ elim (cases_lt j i) [
        | inl less ↦ absurd (twice j i n less there here)
        | inr also ↦ omega arith
      ]
    ]
  where
    twice : (a b x : ℕ) → a < b → slice_get numbers a ≡ Some x → slice_get numbers b ≡ Some x → ⊥
    twice a b x less first second =
        true≢false
        (sym (eq-eqb (get_or numbers a 0) (get_or numbers b 0) (get_or_from_slice_get numbers a x 0 first ∙ sym (get_or_from_slice_get numbers b x 0 second)))
        ∙ apart_from_distinct eqb numbers a b 0 once less (slice_get_within numbers b x second))

-- a cell at this place or after it whose pin this is
record SetLater (t : Table) (order : List ℕ) (i pin : ℕ) : Type 0 where
  at : ℕ
  cell : ℕ
  later : i ≤ at
  is : slice_get order at ≡ Some cell
  same : (cell_at t cell).pin ≡ pin

module _ (t : Table) (fuses : List Bool) (order : List ℕ) (free : ReadsFreePins t fuses) (ordered : IsOrder (length t.cells) (cell_reads t fuses) order) where
  pub in_cells : (j d : ℕ) → slice_get order j ≡ Some d → d < length t.cells
  in_cells j d there = ordered.inside d (has_at order j d there)

  set_later : (i pin : ℕ) → sets_pin (device_lookups t fuses order) (drop i (device_lookups t fuses order).slots) pin ≡ true → SetLater t order i pin
  set_later i pin sets =
      let setter = setter_of_pin (device_lookups t fuses order) (drop i (device_lookups t fuses order).slots) pin sets in
      let there = cell_slot order (i + setter.at) (slot.Cell setter.cell) (sym (get_behind (device_lookups t fuses order).slots i setter.at) ∙ setter.is) in
      record {
        at = i + setter.at;
        cell = setter.cell;
        later = omega arith;
        is = there.1 ∙ ap (λ d. Some d) (sym (same_cell setter.cell there.0 there.2));
        same = setter.pin;
      }

  -- no slot sets a pin without a cell
  pub unset_free : (i pin : ℕ) → is_free_pin t pin ≡ true → sets_pin (device_lookups t fuses order) (drop i (device_lookups t fuses order).slots) pin ≡ false
  unset_free i pin no_cells = false_from_ne_true _ (λ sets.
      let setter = set_later i pin sets in
      free_pin t pin no_cells setter.cell (in_cells setter.at setter.cell setter.is) setter.same)

  -- none from a cell's place on sets the pin of one that it reads
  unset_read : (i c d : ℕ) → slice_get order i ≡ Some c → cell_reads t fuses c d ≡ true → sets_pin (device_lookups t fuses order) (drop i (device_lookups t fuses order).slots) (cell_at t d).pin ≡ false
  unset_read i c d found reads = false_from_ne_true _ (λ sets. refuted (set_later i (cell_at t d).pin sets))
    where
      apart : (s : SetLater t order i (cell_at t d).pin) → d < length t.cells → s.cell ≡ d
      apart s inside = free.pins.apart s.cell d (in_cells s.at s.cell s.is) inside s.same

      behind : (s : SetLater t order i (cell_at t d).pin) → s.cell ≡ d → ⊥
      behind s same =
          let none : cell_reads t fuses (get_or order i 0) (get_or order s.at 0) ≡ false = ordered.earlier i s.at s.later (slice_get_within order s.at s.cell s.is) in
          let first : get_or order i 0 ≡ c = get_or_from_slice_get order i c 0 found in
          let second : get_or order s.at 0 ≡ d = get_or_from_slice_get order s.at s.cell 0 s.is ∙ same in
          true≢false (sym reads ∙ (rw (← first, ← second) none))

      refuted : SetLater t order i (cell_at t d).pin → ⊥
      refuted s =
          elim (cases_lt d (length t.cells)) [
            | inl inside ↦ behind s (apart s inside)
            | inr past ↦
                let none : (cell_at t d).pin ≡ 0 = ap (λ (x : Cell). x.pin) (get_or_past t.cells d no_cell past) in
                let first : 1 ≤ (cell_at t s.cell).pin = free.pins.first s.cell (in_cells s.at s.cell s.is) in
                omega (arith, none, first, s.same)
          ]

  -- one cell of the order, at two points that differ in the pins of its slot and later ones alone
  same_at : (i c : ℕ) → slice_get order i ≡ Some c → (a b : Levels) → DifferOnlyIn (device_lookups t fuses order) (drop i (device_lookups t fuses order).slots) a b → SameAt (device_lookups t fuses order) (slot.Cell c) a b
  same_at i c found a b differ =
      cell_same t fuses free c a b (in_cells i c found)
      (λ pin pin_free. differ.pins pin (unset_free i pin pin_free))
      (λ d reads. elim (cases_Bool (stores t fuses d)) [
        | inl kept ↦ rw kept (ap (λ q. not (is_on q d)) differ.q)
        | inr plain ↦ rw plain (differ.pins (cell_at t d).pin (unset_read i c d found (cell_reads-rest t fuses c d plain reads)))
      ])
      (λ kept. ap (λ q. is_on q c) differ.q)

  pub has_slots : HasSlots (device_lookups t fuses order)
  has_slots = record {
    range = λ i s found.
        let here = cell_slot order i s found in
        subst (InRange (device_lookups t fuses order)) (sym here.2) (in_cells i here.0 here.1);
    each = λ c within. pin_is_set (device_lookups t fuses order) order c (ordered.each c within);
    once = λ i j s here there.
        let first = cell_slot order i s here in
        let second = cell_slot order j s there in
        let same : first.0 ≡ second.0 = same_cell first.0 second.0 (sym first.2 ∙ second.2) in
        one_place order i j first.0 ordered.once first.1 (second.1 ∙ ap (λ d. Some d) (sym same));
  }

  pub has_pins : HasPins (device_lookups t fuses order)
  has_pins = record {
    cells = free.pins.cells;
    first = free.pins.first;
    last = free.pins.last;
    no_clock = free.pins.no_clock;
    apart = free.pins.apart;
    clock = free.pins.clock;
  }

  -- the machine takes the order, where resets depend on no Q
  pub is_ordered : ResetsWithoutQ (device_lookups t fuses order) → IsOrdered (device_lookups t fuses order)
  is_ordered resets = record {
    has_pins = has_pins;
    has_slots = has_slots;
    reads = λ i s found a b differ.
        let here = cell_slot order i s found in
        subst (λ x. SameAt (device_lookups t fuses order) x a b) (sym here.2) (same_at i here.0 here.1 a b differ);
    resets = resets;
  }

-- it settles, steps and runs in exactly one way
pub determined : (t : Table) (fuses : List Bool) (order : List ℕ) → IsOrdered (device_lookups t fuses order) → IsDetermined (device_logic t fuses)
determined t fuses order ordered = subst IsDetermined (same_logic t fuses order) (is_determined (device_lookups t fuses order) ordered)
