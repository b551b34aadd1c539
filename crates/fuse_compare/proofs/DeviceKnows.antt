-- What the rows of a device read is known.
use Rattle.std.proofs.Common.{◌≡◌, ℕ, zero, suc, ◌<◌, Bool, true, false, not, ◌&&◌, ◌==◌, List, [], ◌∷◌, length, get_or, Some, slice_get, refl, ap, sym, ◌∙◌, subst, arith, inl, inr, eq-eqb}
use Rattle.fuse_compare.proofs.Common.{list_any, range_with_len, and_parts, or_left, or_right, or_cases, true≢false, eqb-true, false_from_ne_true, get_or_from_slice_get, slice_get_within, Carry, Cell, Enable, Row, PinLow, Driven, Released, is_enable_pin, IsDevice, IsPair, stores, Table, cell_at, no_cell, own_pins, any_at, one_of, some_read, is_level_of, is_q_of, known_of, Knows, KnowsReads}
use Rattle.pld_device.specs.declared.carry.Carry.TheVariants as carry
use Rattle.pld_device.specs.Reads.{row_reads}

-- one of the cells passes
pub any_cell : (test : Cell → Bool) (cells : List Cell) (c : ℕ) → c < length cells → test (get_or cells c no_cell) ≡ true → list_any test cells ≡ true
any_cell test [] c within passes = absurd (omega (arith, within))
any_cell test (x ∷ cells) zero within passes = or_left (test x) (list_any test cells) passes
any_cell test (x ∷ cells) (suc c) within passes = or_right (test x) (list_any test cells) (any_cell test cells c (omega (arith, within)) passes)

-- none of them does
pub no_cell_passes : (test : Cell → Bool) (cells : List Cell) → ((c : ℕ) → c < length cells → test (get_or cells c no_cell) ≡ false) → list_any test cells ≡ false
no_cell_passes test [] none = refl
no_cell_passes test (x ∷ cells) none = rw (none 0 (omega arith), no_cell_passes test cells (λ c low. none (suc c) (omega (arith, low)))) refl

-- a cell that does
pub one_cell : (test : Cell → Bool) (cells : List Cell) → list_any test cells ≡ true → (c : ℕ) × (c < length cells) × (test (get_or cells c no_cell) ≡ true)
one_cell test [] some = absurd (true≢false (sym some))
one_cell test (x ∷ cells) some = elim (or_cases (test x) (list_any test cells) some) [
  | inl here ↦ (0, omega arith, here)
  | inr later ↦ let found = one_cell test cells later in (suc found.0, omega (arith, found.1), found.2)
]

pub enables_is : (k : ℕ) (e : Enable) → is_enable_pin k e ≡ true → e ≡ PinLow k
enables_is k (Row row) h = absurd (true≢false (sym h))
enables_is k (PinLow pin) h = ap (λ p. PinLow p) (eqb-true pin k h)
enables_is k Driven h = absurd (true≢false (sym h))
enables_is k Released h = absurd (true≢false (sym h))

module _ (t : Table) (laws : IsDevice t) (fuses : List Bool) where
  some_at : (test : Carry → Bool) (row pair : ℕ) (x : Carry) → row < t.rows → row_reads t fuses row pair ≡ true → slice_get t.pairs pair ≡ Some x → test x ≡ true
      → some_read t fuses test ≡ true
  some_at test row pair x within read found passes =
      let here : test (get_or t.pairs pair (carry.Pin 0)) ≡ true = ap test (get_or_from_slice_get t.pairs pair x (carry.Pin 0) found) ∙ passes in
      let inner : list_any (λ p. row_reads t fuses row p && test (get_or t.pairs p (carry.Pin 0))) (range_with_len 0 (length t.pairs)) ≡ true =
      any_at (λ p. row_reads t fuses row p && test (get_or t.pairs p (carry.Pin 0))) 0 (length t.pairs) pair (omega arith) (omega (arith, slice_get_within t.pairs pair x found)) (rw (read, here) refl) in
      any_at (λ r. list_any (λ p. row_reads t fuses r p && test (get_or t.pairs p (carry.Pin 0))) (range_with_len 0 (length t.pairs))) 0 t.rows row (omega arith) (omega (arith, within)) inner

  pub some_of : (test : Carry → Bool) → some_read t fuses test ≡ true → (pair : ℕ) × (pair < length t.pairs) × (test (get_or t.pairs pair (carry.Pin 0)) ≡ true)
  some_of test some =
      let row = one_of (λ r. list_any (λ p. row_reads t fuses r p && test (get_or t.pairs p (carry.Pin 0))) (range_with_len 0 (length t.pairs))) 0 t.rows some in
      let pair = one_of (λ p. row_reads t fuses row.0 p && test (get_or t.pairs p (carry.Pin 0))) 0 (length t.pairs) row.3 in
      (pair.0, omega (arith, pair.2), (and_parts (row_reads t fuses row.0 pair.0) (test (get_or t.pairs pair.0 (carry.Pin 0))) pair.3).1)

  knows : (row pair : ℕ) (x : Carry) → row < t.rows → row_reads t fuses row pair ≡ true → slice_get t.pairs pair ≡ Some x → Knows t fuses (known_of t fuses) x
  knows row pair (carry.Pin pin) within read found =
      or_left (some_read t fuses (is_level_of t fuses pin)) (list_any (λ (cell : Cell). is_enable_pin pin cell.enable) t.cells)
      (some_at (is_level_of t fuses pin) row pair (carry.Pin pin) within read found (eq-eqb pin pin refl))
  knows row pair (carry.Cell c) within read found = (
    λ register. some_at (is_q_of t fuses c) row pair (carry.Cell c) within read found (rw (eq-eqb c c refl, register) refl),
    λ plain. or_left (some_read t fuses (is_level_of t fuses (cell_at t c).pin)) (list_any (λ (cell : Cell). is_enable_pin (cell_at t c).pin cell.enable) t.cells)
        (some_at (is_level_of t fuses (cell_at t c).pin) row pair (carry.Cell c) within read found (rw (plain, eq-eqb (cell_at t c).pin (cell_at t c).pin refl) refl)),
  )

  -- no pair carries the level of a register's pin, and none enables
  no_level : (c : ℕ) → c < length t.cells → stores t fuses c ≡ true → (x : Carry) → IsPair t x → is_level_of t fuses (cell_at t c).pin x ≡ true → ⊥
  no_level c within register (carry.Pin p) law is = law.1 c no_cell within (sym (eqb-true p (cell_at t c).pin is))
  no_level c within register (carry.Cell d) law is =
      let parts = and_parts (not (stores t fuses d)) ((cell_at t d).pin == (cell_at t c).pin) is in
      let same : d ≡ c = (own_pins t laws).apart d c law within (eqb-true (cell_at t d).pin (cell_at t c).pin parts.1) in
      true≢false (sym parts.0 ∙ ap not (ap (stores t fuses) same ∙ register))

  register_pin : (c : ℕ) → c < length t.cells → stores t fuses c ≡ true → (known_of t fuses).pins (cell_at t c).pin ≡ true → ⊥
  register_pin c within register known =
      elim (or_cases (some_read t fuses (is_level_of t fuses (cell_at t c).pin)) (list_any (λ (cell : Cell). is_enable_pin (cell_at t c).pin cell.enable) t.cells) known) [
        | inl read ↦
            let found = some_of (is_level_of t fuses (cell_at t c).pin) read in
            no_level c within register (get_or t.pairs found.0 (carry.Pin 0)) (laws.pairs found.0 (carry.Pin 0) found.1) found.2
        | inr enables ↦
            let found = one_cell (λ (cell : Cell). is_enable_pin (cell_at t c).pin cell.enable) t.cells enables in
            (laws.cells c no_cell within).enables_none found.0 no_cell found.1 (enables_is (cell_at t c).pin (get_or t.cells found.0 no_cell).enable found.2)
      ]

  q_is : (c : ℕ) (x : Carry) → IsPair t x → is_q_of t fuses c x ≡ true → (c < length t.cells) × (stores t fuses c ≡ true)
  q_is c (carry.Pin p) law is = absurd (true≢false (sym is))
  q_is c (carry.Cell d) law is =
      let parts = and_parts (d == c) (stores t fuses d) is in
      let same : d ≡ c = eqb-true d c parts.0 in
      (subst (λ n. n < length t.cells) same law, subst (λ n. stores t fuses n ≡ true) same parts.1)

  pub knows_reads : KnowsReads t fuses (known_of t fuses)
  knows_reads = record {
    rows = knows;
    enables = λ c pin within is.
        or_right (some_read t fuses (is_level_of t fuses pin)) (list_any (λ (cell : Cell). is_enable_pin pin cell.enable) t.cells)
        (any_cell (λ (cell : Cell). is_enable_pin pin cell.enable) t.cells c within (rw is (eq-eqb pin pin refl)));
    no_register = λ c within register. false_from_ne_true ((known_of t fuses).pins (cell_at t c).pin) (register_pin c within register);
    registers = λ c is.
        let found = some_of (is_q_of t fuses c) is in
        q_is c (get_or t.pairs found.0 (carry.Pin 0)) (laws.pairs found.0 (carry.Pin 0) found.1) found.2;
  }
