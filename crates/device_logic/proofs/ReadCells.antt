-- What a cell reads: a row that reads the pair of a cell reads the cell.
use Rattle.std.proofs.Common.{◌≡◌, ℕ, zero, suc, ◌+◌, ◌<◌, Bool, true, false, ◌&&◌, List, [], ◌∷◌, length, get_or, Some, slice_get, refl, ap, sym, subst, arith, inl, inr}
use Rattle.device_logic.proofs.Common.{and_parts, eqb-true, eq-eqb, or_cases, or_left, or_right, true≢false, slice_get-get_or, Carry, Table, IsDataRow, cell_at, stores, never_drives, row_reads, carries_cell, pair_reads, pairs_read, row_reads_cell, enable_reads, data_reads, rest_reads, cell_reads}
use Rattle.pld_device.specs.declared.carry.Carry.TheVariants as carry
use Rattle.device_logic.proofs.Runs.{any_at}

same_carry : (x y : Carry) → Some x ≡ Some y → x ≡ y
same_carry x y e = cc

-- some pair that is read and carries the cell
pub pairs_read-at : (t : Table) (fuses : List Bool) (row d from k pair : ℕ) (carries : List Carry) (x : Carry) → k ≡ from + pair → slice_get carries pair ≡ Some x → row_reads t fuses row k ≡ true → carries_cell d x ≡ true → pairs_read t fuses row d from carries ≡ true
pairs_read-at t fuses row d from k pair [] x place found reads level = absurd cc
pairs_read-at t fuses row d from k zero (y ∷ carries) x place found reads level =
    let here : k ≡ from = omega arith in
    or_left (row_reads t fuses row from && carries_cell d y) (pairs_read t fuses row d (suc from) carries)
    (rw (← here, same_carry y x found, reads, level) refl)
pairs_read-at t fuses row d from k (suc pair) (y ∷ carries) x place found reads level =
    or_right (row_reads t fuses row from && carries_cell d y) (pairs_read t fuses row d (suc from) carries)
    (pairs_read-at t fuses row d (suc from) k pair carries x (omega arith) found reads level)

pub row_reads_cell-at : (t : Table) (fuses : List Bool) (row pair d : ℕ) → slice_get t.pairs pair ≡ Some (carry.Cell d) → row_reads t fuses row pair ≡ true → row_reads_cell t fuses row d ≡ true
row_reads_cell-at t fuses row pair d found reads =
    pairs_read-at t fuses row d 0 pair pair t.pairs (carry.Cell d) (omega arith) found reads (eq-eqb d d refl)

-- a cell that may drive its pin reads what its enable and its data rows read
pub rest_reads-enable : (t : Table) (fuses : List Bool) (c d : ℕ) → never_drives t fuses c ≡ false → enable_reads t fuses (cell_at t c).enable d ≡ true → rest_reads t fuses c d ≡ true
rest_reads-enable t fuses c d drives reads = rw (drives, reads) refl

pub rest_reads-data : (t : Table) (fuses : List Bool) (c row d : ℕ) → never_drives t fuses c ≡ false → stores t fuses c ≡ false → IsDataRow t c row → row_reads_cell t fuses row d ≡ true → rest_reads t fuses c d ≡ true
rest_reads-data t fuses c row d drives plain here reads =
    rw drives (
    or_right (enable_reads t fuses (cell_at t c).enable d) (data_reads t fuses c d)
    (rw plain (any_at (λ k. row_reads_cell t fuses k d) (cell_at t c).first (cell_at t c).room row here.0 here.1 reads)))

-- a cell waits for a combinational one that it reads
pub cell_reads-rest : (t : Table) (fuses : List Bool) (c d : ℕ) → stores t fuses d ≡ false → rest_reads t fuses c d ≡ true → cell_reads t fuses c d ≡ true
cell_reads-rest t fuses c d plain reads = rw (plain, reads) refl

-- no pair that is read carries the cell
pub pairs_read-none : (t : Table) (fuses : List Bool) (row d from : ℕ) (carries : List Carry) → ((k pair : ℕ) → k ≡ from + pair → pair < length carries → (row_reads t fuses row k && carries_cell d (get_or carries pair (carry.Pin 0))) ≡ false) → pairs_read t fuses row d from carries ≡ false
pairs_read-none t fuses row d from [] none = refl
pairs_read-none t fuses row d from (x ∷ carries) none =
    rw (none from 0 (omega arith) (omega arith), pairs_read-none t fuses row d (suc from) carries (λ k pair place low. none k (suc pair) (omega (arith, place)) (omega (arith, low)))) refl

-- a row reads a cell exactly if it reads a pair that carries it
pub row_reads_cell-from : (t : Table) (fuses : List Bool) (row d pair : ℕ) → pair < length t.pairs → pair_reads t fuses row d pair ≡ true → row_reads_cell t fuses row d ≡ true
row_reads_cell-from t fuses row d pair low on =
    let parts = and_parts (row_reads t fuses row pair) (carries_cell d (get_or t.pairs pair (carry.Pin 0))) on in
    pairs_read-at t fuses row d 0 pair pair t.pairs (get_or t.pairs pair (carry.Pin 0)) (omega arith) (slice_get-get_or t.pairs pair (carry.Pin 0) low) parts.0 parts.1

pub row_reads_cell-none : (t : Table) (fuses : List Bool) (row d : ℕ) → ((pair : ℕ) → pair < length t.pairs → pair_reads t fuses row d pair ≡ false) → row_reads_cell t fuses row d ≡ false
row_reads_cell-none t fuses row d none =
    pairs_read-none t fuses row d 0 t.pairs (λ k pair place low. let same : k ≡ pair = omega (arith, place) in rw same (none pair low))

-- a pair that the row reads and that carries the cell, among pairs from a number on
record PairFrom (t : Table) (fuses : List Bool) (row d from : ℕ) (carries : List Carry) : Type 0 where
  pair : ℕ
  place : ℕ
  behind : place ≡ from + pair
  carried : slice_get carries pair ≡ Some (carry.Cell d)
  reads : row_reads t fuses row place ≡ true

cell_carried : (d : ℕ) (x : Carry) → carries_cell d x ≡ true → x ≡ carry.Cell d
cell_carried d (carry.Pin pin) carries = absurd (true≢false (sym carries))
cell_carried d (carry.Cell c) carries = ap (λ e. carry.Cell e) (eqb-true c d carries)

pair_from : (t : Table) (fuses : List Bool) (row d from : ℕ) (carries : List Carry) → pairs_read t fuses row d from carries ≡ true → PairFrom t fuses row d from carries
pair_from t fuses row d from [] reads = absurd (true≢false (sym reads))
pair_from t fuses row d from (x ∷ carries) reads =
    elim (or_cases (row_reads t fuses row from && carries_cell d x) (pairs_read t fuses row d (suc from) carries) reads) [
      | inl here ↦
          let parts = and_parts (row_reads t fuses row from) (carries_cell d x) here in
          record { pair = 0; place = from; behind = omega arith; carried = ap (λ y. Some y) (cell_carried d x parts.1); reads = parts.0 }
      | inr later ↦
          let found = pair_from t fuses row d (suc from) carries later in
          record { pair = suc found.pair; place = found.place; behind = omega (arith, found.behind); carried = found.carried; reads = found.reads }
    ]

-- the pair by which a row reads a cell
pub record ReadPair (t : Table) (fuses : List Bool) (row d : ℕ) : Type 0 where
  pub pair : ℕ
  pub carried : slice_get t.pairs pair ≡ Some (carry.Cell d)
  pub reads : row_reads t fuses row pair ≡ true

pub row_reads_cell-pair : (t : Table) (fuses : List Bool) (row d : ℕ) → row_reads_cell t fuses row d ≡ true → ReadPair t fuses row d
row_reads_cell-pair t fuses row d reads =
    let found = pair_from t fuses row d 0 t.pairs reads in
    let place : found.place ≡ found.pair = omega (arith, found.behind) in
    record { pair = found.pair; carried = found.carried; reads = subst (λ k. row_reads t fuses row k ≡ true) place found.reads }
