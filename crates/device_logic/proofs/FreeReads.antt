-- Pins that rows and enables read, and that no cell is on.
use Rattle.std.proofs.Common.{◌≡◌, ◌≢◌, ℕ, zero, suc, ◌<◌, Bool, true, false, not, ◌==◌, List, [], ◌∷◌, map, length, get_or, Some, slice_get, refl, ap, sym, ◌∙◌, subst, arith, ne_eqb}
use Rattle.device_logic.proofs.Common.{list_any, eq-eqb, or_left, or_right, true≢false, get_or_from_slice_get, slice_get_within, Cell, Enable, Row, PinLow, Driven, Released, Table, IsDataRow, cell_at, no_cell, HasOwnPins, cell_pins, row_reads, never_drives, is_free_pin, IsOneLayer, EnableReadsGiven, IsPair, IsDevice}
use Rattle.pld_device.specs.declared.carry.Carry.TheVariants as carry
use Rattle.pld_device.specs.RowLaws.{HasPairs}
use Rattle.pld_device.proofs.OwnPins.{own_pins, has_pairs}

-- no cell is on a pin whose level the row reads
abbrev pub RowReadsFree : Table → List Bool → ℕ → Type 0
RowReadsFree t fuses row =
    (pair pin : ℕ) → row_reads t fuses row pair ≡ true → slice_get t.pairs pair ≡ Some (carry.Pin pin)
    → is_free_pin t pin ≡ true

abbrev pub EnableReadsFree : Table → List Bool → Enable → Type 0
EnableReadsFree t fuses (Row row) = RowReadsFree t fuses row
EnableReadsFree t fuses (PinLow pin) = is_free_pin t pin ≡ true
EnableReadsFree t fuses Driven = Unit {0}
EnableReadsFree t fuses Released = Unit {0}

-- so it is for all enables, and for the data rows of cells that may drive their pins
pub record ReadsFreePins (t : Table) (fuses : List Bool) : Type 0 where
  pub pins : HasOwnPins t
  pub columns : HasPairs t
  pub enables : (c : ℕ) → c < length t.cells → EnableReadsFree t fuses (cell_at t c).enable
  pub data_rows : (c row : ℕ) → c < length t.cells → never_drives t fuses c ≡ false → IsDataRow t c row → RowReadsFree t fuses row

-- a cell's pin isn't free
pin_listed : (cells : List Cell) (c : ℕ) → c < length cells → list_any (λ other. other == (get_or cells c no_cell).pin) (map (λ (cell : Cell). cell.pin) cells) ≡ true
pin_listed [] c within = absurd (omega arith)
pin_listed (cell ∷ cells) zero within = or_left (cell.pin == cell.pin) (list_any (λ other. other == cell.pin) (map (λ (x : Cell). x.pin) cells)) (eq-eqb cell.pin cell.pin refl)
pin_listed (cell ∷ cells) (suc c) within =
    or_right (cell.pin == (get_or cells c no_cell).pin) (list_any (λ other. other == (get_or cells c no_cell).pin) (map (λ (x : Cell). x.pin) cells))
    (pin_listed cells c (omega arith))

pub free_pin : (t : Table) (pin : ℕ) → is_free_pin t pin ≡ true → (c : ℕ) → c < length t.cells → (cell_at t c).pin ≢ pin
free_pin t pin free c within = λ same.
    let taken : list_any (λ other. other == pin) (cell_pins t) ≡ true = subst (λ p. list_any (λ other. other == p) (cell_pins t) ≡ true) same (pin_listed t.cells c within) in
    true≢false (sym free ∙ ap not taken)

-- a pin that is no cell's is free
none_listed : (cells : List Cell) (pin : ℕ) → ((c : ℕ) → c < length cells → (get_or cells c no_cell).pin ≢ pin) → list_any (λ other. other == pin) (map (λ (cell : Cell). cell.pin) cells) ≡ false
none_listed [] pin none = refl
none_listed (cell ∷ cells) pin none =
    rw (ne_eqb cell.pin pin (none 0 (omega arith)), none_listed cells pin (λ c within. none (suc c) (omega (arith, within)))) refl

free_from : (t : Table) (pin : ℕ) → ((c : ℕ) → c < length t.cells → (cell_at t c).pin ≢ pin) → is_free_pin t pin ≡ true
free_from t pin none = ap not (none_listed t.cells pin none)

-- a device's pairs and enables name pins without cells alone
module _ (t : Table) (laws : IsDevice t) (fuses : List Bool) where
  pub rows_free : (row : ℕ) → RowReadsFree t fuses row
  rows_free row pair pin reads found =
      let law : IsPair t (carry.Pin pin) = subst (IsPair t) (get_or_from_slice_get t.pairs pair (carry.Pin pin) (carry.Pin 0) found) (laws.pairs pair (carry.Pin 0) (slice_get_within t.pairs pair (carry.Pin pin) found)) in
      free_from t pin (λ c within. law.1 c no_cell within)

  enable_free : (c : ℕ) → c < length t.cells → (e : Enable) → (cell_at t c).enable ≡ e → EnableReadsFree t fuses e
  enable_free c within (Row row) is = rows_free row
  enable_free c within (PinLow pin) is =
      free_from t pin (λ d d_in same. (laws.cells d no_cell d_in).enables_none c no_cell within (is ∙ ap (λ p. PinLow p) (sym same)))
  enable_free c within Driven is = tt
  enable_free c within Released is = tt

  pub device_reads_free : ReadsFreePins t fuses
  device_reads_free = record {
    pins = own_pins t laws;
    columns = has_pairs t laws;
    enables = λ c within. enable_free c within (cell_at t c).enable refl;
    data_rows = λ c row within drives here. rows_free row;
  }

-- cells that wait for no other read free pins
pub layer_reads_free : (t : Table) (fuses : List Bool) → IsOneLayer t fuses → ReadsFreePins t fuses
layer_reads_free t fuses layer = record {
  pins = layer.pins;
  columns = layer.columns;
  enables = λ c within. by_enable (cell_at t c).enable (layer.enables c within);
  data_rows = λ c row within drives here pair pin reads found. layer.data_rows c row within drives here pair (carry.Pin pin) reads found;
}
  where
    by_enable : (e : Enable) → EnableReadsGiven t fuses e → EnableReadsFree t fuses e
    by_enable (Row row) given = λ pair pin reads found. given pair (carry.Pin pin) reads found
    by_enable (PinLow pin) free = free
    by_enable Driven free = tt
    by_enable Released free = tt
