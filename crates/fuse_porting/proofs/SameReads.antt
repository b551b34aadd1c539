-- Cells with fuses that are carried over read each other alike.
use Rattle.std.proofs.Common.{◌≡◌, ℕ, suc, ◌<◌, Bool, List, [], ◌∷◌, length, refl, ap, sym, subst, ◌∙◌, arith, inl, inr}
use Rattle.std.proofs.lemmas.Bool.{cases_Bool}
use Rattle.std.specs.List.{list_any, range_with_len}
use Rattle.device_logic.proofs.Runs.{any_same}
use Rattle.device_logic.specs.CellReads.{cell_reads, enable_reads, pairs_read, rest_reads, row_reads_cell}
use Rattle.pld_order.proofs.SameGraphs.{no_loop_same}
use Rattle.pld_order.specs.Graphs.{HasNoLoop}
use Rattle.pld_device.specs.Given.{enables_never, never_drives}
use Rattle.pld_device.specs.Laws.{IsDevice}
use Rattle.pld_device.specs.Reads.{is_never_true, row_reads}
use Rattle.pld_device.specs.Rows.{is_switched_on}
use Rattle.pld_device.specs.Table.{Table, cell_at, no_cell}
use Rattle.pld_device.specs.declared.carry.Carry.{Carry}
use Rattle.pld_device.specs.declared.cell.Cell.{Cell}
use Rattle.pld_device.specs.declared.enable.Enable.{Enable}
use Rattle.pld_device.specs.declared.enable.Enable.TheVariants.{Driven, PinLow, Released, Row}
use Rattle.fuse_porting.specs.SameArray.{HasSameArray, IsCarriedOver}
use Rattle.fuse_porting.proofs.CarriedLogics.{cell_same, stores_same, zeros_whole}

module _ (f t : Table) (a b : List Bool) (fd : IsDevice f) (td : IsDevice t) (same : HasSameArray f t) (over : IsCarriedOver f t a b) where
  never_alike : (row : ℕ) → row < t.rows → is_never_true t b row ≡ is_never_true f a row
  never_alike row within = elim (cases_Bool (is_switched_on f a row)) [
    | inl on ↦ rw (over.on row within, over.rows row within, on) refl
    | inr off ↦ rw (over.on row within, over.rows row within, off) (zeros_whole f.columns fd.sizes.columns_low)
  ]

  reads_alike : (row : ℕ) → row < t.rows → (pair : ℕ) → row_reads t b row pair ≡ row_reads f a row pair
  reads_alike row within pair = elim (cases_Bool (is_switched_on f a row)) [
    | inl on ↦ rw (over.on row within, over.rows row within, on) refl
    | inr off ↦ rw (over.on row within, over.rows row within, off, zeros_whole f.columns fd.sizes.columns_low) refl
  ]

  pairs_alike : (row : ℕ) → row < t.rows → (d pair : ℕ) (xs : List Carry) → pairs_read t b row d pair xs ≡ pairs_read f a row d pair xs
  pairs_alike row within d pair [] = refl
  pairs_alike row within d pair (x ∷ xs) = rw (reads_alike row within pair, pairs_alike row within d (suc pair) xs) refl

  pub row_alike : (row : ℕ) → row < t.rows → (d : ℕ) → row_reads_cell t b row d ≡ row_reads_cell f a row d
  row_alike row within d = pairs_alike row within d 0 t.pairs ∙ ap (pairs_read f a row d 0) (sym same.pairs)

  enable_alike : (c d : ℕ) → c < length t.cells → enable_reads t b (cell_at t c).enable d ≡ enable_reads f a (cell_at f c).enable d
  enable_alike c d within = by_enable (cell_at t c).enable refl ∙ ap (λ (cell : Cell). enable_reads f a cell.enable d) (cell_same f t a b fd td same over c)
    where
      by_enable : (e : Enable) → (cell_at t c).enable ≡ e → enable_reads t b e d ≡ enable_reads f a e d
      by_enable (Row row) is = row_alike row ((td.cells c no_cell within).enable_below row is) d
      by_enable (PinLow pin) is = refl
      by_enable Driven is = refl
      by_enable Released is = refl

  drives_alike : (c : ℕ) → c < length t.cells → never_drives t b c ≡ never_drives f a c
  drives_alike c within = by_enable (cell_at t c).enable refl ∙ ap (λ (cell : Cell). enables_never f a cell.enable) (cell_same f t a b fd td same over c)
    where
      by_enable : (e : Enable) → (cell_at t c).enable ≡ e → enables_never t b e ≡ enables_never f a e
      by_enable (Row row) is = never_alike row ((td.cells c no_cell within).enable_below row is)
      by_enable (PinLow pin) is = refl
      by_enable Driven is = refl
      by_enable Released is = refl

  rows_alike : (c d : ℕ) → c < length t.cells
      → list_any (λ row. row_reads_cell t b row d) (range_with_len (cell_at t c).first (cell_at t c).room)
      ≡ list_any (λ row. row_reads_cell f a row d) (range_with_len (cell_at f c).first (cell_at f c).room)
  rows_alike c d within =
      any_same (λ row. row_reads_cell t b row d) (λ row. row_reads_cell f a row d) (cell_at t c).first (cell_at t c).room
      (λ row low high. row_alike row (omega (arith, high, (td.cells c no_cell within).data_below)) d)
      ∙ ap (λ (cell : Cell). list_any (λ row. row_reads_cell f a row d) (range_with_len cell.first cell.room)) (cell_same f t a b fd td same over c)

  pub rests_alike : (c d : ℕ) → c < length t.cells → rest_reads t b c d ≡ rest_reads f a c d
  rests_alike c d within = rw (stores_same f t a b fd td same over c, drives_alike c within, enable_alike c d within, rows_alike c d within) refl

  pub cells_alike : (c d : ℕ) → c < length t.cells → cell_reads t b c d ≡ cell_reads f a c d
  cells_alike c d within =
      rw (stores_same f t a b fd td same over d, stores_same f t a b fd td same over c, drives_alike c within, enable_alike c d within, rows_alike c d within) refl

  -- where no cells are a loop with the one, none are with the other
  pub no_loop_too : HasNoLoop (length f.cells) (cell_reads f a) → HasNoLoop (length t.cells) (cell_reads t b)
  no_loop_too none =
      no_loop_same (length t.cells) (cell_reads f a) (cell_reads t b) (λ c d c_in d_in. sym (cells_alike c d c_in))
      (subst (λ n. HasNoLoop n (cell_reads f a)) (ap length same.cells) none)
