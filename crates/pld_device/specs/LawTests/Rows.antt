-- Tests of the ends of the rows of a table, and what they show (private: for the laws of tables).
use Rattle.std.proofs.Common.{◌≡◌, ℕ, suc, ◌≤◌, Bool, true, false, Option, Some, None, List, [], ◌∷◌, refl, arith}
use Rattle.std.specs.Prelude.{nat_lt}
use Rattle.std.specs.List.{list_all}
use Rattle.std.proofs.lemmas.Bool.{and_parts}
use Rattle.std.proofs.lemmas.Bool.Decides.{nat_tests}
use Rattle.pld_device.specs.declared.cell.Cell.{Cell}
use Rattle.pld_device.specs.declared.enable.Enable.{Enable}
use Rattle.pld_device.specs.declared.enable.Enable.TheVariants.{Row, PinLow, Driven, Released}
use Rattle.pld_device.specs.Table.{Table}
use Rattle.pld_device.specs.Laws.{is_enable_row, is_data_row, is_row, cell_uses}
use Rattle.pld_device.specs.LawTests.Cells.{cell_test, cell_rows_test, is_enable_of, cell_parts}

-- there is no row, or it is in the array
abbrev pub row_below : Option ℕ → ℕ → Bool
row_below None rows = true
row_below (Some row) rows = nat_lt row rows

-- rows past the array have no use
no_enable : (t : Table) (enable : Enable) (row : ℕ) → is_enable_of t enable ≡ true → t.rows ≤ row → is_enable_row enable row ≡ false
no_enable t (Row other) row test past = grind (arith, nat_tests)
no_enable t (PinLow pin) row test past = refl
no_enable t Driven row test past = refl
no_enable t Released row test past = refl

no_data : (t : Table) (cell : Cell) (row : ℕ) → cell_rows_test t cell ≡ true → t.rows ≤ row → is_data_row cell row ≡ false
no_data t cell row test past = grind (arith, nat_tests)

pub no_cell_uses : (t : Table) (c : ℕ) (cells : List Cell) (row : ℕ) → list_all (cell_test t) cells ≡ true → t.rows ≤ row → cell_uses c cells row ≡ []
no_cell_uses t c [] row test past = refl
no_cell_uses t c (cell ∷ cells) row test past =
    let parts = and_parts (cell_test t cell) (list_all (cell_test t) cells) test in
    let this = cell_parts t cell parts.0 in
    rw (no_enable t cell.enable row this.enable past, no_data t cell row this.rows past) (no_cell_uses t (suc c) cells row parts.1 past)

pub no_row : (o : Option ℕ) (rows row : ℕ) → row_below o rows ≡ true → rows ≤ row → is_row o row ≡ false
no_row None rows row test past = refl
no_row (Some other) rows row test past = grind (arith, nat_tests)
