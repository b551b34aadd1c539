-- Tests that compute over a table, one a law, and that show its laws (this project's rule). Their
-- proofs are here and not in proofs/, since a device's `ghost` law reaches only specs/.
pub mod Cells
pub mod Controls
pub mod FuseLists
pub mod Lists
pub mod Rows
use Rattle.std.proofs.Common.{◌≡◌, ℕ, Bool, true, ◌&&◌, not, length, get_or, refl, arith, eq-eqb}
use Rattle.std.specs.Prelude.{◌==◌, is_some}
use Rattle.std.specs.List.{list_all}
use Rattle.std.proofs.lemmas.Bool.{eqb-true, and_parts}
use Rattle.std.proofs.lemmas.Bool.Decides.{nat_tests}
use Rattle.pld_device.specs.declared.cell.Cell.{Cell}
use Rattle.pld_base.specs.Bits.{same_level}
use Rattle.pld_device.specs.Table.{Table, cell_at, inverted_at, registered_at}
use Rattle.pld_device.specs.ControlFuses.{control_fuses}
use Rattle.pld_device.specs.Laws.{uses_of, IsDevice}
use Rattle.pld_device.specs.LawTests.Lists.{all_below, at_below, apart, apart_at, get_all}
use Rattle.pld_device.specs.LawTests.Cells.{low_sizes, high_sizes, cell_test, pair_test, is_same_carry, sizes_from_tests, cell_from_test, pair_from_test, same_carry-refl}
use Rattle.pld_device.specs.LawTests.Rows.{row_below, no_cell_uses, no_row}
use Rattle.pld_device.specs.LawTests.Controls.{control_test, is_always, is_either, ends_test, control_from_test, control_in, control_once, inverted_where, registered_where}

-- the table passes each test
pub record Passes (t : Table) : Type 0 where
  pub low : low_sizes t ≡ true
  pub high : high_sizes t ≡ true
  pub rows : all_below t.rows (λ row. length (uses_of t row) == 1) ≡ true
  pub reset : row_below t.reset t.rows ≡ true
  pub preset : row_below t.preset t.rows ≡ true
  pub cells : list_all (cell_test t) t.cells ≡ true
  pub pins : apart (λ (a b : Cell). a.pin == b.pin) t.cells ≡ true
  pub pairs : list_all (pair_test t) t.pairs ≡ true
  pub carries : apart is_same_carry t.pairs ≡ true
  pub control : list_all (control_test t) (control_fuses t) ≡ true
  pub fuses : apart (λ (a b : ℕ). a == b) (control_fuses t) ≡ true
  pub ends : ends_test t ≡ true
  pub inverted : all_below (length t.cells) (λ c. same_level (is_some (inverted_at t c)) (not (is_always t.flip))) ≡ true
  pub registered : all_below (length t.cells) (λ c. same_level (is_some (registered_at t c)) (is_either (cell_at t c).kinds)) ≡ true

-- a table that passes each test keeps the laws
pub device_from_tests : (t : Table) → Passes t → IsDevice t
device_from_tests t p =
    let ends = p.ends in
    record {
      sizes = sizes_from_tests t p.low p.high;
      used_once = λ row within. eqb-true _ _ (at_below t.rows (λ row. length (uses_of t row) == 1) p.rows row within);
      unused_past = λ row past. rw (no_cell_uses t 0 t.cells row p.cells past, no_row t.reset t.rows row p.reset past, no_row t.preset t.rows row p.preset past) refl;
      cells = λ k d within. cell_from_test t (get_or t.cells k d) (get_all (cell_test t) t.cells k d p.cells within);
      pins_apart = λ i j d order within same. apart_at (λ (a b : Cell). a.pin == b.pin) t.cells p.pins i j d order within (eq-eqb _ _ same);
      pairs = λ k d within. pair_from_test t (get_or t.pairs k d) (get_all (pair_test t) t.pairs k d p.pairs within);
      pairs_apart = λ i j d order within same. apart_at is_same_carry t.pairs p.carries i j d order within (rw (← same) (same_carry-refl (get_or t.pairs i d)));
      control = control_in t p.control;
      control_listed = λ k d within. control_from_test t (get_or (control_fuses t) k d) (get_all (control_test t) (control_fuses t) k d p.control within);
      control_apart = control_once t p.fuses;
      inverted_end = grind (arith, nat_tests, ends);
      registered_end = grind (arith, nat_tests, ends);
      switches_end = grind (arith, nat_tests, ends);
      few_switches = grind (arith, nat_tests, ends);
      few_fixed = grind (arith, nat_tests, ends);
      inverted = λ c within. inverted_where (inverted_at t c) t.flip (at_below (length t.cells) (λ c. same_level (is_some (inverted_at t c)) (not (is_always t.flip))) p.inverted c within);
      registered = λ c within. registered_where (registered_at t c) (cell_at t c).kinds (at_below (length t.cells) (λ c. same_level (is_some (registered_at t c)) (is_either (cell_at t c).kinds)) p.registered c within);
    }

-- the table passes every test, as one truth value
abbrev pub passes_all : Table → Bool
passes_all t =
    low_sizes t
    && high_sizes t
    && all_below t.rows (λ row. length (uses_of t row) == 1)
    && row_below t.reset t.rows
    && row_below t.preset t.rows
    && list_all (cell_test t) t.cells
    && apart (λ (a b : Cell). a.pin == b.pin) t.cells
    && list_all (pair_test t) t.pairs
    && apart is_same_carry t.pairs
    && list_all (control_test t) (control_fuses t)
    && apart (λ (a b : ℕ). a == b) (control_fuses t)
    && ends_test t
    && all_below (length t.cells) (λ c. same_level (is_some (inverted_at t c)) (not (is_always t.flip)))
    && all_below (length t.cells) (λ c. same_level (is_some (registered_at t c)) (is_either (cell_at t c).kinds))

passes_each : (t : Table) → passes_all t ≡ true → Passes t
passes_each t test =
    let p13 = and_parts _ _ test in
    let p12 = and_parts _ _ p13.0 in
    let p11 = and_parts _ _ p12.0 in
    let p10 = and_parts _ _ p11.0 in
    let p9 = and_parts _ _ p10.0 in
    let p8 = and_parts _ _ p9.0 in
    let p7 = and_parts _ _ p8.0 in
    let p6 = and_parts _ _ p7.0 in
    let p5 = and_parts _ _ p6.0 in
    let p4 = and_parts _ _ p5.0 in
    let p3 = and_parts _ _ p4.0 in
    let p2 = and_parts _ _ p3.0 in
    let p1 = and_parts _ _ p2.0 in
    record {
      low = p1.0;
      high = p1.1;
      rows = p2.1;
      reset = p3.1;
      preset = p4.1;
      cells = p5.1;
      pins = p6.1;
      pairs = p7.1;
      carries = p8.1;
      control = p9.1;
      fuses = p10.1;
      ends = p11.1;
      inverted = p12.1;
      registered = p13.1;
    }

-- a device's laws, by one computation
pub device_by_computation : (t : Table) → passes_all t ≡ true → IsDevice t
device_by_computation t test = device_from_tests t (passes_each t test)
