-- The tables of the GAL16V8 and GAL20V8 keep the laws of devices in each mode, with any set. What depends on the set is computed of
-- all sets, and the rest once.
use Rattle.std.proofs.Common.{◌≡◌, ℕ, zero, suc, Bool, true, false, ◌&&◌, not, List, [], ◌∷◌, length, refl, arith}
use Rattle.std.specs.Prelude.{◌==◌, is_some}
use Rattle.std.specs.List.{list_all}
use Rattle.std.proofs.lemmas.Bool.{and_parts}
use Rattle.pld_base.specs.Bits.{is_on, same_level}
use Rattle.pld_device.specs.declared.cell.Cell.{Cell}
use Rattle.pld_device.specs.ControlFuses.{control_fuses}
use Rattle.pld_device.specs.Laws.{uses_of}
use Rattle.pld_device.specs.LawTests.{Passes, device_from_tests}
use Rattle.pld_device.specs.LawTests.Cells.{cell_test, high_sizes, is_same_carry, low_sizes, pair_test}
use Rattle.pld_device.specs.LawTests.Controls.{control_test, ends_test, is_always, is_either}
use Rattle.pld_device.specs.LawTests.Lists.{all_below, apart}
use Rattle.pld_device.specs.LawTests.Rows.{row_below}
use Rattle.pld_device.specs.Table.{cell_at, inverted_at, registered_at}
use Rattle.devices.specs.Prelude.{IsDevice, Table, device_by_computation}
use Rattle.devices.specs.V8Cells.{eight_rows, simple_cell}
use Rattle.devices.specs.V8Tables.{Complex, Mode, Registers, Simple, V8, eight, v8_16, v8_20, v8_in, v8_with}

-- ---- all sets

-- the test holds of every set of so many
abbrev pub of_sets : ℕ → (List Bool → Bool) → Bool
of_sets zero test = test []
of_sets (suc n) test = of_sets n (λ set. test (false ∷ set)) && of_sets n (λ set. test (true ∷ set))

pub at_set : (n : ℕ) (test : List Bool → Bool) → of_sets n test ≡ true → (set : List Bool) → length set ≡ n → test set ≡ true
at_set zero test all [] long = all
at_set zero test all (on ∷ set) long = absurd (omega arith)
at_set (suc n) test all [] long = absurd (omega arith)
at_set (suc n) test all (false ∷ set) long =
    at_set n (λ rest. test (false ∷ rest)) (and_parts (of_sets n (λ rest. test (false ∷ rest))) (of_sets n (λ rest. test (true ∷ rest))) all).0 set (omega arith)
at_set (suc n) test all (true ∷ set) long =
    at_set n (λ rest. test (true ∷ rest)) (and_parts (of_sets n (λ rest. test (false ∷ rest))) (of_sets n (λ rest. test (true ∷ rest))) all).1 set (omega arith)

-- ---- tests

-- those that depend on what the cells are
abbrev pub set_tests : Table → Bool
set_tests t =
    all_below t.rows (λ row. length (uses_of t row) == 1)
    && list_all (cell_test t) t.cells
    && all_below (length t.cells) (λ c. same_level (is_some (registered_at t c)) (is_either (cell_at t c).kinds))

-- the others: sizes, pins, pairs and control fuses
abbrev pub plain_tests : Table → Bool
plain_tests t =
    low_sizes t
    && high_sizes t
    && row_below t.reset t.rows
    && row_below t.preset t.rows
    && apart (λ (a b : Cell). a.pin == b.pin) t.cells
    && list_all (pair_test t) t.pairs
    && apart is_same_carry t.pairs
    && list_all (control_test t) (control_fuses t)
    && apart (λ (a b : ℕ). a == b) (control_fuses t)
    && ends_test t
    && all_below (length t.cells) (λ c. same_level (is_some (inverted_at t c)) (not (is_always t.flip)))

passes : (t : Table) → set_tests t ≡ true → plain_tests t ≡ true → Passes t
passes t of_set plain =
    let s2 = and_parts _ _ of_set in
    let s1 = and_parts _ _ s2.0 in
    let p10 = and_parts _ _ plain in
    let p9 = and_parts _ _ p10.0 in
    let p8 = and_parts _ _ p9.0 in
    let p7 = and_parts _ _ p8.0 in
    let p6 = and_parts _ _ p7.0 in
    let p5 = and_parts _ _ p6.0 in
    let p4 = and_parts _ _ p5.0 in
    let p3 = and_parts _ _ p4.0 in
    let p2 = and_parts _ _ p3.0 in
    let p1 = and_parts _ _ p2.0 in
    record {
      low = p1.0;
      high = p1.1;
      rows = s1.0;
      reset = p2.1;
      preset = p3.1;
      cells = s1.1;
      pins = p4.1;
      pairs = p5.1;
      carries = p6.1;
      control = p7.1;
      fuses = p8.1;
      ends = p9.1;
      inverted = p10.1;
      registered = s2.1;
    }

-- tables that pass the first tests with every set, and the others whatever eight truth values are
pub record PassWithEach (table : List Bool → Table) : Type 0 where
  pub sets : of_sets 8 (λ set. set_tests (table set)) ≡ true
  pub plain : (a b c d e f g h : Bool) → plain_tests (table (a ∷ b ∷ c ∷ d ∷ e ∷ f ∷ g ∷ h ∷ [])) ≡ true

sound_with : (table : List Bool → Table) → PassWithEach table → (set : List Bool) → IsDevice (table (eight set))
sound_with table pass set =
    device_from_tests (table (eight set))
    (passes (table (eight set)) (at_set 8 (λ s. set_tests (table s)) pass.sets (eight set) refl)
    (pass.plain (is_on set 0) (is_on set 1) (is_on set 2) (is_on set 3) (is_on set 4) (is_on set 5) (is_on set 6) (is_on set 7)))

-- ---- the chips

-- the table of simple mode with a set, and of registered mode
abbrev pub simple_table : V8 → List Bool → Table
simple_table v driven = v8_with v 0 true false v.simple simple_cell driven

abbrev pub registered_table : V8 → List Bool → Table
registered_table v stores = v8_with v 1 false true v.registered (eight_rows v.enabling) stores

simple_16 : PassWithEach (simple_table v8_16)
simple_16 = record { sets = refl; plain = λ a b c d e f g h. refl }

registered_16 : PassWithEach (registered_table v8_16)
registered_16 = record { sets = refl; plain = λ a b c d e f g h. refl }

simple_20 : PassWithEach (simple_table v8_20)
simple_20 = record { sets = refl; plain = λ a b c d e f g h. refl }

registered_20 : PassWithEach (registered_table v8_20)
registered_20 = record { sets = refl; plain = λ a b c d e f g h. refl }

pub gal16v8_sound : (mode : Mode) → IsDevice (v8_in v8_16 mode)
gal16v8_sound (Simple driven) = sound_with (simple_table v8_16) simple_16 driven
gal16v8_sound Complex = device_by_computation (v8_in v8_16 Complex) refl
gal16v8_sound (Registers stores) = sound_with (registered_table v8_16) registered_16 stores

pub gal20v8_sound : (mode : Mode) → IsDevice (v8_in v8_20 mode)
gal20v8_sound (Simple driven) = sound_with (simple_table v8_20) simple_20 driven
gal20v8_sound Complex = device_by_computation (v8_in v8_20 Complex) refl
gal20v8_sound (Registers stores) = sound_with (registered_table v8_20) registered_20 stores
