-- The text of fuses of a chip with modes asks for the mode that the chip is in: for simple mode; for registered mode if some cell is
-- a register; and for complex mode if some cell may drive its pin.
use Rattle.std.proofs.Common.{◌≡◌, ℕ, zero, suc, ◌+◌, ◌-◌, ◌*◌, ◌<◌, Bool, true, false, not, List, [], ◌∷◌, length, filter, take, replicate, refl, ap, ap₂, ◌∙◌, arith, ◌||◌, ◌==◌, if◌then◌else◌}
use Rattle.decompiler.proofs.Common.{or_right, list_any, Carry, Cell, Driven, Released, Combinational, Registered, pin_carried, IsDevice, is_on, says, stores, stores_by, registered_at, Table, cell_at, Entry, is_stored, ModuleTree, names_of, IsSourceTree, has_lines, source_of, DeviceName, table_at, model_sound, AsksForItself}
use Rattle.pld_base.specs.declared.device_name.DeviceName.TheVariants as device
use Rattle.pld_base.specs.Models.{end_pins, has_modes, middle_pins, plain_model, registered_model, simple_model}
use Rattle.pld_device.specs.Given.{enables_never, never_drives}
use Rattle.abel_meaning.specs.Models.{chip_model, chosen_cells, driven_cells, free_cells, free_middle, free_others, reads_pins, registered_cells, set_of}
use Rattle.abel_meaning.specs.Reads.{has_enables, is_read}
use Rattle.netlist_laws.specs.Takeable.{is_row}
use Rattle.devices.specs.V8Cells.{eight_rows, simple_cell}
use Rattle.devices.specs.V8Tables.{Complex, Registers, Simple, V8, eight, v8_16, v8_20, v8_in}
use Rattle.decompiler.specs.Compiling.{ChipTextsAskForThemselves}
use Rattle.decompiler.proofs.ChipCells.{cell_is, eight_is, no_free_registers, no_outputs, set_is, within_eight, within_set}
use Rattle.decompiler.proofs.EnableLines.{no_enables, some_enable}
use Rattle.decompiler.proofs.PinEntries.{assigned_on, no_registers, some_register, stored_on}
use Rattle.decompiler.proofs.ReadSignals.{unread_at}
use Rattle.decompiler.proofs.TextsAsk.{asks_by}

-- ---- simple mode

module _ (v : V8) (driven : List Bool) (long : length driven ≡ 8) (laws : IsDevice (v8_in v (Simple driven))) (fuses : List Bool) (m : ModuleTree) (is : IsSourceTree (source_of (v8_in v (Simple driven)) fuses) m) where
  abbrev simple : Table
  simple = v8_in v (Simple driven)

  plain_cell : (c : ℕ) → c < length simple.cells → stores simple fuses c ≡ false
  plain_cell c within = ap (λ (x : Cell). stores_by x.kinds (says fuses (registered_at simple c))) (cell_is v (Simple driven) laws fuses m is c within)

  lines_by : (b : Bool) (pin row : ℕ) → (false || not (enables_never simple fuses (simple_cell pin row b).enable)) ≡ b
  lines_by true pin row = refl
  lines_by false pin row = refl

  lines_if_driven : (c : ℕ) → c < length simple.cells → has_lines simple fuses c ≡ is_on (eight driven) c
  lines_if_driven c within =
      ap₂ (λ a (x : Cell). a || not (enables_never simple fuses x.enable)) (plain_cell c within) (cell_is v (Simple driven) laws fuses m is c within)
      ∙ lines_by (is_on (eight driven) c) (v.top - c) (0 + 8 * c)

  driven_is : driven_cells v.top (names_of simple m) m.sections ≡ driven
  driven_is =
      ap (λ (o : List ℕ). set_of v.top (λ (x : Entry). x.assigned) (names_of simple m) (chosen_cells (take (length (filter (λ s. not (is_read (names_of simple m) m.sections s)) o)) (free_middle v.top (names_of simple m))) (free_others v.top (names_of simple m)) (length o))) (no_outputs v (Simple driven) laws fuses m is)
      ∙ set_is v (Simple driven) laws fuses m is (λ (x : Entry). x.assigned) (is_on (eight driven)) (λ c within. assigned_on simple fuses laws m is c within ∙ lines_if_driven c within)
      ∙ eight_is driven long

  no_row : (c : ℕ) → c < length simple.cells → is_row (cell_at simple c).enable ≡ false
  no_row c within = ap (λ (x : Cell). is_row x.enable) (cell_is v (Simple driven) laws fuses m is c within) ∙ by_on (is_on (eight driven) c)
    where
      by_on : (b : Bool) → is_row (if b then Driven else Released) ≡ false
      by_on true = refl
      by_on false = refl

  module _ (third : list_any (λ (x : Carry). pin_carried simple x == v.top - 3) simple.pairs ≡ false) (fourth : list_any (λ (x : Carry). pin_carried simple x == v.top - 4) simple.pairs ≡ false) where
    middle_unread : reads_pins (names_of simple m) m.sections (middle_pins v.top) ≡ false
    middle_unread = rw (unread_at simple fuses laws m is (v.top - 3) third, unread_at simple fuses laws m is (v.top - 4) fourth) refl

    simple_is : (name : DeviceName) → chip_model name v.top (names_of simple m) m.sections ≡ simple_model name driven
    simple_is name =
        rw (no_registers simple fuses laws m is plain_cell) (rw (no_enables simple fuses laws m is no_row) (rw middle_unread (ap (simple_model name) driven_is)))

-- ---- registered mode

module _ (v : V8) (stored : List Bool) (long : length stored ≡ 8) (laws : IsDevice (v8_in v (Registers stored))) (fuses : List Bool) (m : ModuleTree) (is : IsSourceTree (source_of (v8_in v (Registers stored)) fuses) m) where
  abbrev registered : Table
  registered = v8_in v (Registers stored)

  stored_if : (c : ℕ) → c < length registered.cells → stores registered fuses c ≡ is_on (eight stored) c
  stored_if c within =
      ap (λ (x : Cell). stores_by x.kinds (says fuses (registered_at registered c))) (cell_is v (Registers stored) laws fuses m is c within)
      ∙ by_on (is_on (eight stored) c)
    where
      by_on : (b : Bool) → stores_by (if b then Registered else Combinational) (says fuses (registered_at registered c)) ≡ b
      by_on true = refl
      by_on false = refl

  stored_is : registered_cells v.top (names_of registered m) ≡ stored
  stored_is =
      ap (λ (r : List Entry). set_of v.top is_stored (names_of registered m) (take (length r) (free_cells v.top (names_of registered m)))) (no_free_registers v (Registers stored) laws fuses m is)
      ∙ set_is v (Registers stored) laws fuses m is is_stored (is_on (eight stored)) (λ c within. stored_on registered fuses laws m is c within ∙ stored_if c within)
      ∙ eight_is stored long

  registered_is : (name : DeviceName) (c : ℕ) → is_on stored c ≡ true → chip_model name v.top (names_of registered m) m.sections ≡ registered_model name stored
  registered_is name c on =
      let within : c < length registered.cells = within_eight v (Registers stored) laws fuses m is c (omega (arith, within_set stored c on, long)) in
      let kept : stores registered fuses c ≡ true = stored_if c within ∙ ap (λ (set : List Bool). is_on set c) (eight_is stored long) ∙ on in
      rw (some_register registered fuses laws m is c within kept) (ap (registered_model name) stored_is)

-- ---- complex mode

off_at : (n c : ℕ) → is_on (replicate n false) c ≡ false
off_at zero c = refl
off_at (suc n) zero = refl
off_at (suc n) (suc c) = off_at n c

module _ (v : V8) (laws : IsDevice (v8_in v Complex)) (fuses : List Bool) (m : ModuleTree) (is : IsSourceTree (source_of (v8_in v Complex) fuses) m) where
  abbrev complex : Table
  complex = v8_in v Complex

  complex_cell : (c : ℕ) → c < length complex.cells → cell_at complex c ≡ eight_rows v.enabling (v.top - c) (0 + 8 * c) false
  complex_cell c within = cell_is v Complex laws fuses m is c within ∙ ap (eight_rows v.enabling (v.top - c) (0 + 8 * c)) (off_at 8 c)

  no_register : (c : ℕ) → c < length complex.cells → stores complex fuses c ≡ false
  no_register c within = ap (λ (x : Cell). stores_by x.kinds (says fuses (registered_at complex c))) (complex_cell c within)

  module _ (first : list_any (λ (x : Carry). pin_carried complex x == v.top) complex.pairs ≡ false) (last : list_any (λ (x : Carry). pin_carried complex x == v.top - 7) complex.pairs ≡ false) where
    ends_unread : reads_pins (names_of complex m) m.sections (end_pins v.top) ≡ false
    ends_unread = rw (unread_at complex fuses laws m is v.top first, unread_at complex fuses laws m is (v.top - 7) last) refl

    complex_is : (name : DeviceName) (c : ℕ) → c < 8 → never_drives complex fuses c ≡ false → chip_model name v.top (names_of complex m) m.sections ≡ plain_model name
    complex_is name c low drives =
        let within : c < length complex.cells = within_eight v Complex laws fuses m is c low in
        let has : has_lines complex fuses c ≡ true = or_right (stores complex fuses c) (not (never_drives complex fuses c)) (ap not drives) in
        let enables : has_enables m.sections ≡ true = some_enable complex fuses laws m is c within has (ap (λ (x : Cell). is_row x.enable) (complex_cell c within)) in
        rw (no_registers complex fuses laws m is no_register) (rw enables (rw ends_unread refl))

-- ---- the texts

simple_asks : (device : DeviceName) (driven fuses : List Bool) → has_modes device ≡ true → length driven ≡ 8 → AsksForItself (simple_model device driven) fuses
simple_asks device.GAL16V8 driven fuses modes long =
    asks_by (simple_model device.GAL16V8 driven) fuses refl (λ m tree. simple_is v8_16 driven long (model_sound (simple_model device.GAL16V8 driven)) fuses m tree refl refl device.GAL16V8)
simple_asks device.GAL20V8 driven fuses modes long =
    asks_by (simple_model device.GAL20V8 driven) fuses refl (λ m tree. simple_is v8_20 driven long (model_sound (simple_model device.GAL20V8 driven)) fuses m tree refl refl device.GAL20V8)
simple_asks device driven fuses modes long = absurd cc

registered_asks : (device : DeviceName) (stored fuses : List Bool) (c : ℕ) → has_modes device ≡ true → length stored ≡ 8 → is_on stored c ≡ true → AsksForItself (registered_model device stored) fuses
registered_asks device.GAL16V8 stored fuses c modes long on =
    asks_by (registered_model device.GAL16V8 stored) fuses refl (λ m tree. registered_is v8_16 stored long (model_sound (registered_model device.GAL16V8 stored)) fuses m tree device.GAL16V8 c on)
registered_asks device.GAL20V8 stored fuses c modes long on =
    asks_by (registered_model device.GAL20V8 stored) fuses refl (λ m tree. registered_is v8_20 stored long (model_sound (registered_model device.GAL20V8 stored)) fuses m tree device.GAL20V8 c on)
registered_asks device stored fuses c modes long on = absurd cc

complex_asks : (device : DeviceName) (fuses : List Bool) (c : ℕ) → has_modes device ≡ true → c < 8 → never_drives (table_at (plain_model device)) fuses c ≡ false → AsksForItself (plain_model device) fuses
complex_asks device.GAL16V8 fuses c modes low drives =
    asks_by (plain_model device.GAL16V8) fuses refl (λ m tree. complex_is v8_16 (model_sound (plain_model device.GAL16V8)) fuses m tree refl refl device.GAL16V8 c low drives)
complex_asks device.GAL20V8 fuses c modes low drives =
    asks_by (plain_model device.GAL20V8) fuses refl (λ m tree. complex_is v8_20 (model_sound (plain_model device.GAL20V8)) fuses m tree refl refl device.GAL20V8 c low drives)
complex_asks device fuses c modes low drives = absurd cc

pub chips_ask : ChipTextsAskForThemselves
chips_ask = record { simple = simple_asks; registered = registered_asks; complex = complex_asks }
