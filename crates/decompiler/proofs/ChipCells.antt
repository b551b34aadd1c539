-- The cells of a chip with modes, in a mode, and the set of those of which something is said.
use Rattle.std.proofs.Common.{◌≡◌, ℕ, zero, suc, ◌+◌, ◌-◌, ◌*◌, ◌<◌, Bool, true, false, List, [], ◌∷◌, length, map, get_or, take, refl, sym, ap, ap₂, ◌∙◌, arith, ◌&&◌, ◌||◌}
use Rattle.decompiler.proofs.Common.{and_right, list_any, range_with_len, Cell, IsDevice, is_on, Table, cell_at, no_cell, Entry, is_stored, ModuleTree, names_of, no_name, is_on_pin, is_unnumbered, IsSourceTree, source_of}
use Rattle.pld_order.specs.Members.{has}
use Rattle.abel_meaning.specs.Models.{outputs, registers, set_of}
use Rattle.devices.specs.V8Cells.{cells_down}
use Rattle.devices.specs.V8Tables.{Complex, Mode, Registers, Simple, V8, cell_in, eight, set_in, v8_in}
use Rattle.decompiler.proofs.PinEntries.{none_in_range, none_kept, numbered}

-- ---- sets of eight cells

pub eight_is : (set : List Bool) → length set ≡ 8 → eight set ≡ set
eight_is [] is = absurd cc
eight_is (a ∷ []) is = absurd cc
eight_is (a ∷ b ∷ []) is = absurd cc
eight_is (a ∷ b ∷ c ∷ []) is = absurd cc
eight_is (a ∷ b ∷ c ∷ d ∷ []) is = absurd cc
eight_is (a ∷ b ∷ c ∷ d ∷ e ∷ []) is = absurd cc
eight_is (a ∷ b ∷ c ∷ d ∷ e ∷ f ∷ []) is = absurd cc
eight_is (a ∷ b ∷ c ∷ d ∷ e ∷ f ∷ g ∷ []) is = absurd cc
eight_is (a ∷ b ∷ c ∷ d ∷ e ∷ f ∷ g ∷ h ∷ []) is = refl
eight_is (a ∷ b ∷ c ∷ d ∷ e ∷ f ∷ g ∷ h ∷ i ∷ set) is = absurd (omega (arith, is))

each_alike : (f g : ℕ → Bool) → ((k : ℕ) → k < 8 → f k ≡ g k) → map f (range_with_len 0 8) ≡ map g (range_with_len 0 8)
each_alike f g same =
    rw (
      same 0 (omega arith),
      same 1 (omega arith),
      same 2 (omega arith),
      same 3 (omega arith),
      same 4 (omega arith),
      same 5 (omega arith),
      same 6 (omega arith),
      same 7 (omega arith),
    ) refl

pub within_set : (set : List Bool) (k : ℕ) → is_on set k ≡ true → k < length set
within_set [] k on = absurd cc
within_set (a ∷ set) zero on = omega arith
within_set (a ∷ set) (suc k) on = let later : k < length set = within_set set k on in omega (arith, later)

-- ---- cells, one below the other

module _ (cell : (pin row : ℕ) → Bool → Cell) where
  down_length : (pin row : ℕ) (set : List Bool) → length (cells_down cell pin row set) ≡ length set
  down_length pin row [] = refl
  down_length pin row (on ∷ set) = ap suc (down_length (pin - 1) (row + 8) set)

  down_at : (pin row : ℕ) (set : List Bool) (k : ℕ) (d : Cell) → k < length set → get_or (cells_down cell pin row set) k d ≡ cell (pin - k) (row + 8 * k) (is_on set k)
  down_at pin row [] k d within = absurd (omega (arith, within))
  down_at pin row (on ∷ set) zero d within = ap₂ (λ p r. cell p r on) (here pin) (there row)
    where
      here : (n : ℕ) → n ≡ n - 0
      here n = omega arith

      there : (n : ℕ) → n ≡ n + 8 * 0
      there n = omega arith
  down_at pin row (on ∷ set) (suc k) d within =
      down_at (pin - 1) (row + 8) set k d (omega (arith, within)) ∙ ap₂ (λ p r. cell p r (is_on set k)) (here pin k) (there row k)
    where
      here : (n k : ℕ) → n - 1 - k ≡ n - suc k
      here n k = omega arith

      there : (n k : ℕ) → n + 8 + 8 * k ≡ n + 8 * suc k
      there n k = omega arith

-- ---- a chip in a mode

eight_long : (mode : Mode) → length (set_in mode) ≡ 8
eight_long (Simple driven) = refl
eight_long Complex = refl
eight_long (Registers stores) = refl

or_none : (b : Bool) → (b || false) ≡ b
or_none true = refl
or_none false = refl

module _ (v : V8) (mode : Mode) (laws : IsDevice (v8_in v mode)) (fuses : List Bool) (m : ModuleTree) (is : IsSourceTree (source_of (v8_in v mode) fuses) m) where
  abbrev t : Table
  t = v8_in v mode

  abbrev es : List Entry
  es = names_of t m

  eight_cells : length t.cells ≡ 8
  eight_cells = down_length (cell_in v mode) v.top 0 (set_in mode) ∙ eight_long mode

  pub cell_is : (c : ℕ) → c < length t.cells → cell_at t c ≡ cell_in v mode (v.top - c) (0 + 8 * c) (is_on (set_in mode) c)
  cell_is c within = down_at (cell_in v mode) v.top 0 (set_in mode) c no_cell (omega (arith, within, eight_cells, eight_long mode))

  pub within_eight : (c : ℕ) → c < 8 → c < length t.cells
  within_eight c low = omega (arith, low, eight_cells)

  pin_by : (mode : Mode) (pin row : ℕ) (on : Bool) → (cell_in v mode pin row on).pin ≡ pin
  pin_by (Simple driven) pin row on = refl
  pin_by Complex pin row on = refl
  pin_by (Registers stores) pin row on = refl

  pin_is : (c : ℕ) → c < length t.cells → (cell_at t c).pin ≡ v.top - c
  pin_is c within = ap (λ (x : Cell). x.pin) (cell_is c within) ∙ pin_by mode (v.top - c) (0 + 8 * c) (is_on (set_in mode) c)

  -- ---- no name is without a number

  pub no_free_registers : registers es ≡ []
  no_free_registers = none_kept (λ (x : Entry). is_stored x && is_unnumbered x.kind) es no_name (λ j within. and_right (is_stored (get_or es j no_name)) (is_unnumbered (get_or es j no_name).kind) (numbered t fuses laws m is j))

  pub no_outputs : outputs es ≡ []
  no_outputs =
      ap (take 8) (none_in_range (λ s. (get_or es s no_name).assigned && is_unnumbered (get_or es s no_name).kind)
      (λ j. and_right ((get_or es j no_name).assigned) (is_unnumbered (get_or es j no_name).kind) (numbered t fuses laws m is j)) 0 (length es))

  -- the set of the cells of which this is said, without others
  pub set_is : (wanted : Entry → Bool) (value : ℕ → Bool)
      → ((c : ℕ) → c < length t.cells → list_any (λ (x : Entry). wanted x && is_on_pin (cell_at t c).pin x.kind) es ≡ value c)
      → set_of v.top wanted es [] ≡ map value (range_with_len 0 8)
  set_is wanted value here = each_alike (λ k. there k || has [] (v.top - k)) value same
    where
      there : ℕ → Bool
      there k = list_any (λ (x : Entry). wanted x && is_on_pin (v.top - k) x.kind) es

      same : (k : ℕ) → k < 8 → (there k || has [] (v.top - k)) ≡ value k
      same k low =
          or_none (there k)
          ∙ ap (λ (pin : ℕ). list_any (λ (x : Entry). wanted x && is_on_pin pin x.kind) es) (sym (pin_is k (within_eight k low)))
          ∙ here k (within_eight k low)
