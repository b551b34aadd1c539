-- What each line of a decompiled source assigns, and how large the source is.
use Rattle.std.proofs.Common.{◌≡◌, ℕ, zero, suc, ◌+◌, ◌*◌, ◌<◌, ◌≤◌, inl, inr, Bool, true, false, not, if◌then◌else◌, Option, Some, None, List, [], ◌∷◌, ◌++◌, length, filter, flat_map, map, refl, sym, ap, ◌∙◌, arith, length-append}
use Rattle.decompiler.proofs.Common.{AllByRecursion, range_with_len, cases_Bool, true≢false, Carry, Enable, Row, PinLow, Driven, Released, IsDevice, data_rows, is_never_true, stores, row_fuses, Table, cell_at, no_cell, Extension, is_data, may_be_assigned, PinLiteral, SumLine, ColumnLiteral, if_intact, literal, literals_of, row_literals, cell_lines, control_line, control_products, data_line, enable_lines, first_register, has_lines, lines_of, live_rows, named, product_of, shared_lines, each_always, each_append, each_flat_map, each_in_range, each_map, found_passes}
use Rattle.abel_tree.specs.declared.words.Extension.TheVariants as extension

-- ---- lengths

map_length : {A B : Type 0} (f : A → B) (xs : List A) → length (map f xs) ≡ length xs
map_length f [] = refl
map_length f (x ∷ xs) = ap suc (map_length f xs)

range_length : (a n : ℕ) → length (range_with_len a n) ≡ n
range_length a zero = refl
range_length a (suc n) = ap suc (range_length (a + 1) n)

filter_shorter : {A : Type 0} (test : A → Bool) (xs : List A) → length (filter test xs) ≤ length xs
filter_shorter test [] = omega arith
filter_shorter test (x ∷ xs) = elim (cases_Bool (test x)) [
  | inl e ↦ rw e (let later = filter_shorter test xs in omega (arith, later))
  | inr e ↦ rw e (let later = filter_shorter test xs in omega (arith, later))
]

flat_shorter : {A : Type 0} (give : ℕ → List A) → ((c : ℕ) → length (give c) ≤ 2) → (cs : List ℕ) → length (flat_map give cs) ≤ 2 * length cs
flat_shorter give each [] = omega arith
flat_shorter give each (c ∷ cs) =
    let here = each c in
    let later = flat_shorter give each cs in
    omega (arith, here, later, length-append (give c) (flat_map give cs))

-- ---- products

intact_shorter : (fuse : Bool) (l : ColumnLiteral) → length (if_intact fuse l) ≤ 1
intact_shorter true l = omega arith
intact_shorter false l = omega arith

columns_shorter : (fs : List Bool) (xs : List Carry) → length (literals_of fs xs) ≤ 2 * length xs
columns_shorter [] xs = omega arith
columns_shorter (a ∷ []) xs = omega arith
columns_shorter (a ∷ b ∷ fs) [] = omega arith
columns_shorter (a ∷ b ∷ fs) (x ∷ xs) =
    let low = intact_shorter a (literal false x) in
    let high = intact_shorter b (literal true x) in
    let later = columns_shorter fs xs in
    let outer = length-append (if_intact a (literal false x)) (if_intact b (literal true x) ++ literals_of fs xs) in
    let inner = length-append (if_intact b (literal true x)) (literals_of fs xs) in
    omega (arith, low, high, later, outer, inner)

abbrev pub IsShortProduct : List PinLiteral → Type 0
IsShortProduct p = length p ≤ 44

-- the data of a cell, its enable, or the row that resets or presets, at a register
pub data LineForm : Type 0 where
  DataForm : LineForm
  EnableForm : LineForm
  ResetForm : LineForm
  PresetForm : LineForm

module _ (t : Table) (fuses : List Bool) where
  -- what each form says of the line
  abbrev pub IsForm : LineForm → (cell : ℕ) → SumLine → Type 0
  IsForm DataForm c l = l ≡ data_line t fuses c
  IsForm EnableForm c l = (row : ℕ) × ((cell_at t c).enable ≡ Row row) × (l ≡ control_line t fuses c extension.Oe row)
  IsForm ResetForm c l = (row : ℕ) × (t.reset ≡ Some row) × (stores t fuses c ≡ true) × (l ≡ control_line t fuses c extension.Ar row)
  IsForm PresetForm c l = (row : ℕ) × (t.preset ≡ Some row) × (stores t fuses c ≡ true) × (l ≡ control_line t fuses c extension.Sp row)

  -- a line of a cell that has lines: data, by whether the cell is a register, or a control that isn't negated; of a limited
  -- size
  pub record IsOwnLine (l : SumLine) : Type 0 where
    pub cell : ℕ
    pub within : cell < length t.cells
    pub has : has_lines t fuses cell ≡ true
    pub pin : l.pin ≡ (cell_at t cell).pin
    pub form : LineForm
    pub is : IsForm form cell l
    pub may : may_be_assigned l.extension ≡ true
    pub data_is : is_data l.extension ≡ true → l.extension ≡ (if stores t fuses cell then Some extension.D else None)
    pub control_is : is_data l.extension ≡ false → l.negated ≡ false
    pub few : length l.products ≤ 16
    pub short : AllByRecursion IsShortProduct l.products

  module _ (laws : IsDevice t) where
    product_short : (row : ℕ) → IsShortProduct (product_of t fuses row)
    product_short row =
        let columns = columns_shorter (row_fuses t fuses row) t.pairs in
        let mapped = map_length (named t fuses) (row_literals t fuses row) in
        omega (arith, columns, mapped, laws.sizes.columns_even, laws.sizes.columns_high)

    products_short : (rows : List ℕ) → AllByRecursion IsShortProduct (map (product_of t fuses) rows)
    products_short rows =
        each_map IsShortProduct (product_of t fuses) rows (each_always (λ row. IsShortProduct (product_of t fuses row)) product_short rows)

    control_short : (row : ℕ) → (length (control_products t fuses row) ≤ 16) × AllByRecursion IsShortProduct (control_products t fuses row)
    control_short row = by_test (is_never_true t fuses row)
      where
        by_test : (dead : Bool) → (length (if dead then [] else product_of t fuses row ∷ []) ≤ 16) × AllByRecursion IsShortProduct (if dead then [] else product_of t fuses row ∷ [])
        by_test true = (omega arith, tt)
        by_test false = (omega arith, (product_short row, tt))

    -- ---- lines

    module _ (c : ℕ) (within : c < length t.cells) (has : has_lines t fuses c ≡ true) where
      control_own : (e : Extension) (row : ℕ) (form : LineForm) → IsForm form c (control_line t fuses c e row) → may_be_assigned (Some e) ≡ true → is_data (Some e) ≡ false
          → IsOwnLine (control_line t fuses c e row)
      control_own e row form is may none = record {
        cell = c;
        within = within;
        has = has;
        pin = refl;
        form = form;
        is = is;
        may = may;
        data_is = λ some. absurd (true≢false (sym some ∙ none));
        control_is = λ e. refl;
        few = (control_short row).0;
        short = (control_short row).1;
      }

      data_own : IsOwnLine (data_line t fuses c)
      data_own = record {
        cell = c;
        within = within;
        has = has;
        pin = refl;
        form = DataForm;
        is = refl;
        may = may_by (stores t fuses c);
        data_is = λ e. refl;
        control_is = λ none. absurd (true≢false (sym (data_by (stores t fuses c)) ∙ none));
        few = omega (
          arith,
          map_length (product_of t fuses) (live_rows t fuses c),
          filter_shorter (λ row. not (is_never_true t fuses row)) (data_rows t c),
          range_length (cell_at t c).first (cell_at t c).room,
          (laws.cells c no_cell within).room_high,
        );
        short = products_short (live_rows t fuses c);
      }
        where
          may_by : (b : Bool) → may_be_assigned (if b then Some extension.D else None) ≡ true
          may_by true = refl
          may_by false = refl

          data_by : (b : Bool) → is_data (if b then Some extension.D else None) ≡ true
          data_by true = refl
          data_by false = refl

      enables_own : (e : Enable) → (cell_at t c).enable ≡ e → AllByRecursion IsOwnLine (enable_lines t fuses c e)
      enables_own (Row row) is = (control_own extension.Oe row EnableForm (row, is, refl) refl refl, tt)
      enables_own (PinLow pin) is = tt
      enables_own Driven is = tt
      enables_own Released is = tt

    cell_own : (c : ℕ) → c < length t.cells → AllByRecursion IsOwnLine (cell_lines t fuses c)
    cell_own c within = by_test (has_lines t fuses c) refl
      where
        by_test : (some : Bool) → has_lines t fuses c ≡ some → AllByRecursion IsOwnLine (if some then data_line t fuses c ∷ enable_lines t fuses c (cell_at t c).enable else [])
        by_test true has = (data_own c within has, enables_own c within has (cell_at t c).enable refl)
        by_test false has = tt

    -- the first register stores, and has lines
    pub record IsRegister (c : ℕ) : Type 0 where
      pub within : c < length t.cells
      pub stored : stores t fuses c ≡ true
      pub has : has_lines t fuses c ≡ true

    register_own : (c : ℕ) → first_register t fuses ≡ Some c → IsRegister c
    register_own c is =
        let there = found_passes (stores t fuses) 0 (length t.cells) c is in
        record { within = omega (arith, there.1); stored = there.0; has = (rw there.0 refl) }

    module _ (e : Extension) (form : LineForm) (may : may_be_assigned (Some e) ≡ true) (none : is_data (Some e) ≡ false) where
      shared_own : (o row : Option ℕ) → first_register t fuses ≡ o
          → ((c r : ℕ) → IsRegister c → row ≡ Some r → IsForm form c (control_line t fuses c e r)) → AllByRecursion IsOwnLine (shared_lines t fuses e o row)
      shared_own None row is formed = tt
      shared_own (Some c) None is formed = tt
      shared_own (Some c) (Some row) is formed = by_test (is_never_true t fuses row)
        where
          register : IsRegister c
          register = register_own c is

          by_test : (dead : Bool) → AllByRecursion IsOwnLine (if dead then [] else control_line t fuses c e row ∷ [])
          by_test true = tt
          by_test false = (control_own c register.within register.has e row form (formed c row register refl) may none, tt)

    abbrev cells : List ℕ
    cells = range_with_len 0 (length t.cells)

    abbrev resets : List SumLine
    resets = shared_lines t fuses extension.Ar (first_register t fuses) t.reset

    abbrev presets : List SumLine
    presets = shared_lines t fuses extension.Sp (first_register t fuses) t.preset

    pub own_lines : AllByRecursion IsOwnLine (lines_of t fuses)
    own_lines =
        each_append IsOwnLine (flat_map (cell_lines t fuses) cells ++ resets) presets
        (
        each_append IsOwnLine (flat_map (cell_lines t fuses) cells) resets
        (
        each_flat_map IsOwnLine (cell_lines t fuses) cells
        (each_in_range (λ c. AllByRecursion IsOwnLine (cell_lines t fuses c)) 0 (length t.cells) (λ c within. cell_own c (omega (arith, within))))
        )
        (shared_own extension.Ar ResetForm refl refl (first_register t fuses) t.reset refl (λ c r at row. (r, row, at.stored, refl)))
        )
        (shared_own extension.Sp PresetForm refl refl (first_register t fuses) t.preset refl (λ c r at row. (r, row, at.stored, refl)))

    -- ---- how many

    cell_few : (c : ℕ) → length (cell_lines t fuses c) ≤ 2
    cell_few c = by_test (has_lines t fuses c)
      where
        enable_few : (e : Enable) → length (enable_lines t fuses c e) ≤ 1
        enable_few (Row row) = omega arith
        enable_few (PinLow pin) = omega arith
        enable_few Driven = omega arith
        enable_few Released = omega arith

        by_test : (some : Bool) → length (if some then data_line t fuses c ∷ enable_lines t fuses c (cell_at t c).enable else []) ≤ 2
        by_test true = let one = enable_few (cell_at t c).enable in omega (arith, one)
        by_test false = omega arith

    shared_few : (e : Extension) (o row : Option ℕ) → length (shared_lines t fuses e o row) ≤ 1
    shared_few e None row = omega arith
    shared_few e (Some c) None = omega arith
    shared_few e (Some c) (Some row) = by_test (is_never_true t fuses row)
      where
        by_test : (dead : Bool) → length (if dead then [] else control_line t fuses c e row ∷ []) ≤ 1
        by_test true = omega arith
        by_test false = omega arith

    pub few_lines : length (lines_of t fuses) ≤ 22
    few_lines =
        let first = flat_shorter (cell_lines t fuses) cell_few cells in
        let resets_few = shared_few extension.Ar (first_register t fuses) t.reset in
        let presets_few = shared_few extension.Sp (first_register t fuses) t.preset in
        let outer = length-append (flat_map (cell_lines t fuses) cells ++ resets) presets in
        let inner = length-append (flat_map (cell_lines t fuses) cells) resets in
        let count = range_length 0 (length t.cells) in
        omega (arith, first, resets_few, presets_few, outer, inner, count, laws.sizes.few_cells)
