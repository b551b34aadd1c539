-- Each line of a device's source is on a cell's pin, and its literals are those of pairs.
use Rattle.std.proofs.Common.{◌≡◌, ℕ, ◌<◌, Bool, true, false, if◌then◌else◌, Option, Some, None, List, [], ◌∷◌, ◌++◌, length, flat_map, map, refl, arith}
use Rattle.decompiled.proofs.Common.{AllByRecursion, range_with_len, Carry, Enable, Row, PinLow, Driven, Released, IsPair, IsDevice, is_never_true, stores, row_fuses, Table, cell_at, Extension, PinLiteral, SumLine, ColumnLiteral, if_intact, literal, literals_of, row_literals, named, named_by, product_of, live_rows, control_products, has_lines, data_line, control_line, enable_lines, cell_lines, shared_lines, first_register, lines_of}
use Rattle.abel_tree.specs.declared.words.Extension.TheVariants as extension
use Rattle.decompiled.proofs.Each.{each_at, each_append, each_map, each_flat_map, each_always, each_in_range, found_below}

module _ (t : Table) (fuses : List Bool) where
  -- a column of a pair, by its name
  pub record IsPairLiteral (l : PinLiteral) : Type 0 where
    pub higher : Bool
    pub pair : Carry
    pub law : IsPair t pair
    pub is : l ≡ named_by t fuses higher pair

  pub record IsCellLine (l : SumLine) : Type 0 where
    pub cell : ℕ
    pub within : cell < length t.cells
    pub pin : l.pin ≡ (cell_at t cell).pin
    pub literals : AllByRecursion (AllByRecursion IsPairLiteral) l.products

  module _ (laws : IsDevice t) where
    -- ---- products

    abbrev IsColumn : ColumnLiteral → Type 0
    IsColumn l = IsPairLiteral (named t fuses l)

    column : (higher : Bool) (x : Carry) → IsPair t x → IsColumn (literal higher x)
    column higher x law = record { higher = higher; pair = x; law = law; is = refl }

    intact : (fuse : Bool) (l : ColumnLiteral) → IsColumn l → AllByRecursion IsColumn (if_intact fuse l)
    intact true l is = tt
    intact false l is = (is, tt)

    columns : (fs : List Bool) (xs : List Carry) → AllByRecursion (IsPair t) xs → AllByRecursion IsColumn (literals_of fs xs)
    columns [] xs all = tt
    columns (a ∷ []) xs all = tt
    columns (a ∷ b ∷ fs) [] all = tt
    columns (a ∷ b ∷ fs) (x ∷ xs) all =
        each_append IsColumn (if_intact a (literal false x)) (if_intact b (literal true x) ++ literals_of fs xs) (intact a (literal false x) (column false x all.0))
        (each_append IsColumn (if_intact b (literal true x)) (literals_of fs xs) (intact b (literal true x) (column true x all.0)) (columns fs xs all.1))

    product : (row : ℕ) → AllByRecursion IsPairLiteral (product_of t fuses row)
    product row =
        each_map IsPairLiteral (named t fuses) (row_literals t fuses row)
        (columns (row_fuses t fuses row) t.pairs (each_at (IsPair t) t.pairs laws.pairs))

    abbrev AreProducts : List (List PinLiteral) → Type 0
    AreProducts ps = AllByRecursion (AllByRecursion IsPairLiteral) ps

    data_products : (rows : List ℕ) → AreProducts (map (product_of t fuses) rows)
    data_products rows =
        each_map (AllByRecursion IsPairLiteral) (product_of t fuses) rows
        (each_always (λ row. AllByRecursion IsPairLiteral (product_of t fuses row)) product rows)

    control : (row : ℕ) → AreProducts (control_products t fuses row)
    control row = by_test (is_never_true t fuses row)
      where
        by_test : (dead : Bool) → AreProducts (if dead then [] else product_of t fuses row ∷ [])
        by_test true = tt
        by_test false = (product row, tt)

    -- ---- lines

    control_on : (c : ℕ) (e : Extension) (row : ℕ) → c < length t.cells → IsCellLine (control_line t fuses c e row)
    control_on c e row within = record { cell = c; within = within; pin = refl; literals = control row }

    data_on : (c : ℕ) → c < length t.cells → IsCellLine (data_line t fuses c)
    data_on c within = record { cell = c; within = within; pin = refl; literals = data_products (live_rows t fuses c) }

    enables_on : (c : ℕ) (e : Enable) → c < length t.cells → AllByRecursion IsCellLine (enable_lines t fuses c e)
    enables_on c (Row row) within = (control_on c extension.Oe row within, tt)
    enables_on c (PinLow pin) within = tt
    enables_on c Driven within = tt
    enables_on c Released within = tt

    cell_on : (c : ℕ) → c < length t.cells → AllByRecursion IsCellLine (cell_lines t fuses c)
    cell_on c within = by_test (has_lines t fuses c)
      where
        by_test : (some : Bool) → AllByRecursion IsCellLine (if some then data_line t fuses c ∷ enable_lines t fuses c (cell_at t c).enable else [])
        by_test true = (data_on c within, enables_on c (cell_at t c).enable within)
        by_test false = tt

    shared_on : (e : Extension) (o row : Option ℕ) → ((c : ℕ) → o ≡ Some c → c < length t.cells) → AllByRecursion IsCellLine (shared_lines t fuses e o row)
    shared_on e None row within = tt
    shared_on e (Some c) None within = tt
    shared_on e (Some c) (Some row) within = by_test (is_never_true t fuses row)
      where
        by_test : (dead : Bool) → AllByRecursion IsCellLine (if dead then [] else control_line t fuses c e row ∷ [])
        by_test true = tt
        by_test false = (control_on c e row (within c refl), tt)

    register_within : (c : ℕ) → first_register t fuses ≡ Some c → c < length t.cells
    register_within c is = omega (arith, found_below (stores t fuses) 0 (length t.cells) c is)

    pub lines_on : AllByRecursion IsCellLine (lines_of t fuses)
    lines_on =
        let cells = range_with_len 0 (length t.cells) in
        let resets = shared_lines t fuses extension.Ar (first_register t fuses) t.reset in
        let presets = shared_lines t fuses extension.Sp (first_register t fuses) t.preset in
        each_append IsCellLine (flat_map (cell_lines t fuses) cells ++ resets) presets
        (
        each_append IsCellLine (flat_map (cell_lines t fuses) cells) resets
        (
        each_flat_map IsCellLine (cell_lines t fuses) cells
        (each_in_range (λ c. AllByRecursion IsCellLine (cell_lines t fuses c)) 0 (length t.cells) (λ c within. cell_on c (omega (arith, within))))
        )
        (shared_on extension.Ar (first_register t fuses) t.reset register_within)
        )
        (shared_on extension.Sp (first_register t fuses) t.preset register_within)
