-- A row as a product: the literals of its columns whose fuses are intact (the devices' datasheets, logic diagrams).
use Rattle.std.specs.Prelude.{◌≡◌, ℕ, suc, Bool, true, false, ◌&&◌, ◌||◌, List, [], ◌∷◌, ◌++◌, length}
use Rattle.decompiled.specs.Prelude.{list_all, list_any, Levels, Carry, IsDevice, complement_if, is_never_true, row_reads, carried, row_fuses, row_value, Table}

-- ---- literals

-- a pair by its lower or its higher column
pub record ColumnLiteral : Type 0 where
  pub higher : Bool
  pub pair : Carry

abbrev pub literal : Bool → Carry → ColumnLiteral
literal higher x = record { higher = higher; pair = x }

-- one literal, if the fuse is intact
abbrev pub if_intact : (fuse : Bool) → ColumnLiteral → List ColumnLiteral
if_intact true l = []
if_intact false l = l ∷ []

-- the literals of two fuses a pair, in order
abbrev pub literals_of : (fuses : List Bool) → List Carry → List ColumnLiteral
literals_of (lower ∷ higher ∷ fuses) (x ∷ xs) =
    if_intact lower (literal false x) ++ (if_intact higher (literal true x) ++ literals_of fuses xs)
literals_of _ _ = []

-- the literals of a row
abbrev pub row_literals : Table → List Bool → (row : ℕ) → List ColumnLiteral
row_literals t fuses row = literals_of (row_fuses t fuses row) t.pairs

-- ---- what they say of the row

-- a literal at a point
abbrev pub literal_value : Table → List Bool → Levels → ColumnLiteral → Bool
literal_value t fuses at l = complement_if l.higher (carried t fuses at l.pair)

-- a row that may be true has the value of its product, and any other the value 0
pub record IsRowProduct (t : Table) (fuses : List Bool) (row : ℕ) : Type 0 where
  pub live : is_never_true t fuses row ≡ false → (at : Levels) → row_value t fuses at row ≡ list_all (literal_value t fuses at) (row_literals t fuses row)
  pub dead : is_never_true t fuses row ≡ true → (at : Levels) → row_value t fuses at row ≡ false

abbrev pub RowsAreProducts : Type 0
RowsAreProducts = (t : Table) (fuses : List Bool) (row : ℕ) → IsDevice t → length (row_fuses t fuses row) ≡ t.columns → IsRowProduct t fuses row

-- some pair from this number on that is read passes the test
abbrev pub some_read : (ℕ → Bool) → (test : Carry → Bool) → (pair : ℕ) → List Carry → Bool
some_read reads test pair [] = false
some_read reads test pair (x ∷ xs) = (reads pair && test x) || some_read reads test (suc pair) xs

-- what is said of some literal of a row that may be true is said of some pair that it reads
abbrev pub RowsReadLiterals : Type 0
RowsReadLiterals =
    (t : Table) (fuses : List Bool) (row : ℕ) (test : Carry → Bool) → IsDevice t → length (row_fuses t fuses row) ≡ t.columns
    → is_never_true t fuses row ≡ false
    → list_any (λ (l : ColumnLiteral). test l.pair) (row_literals t fuses row) ≡ some_read (row_reads t fuses row) test 0 t.pairs
