-- What the sum of a cell's line is to its rows (this project's rule).
use Rattle.std.specs.Prelude.{◌≡◌, ℕ, ◌<◌, Bool, if◌then◌else◌, List, length, map}
use Rattle.decompiled.specs.Prelude.{Levels, Carry, IsDevice, or_value, stores, row_fuses, Table, cell_at, Leaf, formula_value}
use Rattle.pld_device.specs.declared.carry.Carry.TheVariants as carry
use Rattle.bit_expr.specs.declared.node.Leaf.TheVariants as leaf
use Rattle.decompiled.specs.RowLiterals.{literal}
use Rattle.decompiled.specs.declared.literal.PinLiteral.{PinLiteral}
use Rattle.decompiled.specs.SumFormulas.{sum_formula}
use Rattle.decompiled.specs.Sources.{live_rows, named, product_of}

-- the leaf that a pair carries
abbrev pub pair_leaf : Table → List Bool → Carry → Leaf
pair_leaf t fuses (carry.Pin pin) = leaf.Pin pin
pair_leaf t fuses (carry.Cell c) = if stores t fuses c then leaf.Q c else leaf.Pin (cell_at t c).pin

-- each column is read as the leaf of its pair
abbrev pub ReadsPairs : Table → List Bool → (PinLiteral → Leaf) → Type 0
ReadsPairs t fuses leaf_of = (higher : Bool) (x : Carry) → leaf_of (named t fuses (literal higher x)) ≡ pair_leaf t fuses x

-- each row of the array has a fuse for each column
abbrev pub HasRowSizes : Table → List Bool → Type 0
HasRowSizes t fuses = (row : ℕ) → row < t.rows → length (row_fuses t fuses row) ≡ t.columns

-- the sum of the live rows has the OR's value at every point
abbrev pub SumsHaveRows : Type 0
SumsHaveRows =
    (t : Table) (fuses : List Bool) (leaf_of : PinLiteral → Leaf) (c : ℕ) → IsDevice t → c < length t.cells
    → HasRowSizes t fuses → ReadsPairs t fuses leaf_of → (at : Levels)
    → formula_value at (sum_formula leaf_of (map (product_of t fuses) (live_rows t fuses c))) ≡ or_value t fuses at c
