-- The equations of a page, in the words of the listing (this project's rule).
use Rattle.std.specs.Prelude.{ℕ, Bool, if◌then◌else◌, Option, None, Some, List, [], ◌∷◌, ◌++◌, length, flat_map, codes}
use Rattle.std.specs.List.{concat, range_with_len}
use Rattle.pld_device.specs.declared.flip.Flip.{Flip}
use Rattle.pld_device.specs.declared.flip.Flip.TheVariants.{Always, AfterRegister, BeforeRegister}
use Rattle.pld_device.specs.Macrocells.{complement_if}
use Rattle.pld_device.specs.Registers.{is_inverted, stores}
use Rattle.pld_device.specs.Table.{Table, cell_at}
use Rattle.abel_tree.specs.Entries.{Entry}
use Rattle.fuse_listing.specs.Listing.{complements_output, literal_text, name_on, names_complement, row_text, rows_in_use}
use Rattle.design_drawings.specs.Escaped.{escaped}

-- the pin is low if one of the cell's rows is true; of a register, after the clock
abbrev pub lowers : Flip → (is_register inverted complements : Bool) → Bool
lowers Always is_register inverted complements = complements
lowers AfterRegister is_register inverted complements = complements
lowers BeforeRegister is_register inverted complements = if is_register then inverted else complements

abbrev pub lowers_pin : Table → List Bool → (cell : ℕ) → Bool
lowers_pin t fuses c = lowers t.flip (stores t fuses c) (is_inverted t fuses c) (complements_output t fuses c)

-- what is assigned: the name, or its complement if the pin is low
abbrev pub target_text : Table → List Bool → (cell : ℕ) → Entry → List ℕ
target_text t fuses c e = literal_text (complement_if (lowers_pin t fuses c) (names_complement (Some e))) e.name

abbrev pub sign_text : (is_register : Bool) → List ℕ
sign_text is_register = if is_register then codes " :=" else codes " ="

-- the left side of an equation
unfoldable pub target_item : Table → List Bool → (cell : ℕ) → Entry → List ℕ
target_item t fuses c e =
    concat (codes "<dl><dt><code>" ∷ escaped (target_text t fuses c e) ∷ sign_text (stores t fuses c) ∷ codes "</code></dt>" ∷ [])

-- a product, which is that of the listing's line, after `#` or not
unfoldable pub product_item : Table → List Bool → List Entry → (front : List ℕ) → (row : ℕ) → List ℕ
product_item t fuses es front row = codes "<dd><code>" ++ front ++ escaped (row_text t fuses es row) ++ codes "</code></dd>"

-- the products of rows in use, joined by `#`; no row is 0
abbrev pub sum_items : Table → List Bool → List Entry → (rows : List ℕ) → List ℕ
sum_items t fuses es [] = codes "<dd><code>0</code></dd>"
sum_items t fuses es (row ∷ rows) =
    product_item t fuses es [] row ++ flat_map (product_item t fuses es (codes "# ")) rows

-- the equation of a cell, by its pin's name
abbrev pub equation_item : Table → List Bool → List Entry → (cell : ℕ) → Entry → List ℕ
equation_item t fuses es c e = target_item t fuses c e ++ sum_items t fuses es (rows_in_use t fuses c) ++ codes "</dl>\n"

-- that of a cell whose pin's name is assigned
abbrev pub item_if_assigned : Table → List Bool → List Entry → (cell : ℕ) → Option Entry → List ℕ
item_if_assigned t fuses es c None = []
item_if_assigned t fuses es c (Some e) = if e.assigned then equation_item t fuses es c e else []

abbrev pub assigned_item : Table → List Bool → List Entry → (cell : ℕ) → List ℕ
assigned_item t fuses es c = item_if_assigned t fuses es c (name_on es (cell_at t c).pin)

-- the equations of all cells, in their order
abbrev pub equation_items : Table → List Bool → List Entry → List ℕ
equation_items t fuses es = flat_map (assigned_item t fuses es) (range_with_len 0 (length t.cells))
