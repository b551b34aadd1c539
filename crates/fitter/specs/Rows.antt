-- The data rows of cells, and the order in which they are written (this project's rule).
use Rattle.std.specs.Prelude.{◌≡◌, ◌≢◌, ◌⊎◌, ℕ, zero, suc, ◌+◌, ◌*◌, ◌<◌, ◌≤◌, Bool, true, false, if◌then◌else◌, Option, Some, List, length, slice_get, All, AllPairs}
use Rattle.fitter.specs.Prelude.{Vec, IsNonDecreasingBy, pin_complements, is_inverted, Table, cell_at, CellWanted, Netlist, Cube, Tried, FitsRoom, allowed_of, needed_of, plain_netlist, IsTriedAs, IsTriedCell, may_be_inverted_as, rows_are_positive, HoldsCubes, fuse_at}
use Rattle.pld_device.specs.declared.flip.Flip.TheVariants.{Always}
use Rattle.sop_lowering.specs.Products.{Products}
use Rattle.fitter.specs.Plans.{IsTurnMask, cell_wanted}
use Rattle.fitter.specs.declared.answer.FittedCell.{FittedCell}

-- the first fuses of the cube's row, read as a binary number: rows that rise as text rise by it
unfoldable pub row_number : (columns : ℕ) → Cube → ℕ
row_number zero c = 0
row_number (suc n) c = 2 * row_number n c + (if fuse_at c n then 1 else 0)

-- rows in rising order of their fuses as text
abbrev pub Rises : (columns : ℕ) → List Cube → Type 0
Rises columns rows = IsNonDecreasingBy (row_number columns) rows

-- no written list of rows that the form may have is within the room, by the longer of the two
abbrev pub IsHeavierAs : Products → Products → (room : ℕ) → Type 0
IsHeavierAs needed allowed room =
    (needs allows : List Cube) → needed ≡ Some needs → allowed ≡ Some allows → length needs ≤ room → length allows ≤ room → ⊥

-- the cell doesn't fit as written
abbrev pub IsHeavier : Table → Netlist → ℕ → CellWanted → Type 0
IsHeavier t net c w =
    (inverted : Bool) → may_be_inverted_as t.flip w inverted ≡ true
    → IsHeavierAs (needed_of net w.function (rows_are_positive t.flip w inverted)) (allowed_of net w.function (rows_are_positive t.flip w inverted))
    (cell_at t c).room

-- the cell's covers in the forms that it may have have more rows than its room
pub record IsOverRoom (t : Table) (mask : ℕ) (net : Netlist) (c : ℕ) (tried : Tried) : Type 0 where
  pub cell : CellWanted
  pub wanted : cell_wanted net c ≡ Some cell
  pub covers_it : IsTriedCell t.flip (cell_at t c).room (length t.pairs) mask net cell tried
  pub direct : FitsRoom (cell_at t c).room tried.direct → ⊥
  pub inverted : FitsRoom (cell_at t c).room tried.inverted → ⊥
  pub heavier : IsHeavier t net c cell

-- of the covers of a cell that are tried in the forms that it may have one fits its room
pub record HasFittingCover (t : Table) (mask : ℕ) (net : Netlist) (c : ℕ) (w : CellWanted) : Type 0 where
  pub tried : Tried
  pub covers_it : IsTriedCell t.flip (cell_at t c).room (length t.pairs) mask net w tried
  pub fits : FitsRoom (cell_at t c).room tried.direct ⊎ FitsRoom (cell_at t c).room tried.inverted

-- so it is of each assigned cell below a number
abbrev pub CoversFitBelow : Table → (mask : ℕ) → Netlist → ℕ → Type 0
CoversFitBelow t mask net c = (d : ℕ) (w : CellWanted) → d < c → cell_wanted net d ≡ Some w → HasFittingCover t mask net d w

-- the direct form of a cell has a cover with more rows than its room, or none
pub record IsDirectOver (t : Table) (net : Netlist) (c : ℕ) (w : CellWanted) : Type 0 where
  pub mask : ℕ
  pub mask_is : IsTurnMask t (plain_netlist net) mask
  pub cover : Option (Vec Cube)
  pub tried : IsTriedAs t.flip (length t.pairs) mask net w false cover
  pub over : FitsRoom (cell_at t c).room cover → ⊥

-- an entry says of an assigned cell whether its pin is the complement of what it makes, and the rows that it has; it is
-- inverted only if its direct form doesn't fit
pub record IsFittedEntry (t : Table) (net : Netlist) (fuses : List Bool) (x : FittedCell) : Type 0 where
  pub cell : CellWanted
  pub wanted : cell_wanted net x.cell ≡ Some cell
  pub inverted : x.inverted ≡ pin_complements t.flip cell.registered (is_inverted t fuses x.cell)
  pub rows : HoldsCubes t fuses (cell_at t x.cell).first (cell_at t x.cell).room x.rows
  pub rise : Rises t.columns x.rows
  pub direct_first : t.flip ≢ Always → is_inverted t fuses x.cell ≡ true → IsDirectOver t net x.cell cell

-- one entry for each assigned cell, in the order of cells
pub record AreFittedCells (t : Table) (net : Netlist) (fuses : List Bool) (cells : List FittedCell) : Type 0 where
  pub entries : All (IsFittedEntry t net fuses) cells
  pub order : AllPairs (λ (a b : FittedCell). a.cell < b.cell) cells
  pub each : (c : ℕ) (w : CellWanted) → c < length t.cells → cell_wanted net c ≡ Some w → (k : ℕ) × (x : FittedCell) × (slice_get cells k ≡ Some x) × (x.cell ≡ c)
