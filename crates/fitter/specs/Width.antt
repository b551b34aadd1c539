-- Functions and controls whose written lists would pass 1,024 products (this project's rule).
use Rattle.std.specs.Prelude.{◌≡◌, ◌⊎◌, ℕ, Bool, true, Option, Some, None}
use Rattle.fitter.specs.Prelude.{Ranks, is_before, Table, CellWanted, Control, Function, Netlist, bit_list, allowed_of, needed_of, may_be_inverted_as, rows_are_positive}
use Rattle.fitter.specs.Plans.{cell_wanted, enable_bit}

-- a list on the way to one of the two lists of a function passes the limit: the function has no weight there
abbrev pub HasNoWeight : Netlist → Function → (positive : Bool) → Type 0
HasNoWeight net f positive = (needed_of net f positive ≡ None) ⊎ (allowed_of net f positive ≡ None)

-- so it is in every form that the cell may have
abbrev pub IsFunctionTooWide : Table → Netlist → CellWanted → Type 0
IsFunctionTooWide t net w =
    (inverted : Bool) → may_be_inverted_as t.flip w inverted ≡ true → HasNoWeight net w.function (rows_are_positive t.flip w inverted)

-- a list on the way to that of an equation which there may be passes the limit
abbrev pub IsControlTooWide : Netlist → Option Control → Type 0
IsControlTooWide net None = ⊥
IsControlTooWide net (Some control) = bit_list net control.bit true ≡ None

-- the cell's function is too wide, or its enable, or a reset or preset of its own
abbrev pub IsTooWide : Table → Netlist → CellWanted → Type 0
IsTooWide t net w =
    IsFunctionTooWide t net w
    ⊎ ((bit_list net (enable_bit w) true ≡ None) ⊎ (IsControlTooWide net w.reset ⊎ IsControlTooWide net w.preset))

-- no assigned cell is
abbrev pub NoneWide : Table → Netlist → Type 0
NoneWide t net = (d : ℕ) (w : CellWanted) → cell_wanted net d ≡ Some w → IsTooWide t net w → ⊥

-- the order in which cells are reported: by the first data target in the source, and at one place by number
abbrev pub width_order : Ranks CellWanted
width_order = record { place = λ (w : CellWanted). w.place; rank = λ (w : CellWanted). w.cell }

-- the cell is too wide, and no assigned cell that precedes it in that order is
pub record IsFirstWide (t : Table) (net : Netlist) (c : ℕ) : Type 0 where
  pub cell : CellWanted
  pub wanted : cell_wanted net c ≡ Some cell
  pub wide : IsTooWide t net cell
  pub before : (d : ℕ) (w : CellWanted) → cell_wanted net d ≡ Some w → is_before width_order w cell ≡ true → IsTooWide t net w → ⊥
