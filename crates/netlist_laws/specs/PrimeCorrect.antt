-- Whose rows are prime and irredundant for what a module says, and which cells and controls have rows at all (this
-- project's rule).
use Rattle.std.specs.Prelude.{◌≡◌, ℕ, ◌<◌, Bool, List, length, None, Some}
use Rattle.netlist_laws.specs.Prelude.{IsDevice, Table, ModuleTree, signal_on, Context, design_of, PlainNetlist, IsSound}
use Rattle.netlist_laws.specs.ExchangedNets.{netlist_shown}
use Rattle.netlist_laws.specs.Fitting.{IsFitted, IsSpareCell}
use Rattle.netlist_laws.specs.Gathered.{netlist_of}
use Rattle.netlist_laws.specs.Takeable.{RegistersHaveCells}
use Rattle.netlist_laws.specs.Controls.{HasControlRows}
use Rattle.netlist_laws.specs.ModuleCovers.{HasPrimeRows}

-- the cell has a signal that is assigned
abbrev pub IsAssignedCell : Context → ℕ → Type 0
IsAssignedCell d c = (s : ℕ) × (signal_on d c ≡ Some s)

-- it has none
abbrev pub IsUnassignedCell : Context → ℕ → Type 0
IsUnassignedCell d c = signal_on d c ≡ None

-- where fuses are those of a module's netlist under the choice that they show, and the device can take it, the rows of each
-- assigned cell are prime and irredundant for what the module allows under this choice
abbrev pub FittedRowsArePrime : Type 0
FittedRowsArePrime =
    (t : Table) (m : ModuleTree) (net : PlainNetlist) (fuses : List Bool) → IsDevice t → net ≡ netlist_of t m → IsSound t net
    → IsFitted t (netlist_shown t fuses net) fuses → (c : ℕ) → c < length t.cells → IsAssignedCell (design_of t m).context c → HasPrimeRows t m fuses c

-- the rows of a cell that nothing assigns are all 0, and it is inverted and combinational if the device leaves the choice
abbrev pub FittedSparesAreUnused : Type 0
FittedSparesAreUnused =
    (t : Table) (m : ModuleTree) (net : PlainNetlist) (fuses : List Bool) → IsDevice t → net ≡ netlist_of t m
    → IsFitted t (netlist_shown t fuses net) fuses → (c : ℕ) → c < length t.cells → IsUnassignedCell (design_of t m).context c → IsSpareCell t fuses c

-- if each register is on a cell too, the rows of the controls are those of the module's own
abbrev pub FittedControlsAreOwn : Type 0
FittedControlsAreOwn =
    (t : Table) (m : ModuleTree) (net : PlainNetlist) (fuses : List Bool) → IsDevice t → RegistersHaveCells (design_of t m).context → net ≡ netlist_of t m
    → IsSound t net → IsFitted t (netlist_shown t fuses net) fuses → HasControlRows t m fuses
