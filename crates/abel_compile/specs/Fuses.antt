-- The fuses of a module in a device, each by name: rows of the array, the kind and the polarity of each cell, the switches of rows,
-- the fixed fuses and all others (this project's rule).
use Rattle.std.specs.Prelude.{◌≡◌, ◌≢◌, ℕ, ◌*◌, ◌<◌, ◌≤◌, Bool, true, false, not, List, length, Some}
use Rattle.abel_compile.specs.Prelude.{device_logic, is_inverted, Table, Entry, ModuleTree, source_logic_under, design_of, source_vectors}
use Rattle.pld_base.specs.Bits.{is_on}
use Rattle.pld_order.specs.Graphs.{HasNoLoop, has}
use Rattle.pld_device.specs.ControlFuses.{control_fuses}
use Rattle.pld_device.specs.FixedFuses.{HasFixedLevels}
use Rattle.pld_device.specs.Registers.{says}
use Rattle.pld_device.specs.Rows.{is_switched_on}
use Rattle.pld_device.specs.Table.{cell_at, registered_at}
use Rattle.pld_device.specs.declared.flip.Flip.TheVariants.{AfterRegister, Always}
use Rattle.pld_device.specs.declared.kinds.Kinds.TheVariants.{Either}
use Rattle.abel_tree.specs.Entries.{follows_q, is_stored}
use Rattle.bit_expr.specs.declared.netlist.CellWanted.{CellWanted}
use Rattle.bit_expr.specs.declared.netlist.Netlist.{Netlist}
use Rattle.device_logic.specs.CellReads.{cell_reads}
use Rattle.device_logic.specs.ResetPaths.{HasNoResetPath}
use Rattle.device_sim.specs.Compared.{DisagreeAlike}
use Rattle.abel_meaning.specs.Choices.{is_free}
use Rattle.abel_meaning.specs.Designs.{name_at}
use Rattle.netlist_laws.specs.Controls.{HasControlRows}
use Rattle.netlist_laws.specs.Fitting.{IsSpareCell}
use Rattle.netlist_laws.specs.ModuleCovers.{HasPrimeRows}
use Rattle.netlist_laws.specs.PrimeCorrect.{IsAssignedCell, IsUnassignedCell}
use Rattle.netlist_laws.specs.RowCovers.{is_used}
use Rattle.fitter.specs.Order.{AreRowsInOrder}
use Rattle.fitter.specs.Plans.{cell_wanted}
use Rattle.fitter.specs.Rows.{IsDirectOver}
use Rattle.compile_phases.specs.SourceRefusals.{IsNetlistOf}

-- ---- the form of a cell

-- whichever netlist says what the module says: what it asks of the cell has, in the direct form, a prime and irredundant cover with
-- more rows than the cell's room; or a written list that is too long, or it may not have that form, and no cover is tried
abbrev pub HasNoDirectRoom : Table → ModuleTree → ℕ → Type 0
HasNoDirectRoom t m c = (net : Netlist) (cell : CellWanted) → IsNetlistOf t m net → cell_wanted net c ≡ Some cell → IsDirectOver t net c cell

-- a cell is inverted only if it has no room for its direct form; a device that always complements has no direct form
abbrev pub IsDirectFirst : Table → ModuleTree → (fuses : List Bool) → ℕ → Type 0
IsDirectFirst t m fuses c = t.flip ≢ Always → is_inverted t fuses c ≡ true → HasNoDirectRoom t m c

-- the form of a cell that carries this signal: if a fuse chooses its kind, it is a register exactly if the signal is stored;
-- if the device complements after the register, one whose polarity isn't free is inverted exactly if its pin doesn't follow
-- Q; and the cell is inverted only if it has no room for its direct form
pub record HasItsForm (t : Table) (m : ModuleTree) (fuses : List Bool) (c : ℕ) (signal : Entry) : Type 0 where
  pub kind : (cell_at t c).kinds ≡ Either → says fuses (registered_at t c) ≡ is_stored signal
  pub polarity : t.flip ≡ AfterRegister → is_stored signal ≡ true → is_free signal ≡ false → is_inverted t fuses c ≡ not (follows_q signal)
  pub direct_first : IsDirectFirst t m fuses c

-- ---- all fuses

-- of a module's fuses in a device: no chain of reads returns or leads from the reset to a register; the rows of each
-- assigned cell are prime and irredundant, and are in order, and the cell has its form; a cell that nothing assigns has no
-- row; each enable, reset and preset row is that of the module's own control; rows are switched on exactly if they aren't
-- all 0, the fixed fuses have their levels, and each fuse past the array that controls nothing is 0; and if the module's
-- test vectors disagree with the device, they disagree with the module under the choice that the fuses show
pub record AreFusesOf (t : Table) (m : ModuleTree) (fuses : List Bool) : Type 0 where
  pub no_loop : HasNoLoop (length t.cells) (cell_reads t fuses)
  pub no_path : HasNoResetPath t fuses
  pub rows : (c : ℕ) → c < length t.cells → IsAssignedCell (design_of t m).context c → HasPrimeRows t m fuses c
  pub order : (c : ℕ) → c < length t.cells → IsAssignedCell (design_of t m).context c → AreRowsInOrder t fuses c
  pub forms : (c : ℕ) → c < length t.cells → (assigned : IsAssignedCell (design_of t m).context c)
      → HasItsForm t m fuses c (name_at (design_of t m).context assigned.0)
  pub spare : (c : ℕ) → c < length t.cells → IsUnassignedCell (design_of t m).context c → IsSpareCell t fuses c
  pub controls : HasControlRows t m fuses
  pub switches : (row : ℕ) → row < length t.row_switches → is_switched_on t fuses row ≡ is_used t fuses row
  pub fixed : HasFixedLevels t fuses
  pub others : (n : ℕ) → t.columns * t.rows ≤ n → has (control_fuses t) n ≡ false → is_on fuses n ≡ false
  pub vectors : DisagreeAlike (device_logic t fuses) (source_logic_under t m (is_inverted t fuses)) (source_vectors t m)
