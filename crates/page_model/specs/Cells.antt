-- What a page says of the cells (the devices' datasheets, macrocell diagrams; what is said is this project's rule).
use Rattle.std.specs.Prelude.{ℕ, Bool, true, false, not, if◌then◌else◌, Option, None, Some, List, length}
use Rattle.std.specs.List.{list_any, range_with_len}
use Rattle.abel_tree.specs.Entries.{Entry}
use Rattle.fuse_listing.specs.Listing.{complements_output, name_on, rows_in_use}
use Rattle.pld_device.specs.Reads.{is_never_true, row_reads}
use Rattle.pld_device.specs.Registers.{stores}
use Rattle.pld_device.specs.Table.{Table, cell_at}
use Rattle.pld_device.specs.declared.enable.Enable.{Enable}
use Rattle.pld_device.specs.declared.enable.Enable.TheVariants.{Row, PinLow, Driven, Released}
use Rattle.page_model.specs.Idle.{idle_levels}
use Rattle.page_model.specs.PinNames.{is_assigned}
use Rattle.page_model.specs.declared.cell_facts.CellFacts.{CellFacts}
use Rattle.page_model.specs.declared.drives.Drives.{Drives}
use Rattle.page_model.specs.declared.drives.Drives.TheVariants.{Never, Always, ByRow, WhileLow}

-- the row reads no pair
abbrev pub reads_nothing : Table → List Bool → (row : ℕ) → Bool
reads_nothing t fuses row = not (list_any (row_reads t fuses row) (range_with_len 0 (length t.pairs)))

-- when a row enables that is never true, or else reads nothing
abbrev pub drives_by_row : (never nothing : Bool) → (row : ℕ) → Drives
drives_by_row true nothing row = Never
drives_by_row false true row = Always
drives_by_row false false row = ByRow row

-- when what enables a cell does so
abbrev pub drives_by : Table → List Bool → Enable → Drives
drives_by t fuses (Row row) = drives_by_row (is_never_true t fuses row) (reads_nothing t fuses row) row
drives_by t fuses (PinLow pin) = WhileLow pin
drives_by t fuses Driven = Always
drives_by t fuses Released = Never

-- when a cell drives its pin
abbrev pub drives_of : Table → List Bool → (cell : ℕ) → Drives
drives_of t fuses c = drives_by t fuses (cell_at t c).enable

-- the row that all registers share, for a cell that is one
abbrev pub shared_row : (is_register : Bool) → Option ℕ → Option ℕ
shared_row is_register row = if is_register then row else None

-- a cell, whose pin's first name is one of these
abbrev pub cell_facts : Table → List Bool → List Entry → (cell : ℕ) → CellFacts
cell_facts t fuses es c = record {
  pin = (cell_at t c).pin;
  is_assigned = is_assigned (name_on es (cell_at t c).pin);
  is_register = stores t fuses c;
  is_inverted = complements_output t fuses c;
  used = length (rows_in_use t fuses c);
  room = (cell_at t c).room;
  drives = drives_of t fuses c;
  idle = idle_levels t fuses c;
  reset = shared_row (stores t fuses c) t.reset;
  preset = shared_row (stores t fuses c) t.preset;
}
