-- The summary of a compiled source: the assigned cells, the data rows in use, the opened fuses and the fuse sum (this
-- project's report).
use Rattle.std.specs.Prelude.{◌≡◌, ℕ, Bool, List, ◌++◌, codes, count_by, is_some, length, sum_by}
use Rattle.reports.specs.Prelude.{decimal, range_with_len, Table, PlainNetlist, wanted_at, is_used}
use Rattle.pld_base.specs.DeviceNames.{device_text}
use Rattle.pld_device.specs.Laws.{IsDevice}
use Rattle.pld_device.specs.Macrocells.{data_rows}
use Rattle.pld_device.specs.OpenedFuses.{opened_of}
use Rattle.jedec_file.specs.FileText.{four_hex}
use Rattle.jedec_file.specs.FuseSums.{fuse_sum_of}
use Rattle.abel_tree.specs.Tree.{ModuleTree}
use Rattle.abel_meaning.specs.Controls.{signal_on}
use Rattle.abel_meaning.specs.Designs.{Context, design_of}
use Rattle.netlist_laws.specs.Gathered.{netlist_of}

-- how many data rows of a cell aren't all 0
unfoldable pub rows_used : Table → List Bool → (cell : ℕ) → ℕ
rows_used t fuses c = count_by (is_used t fuses) (data_rows t c)

-- those of all cells
unfoldable pub products_used : Table → List Bool → ℕ
products_used t fuses = sum_by (rows_used t fuses) (range_with_len 0 (length t.cells))

-- how many cells a netlist asks something of
unfoldable pub assigned_cells : Table → PlainNetlist → ℕ
assigned_cells t net = count_by (λ c. is_some (wanted_at net c)) (range_with_len 0 (length t.cells))

-- the line on so many assigned cells and on fuses
abbrev pub summary_of : Table → (cells : ℕ) → List Bool → List ℕ
summary_of t cells fuses =
    codes "compiled " ++ device_text t.name
    ++ codes " cells " ++ decimal cells
    ++ codes " products " ++ decimal (products_used t fuses)
    ++ codes " opened " ++ decimal (opened_of fuses)
    ++ codes " sum " ++ four_hex (fuse_sum_of fuses)
    ++ codes "\n"

-- how many cells of its device a design assigns
abbrev pub design_cells : Context → ℕ
design_cells d = count_by (λ c. is_some (signal_on d c)) (range_with_len 0 (length d.device.cells))

-- of the netlist of a module, as many as the module assigns
abbrev pub SummaryCountsTheDesign : Type 0
SummaryCountsTheDesign =
    (t : Table) (m : ModuleTree) (net : PlainNetlist) → IsDevice t → net ≡ netlist_of t m → assigned_cells t net ≡ design_cells (design_of t m).context
