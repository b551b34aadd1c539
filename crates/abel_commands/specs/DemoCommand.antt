-- `demo N`: how it ends, and what that means (this project's rule).
use Rattle.std.specs.Prelude.{◌≡◌, ◌≢◌, ℕ, ◌≤◌, ◌⊎◌, List, [], ◌++◌, length, codes, Ok, None}
use Rattle.abel_commands.specs.Prelude.{decimal, Table, four_hex, FuseFile, file_of, fuse_sum_of, design_cells, Mismatch, CanBeSimulated, IsTheOnlyList, Compiled, IsCompiled, table_at}
use Rattle.abel_meaning.specs.Designs.{design_of}
use Rattle.demo_source.specs.SourceText.{IsDemoSource}
use Rattle.abel_commands.specs.Ending.{Ending, ends, too_long_line}
use Rattle.abel_commands.specs.Limit.{limit, IsTooLong}
use Rattle.abel_commands.specs.Simulating.{RunHas}
use Rattle.abel_commands.specs.SourceCommands.{EndsUncompiled, Fits, IsRefused, IsUnfit}

-- ---- the line

-- a line with the digits of a number of cells
abbrev pub demo_told : (seed : ℕ) → (cells : List ℕ) → (vectors mismatches sum : ℕ) → List ℕ
demo_told seed cells vectors mismatches sum =
    codes "demo " ++ decimal seed
    ++ codes " cells " ++ cells
    ++ codes " vectors " ++ decimal vectors
    ++ codes " mismatches " ++ decimal mismatches
    ++ codes " sum " ++ four_hex sum
    ++ codes "\n"

-- the line on a run: its number, the cells that the source assigns, and of the compiled file its vectors, their mismatches
-- and the sum of its fuses
abbrev pub demo_line : (seed cells vectors mismatches sum : ℕ) → List ℕ
demo_line seed cells vectors mismatches sum = demo_told seed (decimal cells) vectors mismatches sum

-- ---- runs

-- the bytes of a fuse file are read back, and its vectors are run on the device with its fuses, with these mismatches and
-- no others; the line is on this run
pub record IsFileRun (seed cells : ℕ) (t : Table) (bytes : List ℕ) (list : List Mismatch) (report : List ℕ) : Type 0 where
  pub file : FuseFile
  pub read : file_of t bytes ≡ Ok file
  pub can : CanBeSimulated t file
  pub run : RunHas t file list
  pub only : IsTheOnlyList t file list
  pub told : report ≡ demo_line seed cells (length file.vectors) (length list) (fuse_sum_of file.fuses)

-- bytes within the limit are those of a fuse file of the device, whose vectors are simulated
pub record CanBeRun (t : Table) (bytes : List ℕ) : Type 0 where
  pub within : length bytes ≤ limit
  pub file : FuseFile
  pub read : file_of t bytes ≡ Ok file
  pub can : CanBeSimulated t file

-- 0 occurs without a mismatch, and 5 with some
abbrev pub FileEnds : (seed cells : ℕ) → Table → (bytes : List ℕ) → Ending → Type 0
FileEnds seed cells t bytes e =
    ((report : List ℕ) × IsFileRun seed cells t bytes [] report × (e ≡ ends 0 report))
    ⊎ ((report : List ℕ) × ((list : List Mismatch) × (list ≢ []) × IsFileRun seed cells t bytes list report) × (e ≡ ends 5 report))

-- the cells that the placed module of a compiled source assigns
abbrev pub cells_of : (text : List ℕ) (c : Compiled) → IsCompiled text c → ℕ
cells_of text c is = design_cells (design_of (table_at c.device) is.right.placed).context

-- so of a source: it is compiled, and its file is run
pub record IsDemoRun (seed : ℕ) (text : List ℕ) (list : List Mismatch) (report : List ℕ) : Type 0 where
  pub compiled : Compiled
  pub right : IsCompiled text compiled
  pub ran : IsFileRun seed (cells_of text compiled right) (table_at compiled.device) compiled.file.items list report

-- ---- endings

-- how it ends with a source within the limit
abbrev pub DemoEndsWithin : (seed : ℕ) → (text : List ℕ) → Ending → Type 0
DemoEndsWithin seed text e =
    ((c : Compiled) × (is : IsCompiled text c) × FileEnds seed (cells_of text c is) (table_at c.device) c.file.items e)
    ⊎ EndsUncompiled text e

-- how it ends with a source
abbrev pub DemoEndsWith : (seed : ℕ) → (text : List ℕ) → Ending → Type 0
DemoEndsWith seed text e = (IsTooLong text × (e ≡ ends 2 too_long_line)) ⊎ ((length text ≤ limit) × DemoEndsWithin seed text e)

-- how it ends: so with the demo source of its number
abbrev pub DemoEnds : (seed : ℕ) → Ending → Type 0
DemoEnds seed e = (text : List ℕ) × IsDemoSource seed text × DemoEndsWith seed text e

-- what such an ending means
pub record DemoMeans (seed : ℕ) (e : Ending) : Type 0 where
  -- of the demo source of the number
  pub text : List ℕ
  pub source : IsDemoSource seed text
  -- 0, 2, 3 and 5 are its statuses
  pub statuses : (e.status ≡ 0) ⊎ ((e.status ≡ 2) ⊎ ((e.status ≡ 3) ⊎ (e.status ≡ 5)))
  -- 0 occurs for a compiled source whose file's run has no mismatch, and gives its numbers
  pub agrees : e.status ≡ 0 → IsDemoRun seed text [] e.text
  -- 5 occurs for one whose file's run has some
  pub disagrees : e.status ≡ 5 → (list : List Mismatch) × (list ≢ []) × IsDemoRun seed text list e.text
  -- one of the two occurs for a source that fits as it is written
  pub runs_where : Fits text → (e.status ≡ 0) ⊎ (e.status ≡ 5)
  -- 2 is answered exactly for a source that is too long or refused
  pub refused : e.status ≡ 2 → IsRefused text
  pub refused_where : IsRefused text → e.status ≡ 2
  -- 3 is answered only for one that does not fit
  pub unfit : e.status ≡ 3 → IsUnfit text
  -- nothing is written
  pub unwritten : e.output ≡ None
