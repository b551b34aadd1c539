-- Private: a device's cells as a graph, for the searches for an order, a loop and a chain (this project's rule).
use Rattle.std.specs.Prelude.{◌≡◌, ℕ, ◌<◌, Bool, List, length}
use Rattle.device_logic.specs.Prelude.{is_on, Table, stores}
use Rattle.pld_order.specs.Sets.{reads_of}
use Rattle.device_logic.specs.declared.graphs.Reading.{Reading}
use Rattle.device_logic.specs.declared.graphs.Reading.TheVariants.{Waits, Plain}
use Rattle.device_logic.specs.declared.graphs.Question.{Question}
use Rattle.device_logic.specs.declared.graphs.Question.TheVariants.{ReadBy, ReadByReset, Register}
use Rattle.device_logic.specs.CellReads.{cell_reads}
use Rattle.device_logic.specs.ResetPaths.{plain_reads, reset_reads}

-- one cell reads another in this way
abbrev pub reads_as : Table → List Bool → Reading → (c d : ℕ) → Bool
reads_as t fuses Waits c d = cell_reads t fuses c d
reads_as t fuses Plain c d = plain_reads t fuses c d

-- the answer to a question about a cell
abbrev pub holds : Table → List Bool → Question → ℕ → Bool
holds t fuses (ReadBy reading c) d = reads_as t fuses reading c d
holds t fuses ReadByReset d = reset_reads t fuses d
holds t fuses Register d = stores t fuses d

-- it asks of cells of the device
abbrev pub QuestionInRange : Table → Question → Type 0
QuestionInRange t (ReadBy reading c) = c < length t.cells
QuestionInRange t ReadByReset = Unit {0}
QuestionInRange t Register = Unit {0}

-- the set has the cells that pass the test
abbrev pub HasCells : Table → (ℕ → Bool) → List Bool → Type 0
HasCells t test set = (d : ℕ) → d < length t.cells → is_on set d ≡ test d

-- a set for each cell, and whether it has another is what the test says of the two
pub record IsGraph (t : Table) (test : ℕ → ℕ → Bool) (sets : List (List Bool)) : Type 0 where
  pub size : length sets ≡ length t.cells
  pub reads : (c d : ℕ) → c < length t.cells → d < length t.cells → reads_of sets c d ≡ test c d
