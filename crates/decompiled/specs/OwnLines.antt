-- Which lines of a decompiled source are those of a cell's signal (this project's rule).
use Rattle.std.specs.Prelude.{◌≡◌, ℕ, ◌<◌, Bool, List, [], ◌∷◌, filter, length, if◌then◌else◌}
use Rattle.decompiled.specs.Prelude.{Table, cell_at}
use Rattle.abel_tree.specs.declared.words.Extension.TheVariants as extension
use Rattle.decompiled.specs.LineGives.{is_data_line, is_control_line}
use Rattle.decompiled.specs.Sources.{lines_of, data_line, enable_lines, has_lines}

-- the signal of the cell's pin is no other cell's
abbrev pub IsOwnSignal : Table → (ℕ → ℕ) → (cell : ℕ) → Type 0
IsOwnSignal t signal_of c =
    (d : ℕ) → d < length t.cells → signal_of (cell_at t d).pin ≡ signal_of (cell_at t c).pin → d ≡ c

-- its data is its data line, and its enable its enable line; there is neither if the cell has no lines
pub record HasOwnLines (t : Table) (fuses : List Bool) (signal_of : ℕ → ℕ) (c : ℕ) : Type 0 where
  pub data_is : filter (is_data_line signal_of (signal_of (cell_at t c).pin)) (lines_of t fuses)
      ≡ (if has_lines t fuses c then data_line t fuses c ∷ [] else [])
  pub enable_is : filter (is_control_line signal_of (signal_of (cell_at t c).pin) extension.Oe) (lines_of t fuses)
      ≡ (if has_lines t fuses c then enable_lines t fuses c (cell_at t c).enable else [])

-- so it is of every cell whose signal is its own
abbrev pub CellsHaveTheirLines : Type 0
CellsHaveTheirLines =
    (t : Table) (fuses : List Bool) (signal_of : ℕ → ℕ) (c : ℕ) → c < length t.cells → IsOwnSignal t signal_of c
    → HasOwnLines t fuses signal_of c
