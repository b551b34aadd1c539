-- What comparing two fuse files show: that they behave alike, or a state at which they don't (this project's rule).
use Rattle.std.specs.Prelude.{◌≡◌, ℕ, ◌==◌, ◌&&◌, Bool, List, ◌∷◌, ◌++◌, map, length, codes}
use Rattle.abel_commands.specs.Prelude.{list_any, range_with_len, bits, is_on, device_text, level_char, device_logic, Table, cell_at}
use Rattle.pld_base.specs.Logic.{Logic}
use Rattle.fuse_compare.specs.declared.difference.Difference.{Difference}
use Rattle.fuse_compare.specs.Alike.{AreAlike, IsDifference, RunsAlike}
use Rattle.fuse_compare.specs.Compared.{IsPlainState}
use Rattle.abel_commands.specs.Loading.{CanLoad}

-- ---- texts

-- a digit for each pin of the device, from pin 1 on
abbrev pub pin_digits : Table → (level : ℕ → Bool) → List ℕ
pin_digits t level = map (λ pin. level_char (level pin)) (range_with_len 1 t.pins)

-- the Q of the cell on the pin, 0 if there is no cell
abbrev pub q_on : Table → (stored : List Bool) → (pin : ℕ) → Bool
q_on t stored pin = list_any (λ c. ((cell_at t c).pin == pin) && is_on stored c) (range_with_len 0 (length t.cells))

-- the line on files that behave alike
abbrev pub same_line : Table → List ℕ
same_line t = codes "same " ++ device_text t.name ++ codes "\n"

-- the line on a state at which they don't: the level outside each pin, the Q stored in the cell on each pin, and whether they
-- differ only after the clock has risen
abbrev pub differ_line : Table → Difference → List ℕ
differ_line t state =
    codes "differ " ++ device_text t.name
    ++ codes " levels " ++ pin_digits t (is_on (bits 32 state.outside))
    ++ codes " stored " ++ pin_digits t (q_on t (bits 32 state.stored))
    ++ codes " clock " ++ level_char state.clocked ∷ codes "\n"

-- ---- pairs

-- the device with the fuses of a file
abbrev pub logic_with : (t : Table) (bytes : List ℕ) → CanLoad t bytes → Logic
logic_with t bytes it = device_logic t it.file.fuses

-- the bytes are two fuse files of the device that are loaded, and with their fuses it behaves alike
pub record BehaveAlike (t : Table) (a b : List ℕ) : Type 0 where
  pub first : CanLoad t a
  pub second : CanLoad t b
  pub alike : AreAlike (logic_with t a first) (logic_with t b second)

-- two such files, with whose fuses it doesn't
pub record BehaveOtherwise (t : Table) (a b : List ℕ) : Type 0 where
  pub first : CanLoad t a
  pub second : CanLoad t b
  pub otherwise : AreAlike (logic_with t a first) (logic_with t b second) → ⊥

-- they behave alike, and so do all their runs; the line says so
pub record AreSame (t : Table) (a b report : List ℕ) : Type 0 where
  pub of : BehaveAlike t a b
  pub runs : RunsAlike (logic_with t a of.first) (logic_with t b of.second)
  pub told : report ≡ same_line t

-- they differ at the state that the line reports
pub record AreDifferent (t : Table) (a b report : List ℕ) : Type 0 where
  pub first : CanLoad t a
  pub second : CanLoad t b
  pub state : Difference
  pub differ : IsDifference (logic_with t a first) (logic_with t b second) state
  pub told : report ≡ differ_line t state

-- that state has no level of 1 but at a pin for signals, and no Q of 1 but at a cell that stores with the fuses of one of the files
abbrev pub IsPlain : (t : Table) (a b report : List ℕ) → AreDifferent t a b report → Type 0
IsPlain t a b report it = IsPlainState t it.first.file.fuses it.second.file.fuses it.state
