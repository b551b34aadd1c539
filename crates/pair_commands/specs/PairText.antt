-- What is reported of files of two devices (this project's rule).
use Rattle.std.specs.Prelude.{ℕ, ◌==◌, ◌&&◌, Bool, List, ◌∷◌, ◌++◌, map, length, codes}
use Rattle.std.specs.List.{list_any, range_with_len}
use Rattle.pair_commands.specs.Prelude.{bits, cell_at, decimal, device_text, is_on, level_char, Table}
use Rattle.fuse_compare.specs.declared.difference.Difference.{Difference}
use Rattle.pld_base.specs.declared.device_name.DeviceName.{DeviceName}

-- two devices' names, a blank between them
abbrev pub names_text : DeviceName → DeviceName → List ℕ
names_text from to = device_text from ++ 32 ∷ device_text to

-- the line on a file that was ported
abbrev pub ported_line : DeviceName → DeviceName → List ℕ
ported_line from to = codes "ported " ++ names_text from to ++ codes "\n"

-- the line on a cell that has no counterpart in the other device
abbrev pub no_counterpart_line : (pin : ℕ) → List ℕ
no_counterpart_line pin = codes "error NoCounterpart pin " ++ decimal pin ++ codes "\n"

-- the line on two devices whose arrays differ
abbrev pub unported_line : DeviceName → DeviceName → List ℕ
unported_line from to = codes "error Unported " ++ names_text from to ++ codes "\n"

-- the line on files that behave alike
abbrev pub same_line : DeviceName → DeviceName → List ℕ
same_line from to = codes "same " ++ names_text from to ++ codes "\n"

-- a digit for each pin of a device, from pin 1 on
abbrev pub pin_digits : Table → (level : ℕ → Bool) → List ℕ
pin_digits t level = map (λ pin. level_char (level pin)) (range_with_len 1 t.pins)

-- the Q of the cell on the pin, 0 if there is no cell
abbrev pub q_on : Table → (stored : List Bool) → (pin : ℕ) → Bool
q_on t stored pin = list_any (λ c. ((cell_at t c).pin == pin) && is_on stored c) (range_with_len 0 (length t.cells))

-- the line on a state at which they don't, which has the pins of either device: the level outside each pin, the Q stored in the
-- cell on each pin, and whether they differ only after the clock has risen
abbrev pub differ_line : Table → Table → Difference → List ℕ
differ_line f t state =
    codes "differ " ++ names_text f.name t.name
    ++ codes " levels " ++ pin_digits f (is_on (bits 32 state.outside))
    ++ codes " stored " ++ pin_digits f (q_on f (bits 32 state.stored))
    ++ codes " clock " ++ level_char state.clocked ∷ codes "\n"
