-- A source under a choice of the polarity of its free registers (ABEL-HDL Reference Manual, ISTYPE; which registers are free,
-- and that a choice is one for all points, is this project's rule).
use Rattle.std.specs.Prelude.{ℕ, Bool, false, not, ◌&&◌, Option, None, Some}
use Rattle.abel_meaning.specs.Prelude.{Logic, NodeValues, Table, Entry, is_stored, ModuleTree}
use Rattle.pld_machine.specs.Exchanged.{exchanged, exchanged_values}
use Rattle.abel_meaning.specs.Controls.{signal_on}
use Rattle.abel_meaning.specs.Designs.{Context, design_of, name_at}
use Rattle.abel_meaning.specs.SourceLogic.{source_logic, source_values}

-- a register whose words say neither that its pin follows Q nor that it follows the complement
abbrev pub is_free : Entry → Bool
is_free x = is_stored x && (not x.words.buffer && not x.words.invert)

abbrev pub is_free_signal : Context → Option ℕ → Bool
is_free_signal d None = false
is_free_signal d (Some s) = is_free (name_at d s)

-- the free registers that invert, by their cells, of those cells that do
abbrev pub inverting : (inverts : ℕ → Bool) → Context → ℕ → Bool
inverting inverts d c = is_free_signal d (signal_on d c) && inverts c

-- the logic of a module under a choice: what an equation means of a name it means under each choice; a free register that
-- inverts stores the complement of what it stores if its pin follows Q, so its pin is the complement of its Q
abbrev pub source_logic_under : Table → ModuleTree → (inverts : ℕ → Bool) → Logic
source_logic_under t m inverts = exchanged (inverting inverts (design_of t m).context) (source_logic t m)

-- the values that represent its nodes
abbrev pub source_values_under : Table → ModuleTree → (inverts : ℕ → Bool) → NodeValues
source_values_under t m inverts = exchanged_values (inverting inverts (design_of t m).context) (source_values t m)
