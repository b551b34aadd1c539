-- What a command amounts to with its own sources, before anything is written (used inside this crate
-- alone).
use Rattle.std.specs.Prelude.{Contains}
use Rattle.abel_cli.specs.Prelude.{Map, Count, HasRisen, HasStayed, ending_seen, Command}
use Rattle.abel_commands.specs.declared.ending.Outcome.{Outcome}
use Rattle.abel_commands.specs.declared.ending.Outcome.TheVariants as outcome
use Rattle.abel_cli.specs.Run.{EndsOn}

-- with its own sources a command had this result: an ending, or a file that was not read
abbrev pub IsFound : (told : Type 0) → Map → Command → (faults : Count) → Outcome → Type 0
IsFound told files command faults outcome.Usage = ⊥
IsFound told files command faults (outcome.Ended ending) = EndsOn told files command (ending_seen ending) × HasStayed faults
IsFound told files command faults (outcome.Unread name) = Contains command.inputs name.now × HasRisen faults
IsFound told files command faults (outcome.Unwritten name) = ⊥
