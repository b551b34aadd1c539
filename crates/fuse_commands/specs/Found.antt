-- What a command amounts to before anything is written (private).
use Rattle.fuse_commands.specs.Prelude.{Count, HasRisen, HasStayed, Map, ending_seen}
use Rattle.fuse_reports.specs.declared.ending.Outcome.{Outcome}
use Rattle.fuse_reports.specs.declared.ending.Outcome.TheVariants as outcome
use Rattle.fuse_commands.specs.Run.{EndsOn}
use Rattle.fuse_commands.specs.Sources.{IsInput}
use Rattle.fuse_commands.specs.Words.{Command}

-- with the bytes of its files a command had this result: an ending, or a file that was not read
abbrev pub IsFound : (told : Type 0) → Map → Command → (faults : Count) → Outcome → Type 0
IsFound told files command faults (outcome.Ended ending) = EndsOn told files command (ending_seen ending) × HasStayed faults
IsFound told files command faults (outcome.Unread name) = IsInput command name.now × HasRisen faults
IsFound told files command faults (outcome.Unwritten name) = ⊥
