-- What reading the sources of a command amounts to (this project's rule).
use Rattle.std.specs.Prelude.{◌≡◌, ℕ, ◌<◌, ◌≤◌, List, [], map, length, get_or, All, Contains}
use Rattle.abel_commands.specs.Prelude.{Map, bytes_at}
use Rattle.abel_commands.specs.declared.sources.SourceFault.{SourceFault}
use Rattle.abel_commands.specs.declared.sources.SourceFault.TheVariants.{Unread, TooLong, OutOfMemory}
use Rattle.abel_commands.specs.Counts.{Count, HasRisen, HasStayed}
use Rattle.abel_commands.specs.Limit.{limit, IsTooLong}

-- these are the bytes under the names, each within the limit, and no call failed
pub record AreSources (told : Type 0) (files : Map) (names : List (List ℕ)) (faults : Count) (sources : List (List ℕ)) : Type 0 where
  pub own : told → sources ≡ map (bytes_at files) names
  pub within : All (λ source. length source ≤ limit) sources
  pub stayed : HasStayed faults

-- the bytes under one of the names are too many
abbrev pub HasLongName : (told : Type 0) → Map → (names : List (List ℕ)) → Type 0
HasLongName told files names = (place : ℕ) × (place < length names) × (told → IsTooLong (bytes_at files (get_or names place [])))

-- the sources were not read for this; lack of memory is no fault of the files
abbrev pub IsWhyUnread : (told : Type 0) → Map → (names : List (List ℕ)) → Count → SourceFault → Type 0
IsWhyUnread told files names faults (Unread name) = Contains names name.now × HasRisen faults
IsWhyUnread told files names faults TooLong = HasLongName told files names × HasStayed faults
IsWhyUnread told files names faults OutOfMemory = Unit {0}
