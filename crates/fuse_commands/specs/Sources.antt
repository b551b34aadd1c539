-- The bytes of the files that a command reads (this project's rule).
use Rattle.std.specs.Prelude.{◌≡◌, ℕ, ◌≤◌, ◌⊎◌, List, [], length, Option, Some, None, ⊤}
use Rattle.fuse_commands.specs.Prelude.{Count, HasRisen, HasStayed, IsTooLong, Map, bytes_at, limit}
use Rattle.fuse_commands.specs.declared.sources.SourceFault.{SourceFault}
use Rattle.fuse_commands.specs.declared.sources.SourceFault.TheVariants.{Unread, TooLong, OutOfMemory}
use Rattle.fuse_commands.specs.Words.{Command}

-- ---- of one file

-- these are the bytes under the name, within the limit, and no call failed
pub record IsSource (told : Type 0) (files : Map) (name : List ℕ) (faults : Count) (bytes : List ℕ) : Type 0 where
  pub own : told → bytes ≡ bytes_at files name
  pub within : length bytes ≤ limit
  pub stayed : HasStayed faults

-- they were not read for this; lack of memory is no fault of the files
abbrev pub IsWhyNoSource : (told : Type 0) → Map → (name : List ℕ) → Count → SourceFault → Type 0
IsWhyNoSource told files name faults (Unread unread) = (unread.now ≡ name) × HasRisen faults
IsWhyNoSource told files name faults TooLong = (told → IsTooLong (bytes_at files name)) × HasStayed faults
IsWhyNoSource told files name faults OutOfMemory = ⊤

-- ---- of a command's files

-- the bytes of the second file; none where there isn't one
abbrev pub second_of : Map → Option (List ℕ) → List ℕ
second_of files None = []
second_of files (Some name) = bytes_at files name

-- the file of this name is one that the command reads
abbrev pub IsInput : Command → List ℕ → Type 0
IsInput command name = (name ≡ command.first) ⊎ (command.second ≡ Some name)

-- one of the files has too many bytes
abbrev pub HasLongFile : Map → Command → Type 0
HasLongFile files command = IsTooLong (bytes_at files command.first) ⊎ IsTooLong (second_of files command.second)

-- these are the bytes of the command's files, each within the limit, and no call failed
pub record AreSources (told : Type 0) (files : Map) (command : Command) (faults : Count) (first second : List ℕ) : Type 0 where
  pub own : told → (first ≡ bytes_at files command.first) × (second ≡ second_of files command.second)
  pub first_within : length first ≤ limit
  pub second_within : length second ≤ limit
  pub stayed : HasStayed faults

-- they were not read for this
abbrev pub IsWhyUnread : (told : Type 0) → Map → Command → Count → SourceFault → Type 0
IsWhyUnread told files command faults (Unread name) = IsInput command name.now × HasRisen faults
IsWhyUnread told files command faults TooLong = (told → HasLongFile files command) × HasStayed faults
IsWhyUnread told files command faults OutOfMemory = ⊤
