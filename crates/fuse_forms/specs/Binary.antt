-- The binary form of a list of fuses (MAME, the converter jedutil): their number in four bytes, the highest first; then the fuses,
-- eight a byte, the first in its lowest bit.
use Rattle.std.specs.Prelude.{◌≡◌, ◌==◌, ◌&&◌, not, true, ℕ, ◌+◌, ◌*◌, ◌/◌, ◌%◌, nat_le, nat_lt, ◌||◌, ◌≢◌, Bool, false, List, [], length, map, get_or}
use Rattle.std.specs.List.{range_with_len}
use Rattle.fuse_forms.specs.Prelude.{FuseFile, Table, bits, contents, is_on}
use Rattle.fuse_forms.specs.declared.binary_form.BinaryRead.{BinaryRead}
use Rattle.fuse_forms.specs.declared.binary_form.BinaryRead.TheVariants as read

-- the number in the last two of the four bytes
abbrev pub count_of : List ℕ → ℕ
count_of bytes = get_or bytes 3 0 + 256 * get_or bytes 2 0

-- the bytes begin so: with a number below 65,536 that is not 0
abbrev pub is_binary : List ℕ → Bool
is_binary bytes = nat_le 4 (length bytes) && (get_or bytes 0 0 == 0 && (get_or bytes 1 0 == 0 && not (count_of bytes == 0)))

-- how many bytes the form of so many fuses has
abbrev pub binary_len : ℕ → ℕ
binary_len count = 4 + (count + 7) / 8

-- the level of a fuse
abbrev pub fuse_in : List ℕ → ℕ → Bool
fuse_in bytes fuse = is_on (bits 32 (get_or bytes (4 + fuse / 8) 0)) (fuse % 8)

-- the level of a fuse, of which the first ones are listed and the others are 0
abbrev pub level_in : List ℕ → (listed fuse : ℕ) → Bool
level_in bytes listed fuse = nat_lt fuse listed && fuse_in bytes fuse

-- the levels of so many fuses
abbrev pub fuses_in : List ℕ → (listed count : ℕ) → List Bool
fuses_in bytes listed count = map (level_in bytes listed) (range_with_len 0 count)

-- the bytes are the binary form of the fuses; the bits past the last fuse count for nothing
pub record IsBinary (fuses : List Bool) (bytes : List ℕ) : Type 0 where
  pub begins : is_binary bytes ≡ true
  pub count : count_of bytes ≡ length fuses
  pub size : length bytes ≡ binary_len (length fuses)
  pub levels : fuses_in bytes (length fuses) (length fuses) ≡ fuses

-- ---- of a device

-- what so many fuses say alone
abbrev pub only_listed : Table → List ℕ → (listed : ℕ) → FuseFile
only_listed t bytes listed = record { fuses = fuses_in bytes listed t.fuses; listed = listed; vectors = []; default_level = false }

-- the number is one of those of the device's fuses
abbrev pub is_count : Table → ℕ → Bool
is_count t count = count == t.fuses || count == t.short

-- the bytes are the binary form of fuses of the device, and say this
pub record SaysInBinary (t : Table) (bytes : List ℕ) (file : FuseFile) : Type 0 where
  pub count : is_count t (count_of bytes) ≡ true
  pub size : length bytes ≡ binary_len (count_of bytes)
  pub says : file ≡ only_listed t bytes (count_of bytes)

-- what the bytes say, or why they don't say anything
abbrev pub IsReadInBinary : Table → List ℕ → BinaryRead → Type 0
IsReadInBinary t bytes (read.File file) = SaysInBinary t bytes (contents t file) × (length file.fuses ≡ t.fuses)
IsReadInBinary t bytes (read.WrongCount count) = (count ≡ count_of bytes) × (is_count t count ≡ false)
IsReadInBinary t bytes (read.WrongLength found wanted) =
    (is_count t (count_of bytes) ≡ true) × (found ≡ length bytes) × (wanted ≡ binary_len (count_of bytes)) × (found ≢ wanted)
