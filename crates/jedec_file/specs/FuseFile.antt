-- The fuse file: what its bytes say of a device's fuses and tests, or why they aren't one (JESD3-C; the later of two
-- fields counts, the number of fuses must be the device's, and every fuse has a level).
use Rattle.std.specs.Prelude.{ℕ, ◌+◌, ◌-◌, nat_lt, nat_le, ◌==◌, ◌&&◌, ◌||◌, if◌then◌else◌, Bool, true, false, Option, None, Some, is_none, unwrap_or, List, [], ◌∷◌, length, map, take, slice_get, get_or, position, filter_map, Ok, Err}
use Rattle.std.specs.List.{list_all, range_with_len}
use Rattle.std.specs.Option.{option_or}
use Rattle.jedec_file.specs.declared.field.Field.{Field}
use Rattle.jedec_file.specs.declared.field.Field.TheVariants as field
use Rattle.jedec_file.specs.declared.jedec_fault.JedecFault.TheVariants as fault
use Rattle.pld_device.specs.Table.{Table}
use Rattle.jedec_file.specs.FieldLists.{fields_of}
use Rattle.jedec_file.specs.Frame.{frame_of}
use Rattle.jedec_file.specs.FuseSums.{fuse_sum_of}
use Rattle.jedec_file.specs.Refusals.{Read, ◌>>=◌}

-- what a fuse file says: the levels of the device's fuses, the first of which `listed` are the file's and the others 0;
-- the test vectors in rising order of their numbers, each as its characters from pin 1 to the last pin; and the level
-- of pins that a vector doesn't drive
pub record FuseFile : Type 0 where
  pub fuses : List Bool
  pub listed : ℕ
  pub vectors : List (List ℕ)
  pub default_level : Bool

-- what a file of these fuses alone says: it lists all of them, has no vectors, and its default level is 0
abbrev pub only_fuses : Table → List Bool → FuseFile
only_fuses t fuses = record { fuses = fuses; listed = t.fuses; vectors = []; default_level = false }

-- ---- what a single field says: None if it doesn't speak of it

-- the number of fuses
abbrev pub fuse_count : Field → Option ℕ
fuse_count (field.FuseCount n) = Some n
fuse_count other = None

-- the number of pins
abbrev pub pin_count : Field → Option ℕ
pin_count (field.PinCount n) = Some n
pin_count other = None

-- the level of the fuses that are in no list
abbrev pub default_fuse : Field → Option Bool
default_fuse (field.DefaultFuse level) = Some level
default_fuse other = None

-- the level of a fuse
abbrev pub level_at : ℕ → Field → Option Bool
level_at n (field.Levels first levels) = if nat_le first n then slice_get levels (n - first) else None
level_at n other = None

-- the fuse sum
abbrev pub sum_said : Field → Option ℕ
sum_said (field.FuseSum n) = Some n
sum_said other = None

-- the level of the pins that no vector drives
abbrev pub default_test : Field → Option Bool
default_test (field.DefaultTest level) = Some level
default_test other = None

-- the pin of each place of a vector
abbrev pub pin_order : Field → Option (List ℕ)
pin_order (field.PinOrder order) = Some order
pin_order other = None

-- the characters of the vector of a number
abbrev pub vector_at : ℕ → Field → Option (List ℕ)
vector_at n (field.Vector number chars) = if number == n then Some chars else None
vector_at n other = None

-- ---- what all fields say

-- the last of the fields counts
abbrev pub last_of : {A : Type 0} → (Field → Option A) → List Field → Option A
last_of says [] = None
last_of says (f ∷ fs) = option_or (last_of says fs) (says f)

-- the field's levels are those of fuses below n
abbrev pub ends_by : ℕ → Field → Bool
ends_by n (field.Levels first levels) = nat_le (first + length levels) n
ends_by n other = true

-- the number of pins, if it is said, is the device's
abbrev pub is_pin_count : Table → Option ℕ → Bool
is_pin_count t None = true
is_pin_count t (Some n) = n == t.pins

-- the number of fuses is said and is one of the device's, and the numbers of pins and of each level go with it
abbrev pub is_size : Table → List Field → ℕ → Bool
is_size t fields n =
    (n == t.fuses || n == t.short) && (is_pin_count t (last_of pin_count fields) && list_all (ends_by n) fields)

-- that number, if it is said and fits
abbrev pub size_said : Table → List Field → Option ℕ → Read ℕ
size_said t fields None = Err fault.WrongSize
size_said t fields (Some n) = if is_size t fields n then Ok n else Err fault.WrongSize

-- the number of fuses that the file lists
unfoldable pub size_of : Table → List Field → Read ℕ
size_of t fields = size_said t fields (last_of fuse_count fields)

-- the first fuse that is in no list
abbrev pub first_unlisted : List Field → ℕ → Option ℕ
first_unlisted fields listed = position (λ n. is_none (last_of (level_at n) fields)) (range_with_len 0 listed)

-- if every fuse is in a list, the level of the others is of no account
abbrev pub none_unlisted : Option ℕ → Read Bool
none_unlisted None = Ok false
none_unlisted (Some n) = Err (fault.Unlisted n)

-- the level that is said; if none is, each fuse must be in a list
abbrev pub default_said : List Field → ℕ → Option Bool → Read Bool
default_said fields listed (Some level) = Ok level
default_said fields listed None = none_unlisted (first_unlisted fields listed)

-- the level of the fuses that are in no list
unfoldable pub default_of : List Field → ℕ → Read Bool
default_of fields listed = default_said fields listed (last_of default_fuse fields)

-- the levels of the device's fuses
unfoldable pub fuses_said : Table → List Field → ℕ → Bool → List Bool
fuses_said t fields listed default =
    map (λ n. if nat_lt n listed then unwrap_or (last_of (level_at n) fields) default else false) (range_with_len 0 t.fuses)

-- the fuse sum, if it is said, is that of the fuses
abbrev pub sum_agrees : Option ℕ → ℕ → Read ℕ
sum_agrees None found = Ok found
sum_agrees (Some read) found = if read == found then Ok found else Err (fault.FuseSum read found)

-- the fuse sum that the file may say, against that of its fuses
unfoldable pub fuse_sum_read : List Field → ℕ → List Bool → Read ℕ
fuse_sum_read fields listed fuses = sum_agrees (last_of sum_said fields) (fuse_sum_of (take listed fuses))

-- ---- vectors

-- the pin of each place of a vector
abbrev pub order_of : Table → List Field → List ℕ
order_of t fields = unwrap_or (last_of pin_order fields) (range_with_len 1 t.pins)

-- the characters by pins: that of a pin is at the place that the order gives it
abbrev pub by_pins : List ℕ → List ℕ → List ℕ
by_pins order chars =
    map (λ pin. get_or chars (unwrap_or (position (λ other. other == pin) order) 0) 0) (range_with_len 1 (length order))

-- the vectors: the last one of each number
unfoldable pub vectors_of : Table → List Field → List (List ℕ)
vectors_of t fields =
    map (by_pins (order_of t fields)) (filter_map (λ n. last_of (vector_at n) fields) (range_with_len 1 65535))

-- ---- the file

-- what the fields say, or the first refusal of theirs
unfoldable pub contents_of : Table → List Field → Read FuseFile
contents_of t fields =
    size_of t fields >>= λ listed.
    default_of fields listed >>= λ default.
    fuse_sum_read fields listed (fuses_said t fields listed default) >>= λ sum.
    Ok (record {
      fuses = fuses_said t fields listed default;
      listed = listed;
      vectors = vectors_of t fields;
      default_level = unwrap_or (last_of default_test fields) false;
    })

-- what the bytes say
unfoldable pub file_of : Table → List ℕ → Read FuseFile
file_of t bytes =
    frame_of bytes >>= λ framed.
    fields_of t framed >>= λ fields.
    contents_of t fields
