-- The levels that lists of fuses say, as a table by fuse (JESD3-C, fuse list fields; the later list counts).
use Rattle.std.specs.Prelude.{◌≡◌, ℕ, ◌-◌, nat_lt, nat_le, if◌then◌else◌, Bool, false, Option, None, Some, is_none, unwrap_or, List, map, slice_get, get_or, length, position, Ok}
use Rattle.jedec_reader.specs.Prelude.{range_with_len, Field, last_of, level_at, none_unlisted, Read}
use Rattle.std.specs.Option.{option_or}

-- what the fields say of the first fuses
abbrev pub levels_said : List Field → (count : ℕ) → List (Option Bool)
levels_said fields count = map (λ n. last_of (level_at n) fields) (range_with_len 0 count)

-- what a list of levels from a first fuse on says of fuse n
abbrev pub level_in : (first : ℕ) → List Bool → ℕ → Option Bool
level_in first levels n = if nat_le first n then slice_get levels (n - first) else None

-- the list is put over what was said before
abbrev pub HasPut : (first : ℕ) → List Bool → (old new : List (Option Bool)) → Type 0
HasPut first levels old new = (n : ℕ) → get_or new n None ≡ option_or (level_in first levels n) (get_or old n None)

-- the level that is said; if none is, it is of no account, and each fuse of the table must have one
abbrev pub default_in : List (Option Bool) → Option Bool → Read Bool
default_in table (Some level) = Ok level
default_in table None = none_unlisted (position is_none table)

-- the levels of the listed fuses, and 0 past them
abbrev pub filled : List (Option Bool) → (listed : ℕ) → Bool → List Bool
filled table listed default =
    map (λ n. if nat_lt n listed then unwrap_or (get_or table n None) default else false) (range_with_len 0 (length table))
