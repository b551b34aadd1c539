-- The numbers and single levels that fields say (this project's rule: the last field of a kind counts).
use Rattle.std.specs.Prelude.{◌≡◌, ℕ, ◌==◌, ◌&&◌, ◌||◌, Bool, Option, List}
use Rattle.jedec_reader.specs.Prelude.{list_all, Field, last_of, fuse_count, pin_count, default_fuse, sum_said, default_test, is_pin_count, ends_by, Table}
use Rattle.jedec_reader.specs.declared.said.Said.{Said}

-- each is that of the last field that says one
pub record IsSaidBy (fields : List Field) (said : Said) : Type 0 where
  pub fuse_count : said.fuse_count ≡ last_of fuse_count fields
  pub pin_count : said.pin_count ≡ last_of pin_count fields
  pub default_fuse : said.default_fuse ≡ last_of default_fuse fields
  pub fuse_sum : said.fuse_sum ≡ last_of sum_said fields
  pub default_test : said.default_test ≡ last_of default_test fields

-- the number of fuses is one of the device's, and the numbers of pins and of each level go with it
abbrev pub size_fits : Table → (pins : Option ℕ) → List Field → (count : ℕ) → Bool
size_fits t pins fields count =
    (count == t.fuses || count == t.short) && (is_pin_count t pins && list_all (ends_by count) fields)
