-- What a contract sees of a fuse file that was read.
use Rattle.std.specs.Prelude.{◌≡◌, ℕ, ◌≤◌, ◌<◌, get_or}
use Rattle.jedec_reader.specs.Prelude.{Vector, Table, all_chars}
use Rattle.jedec_file.specs.FuseFile as said
use Rattle.jedec_reader.specs.declared.fuse_file.FuseFile.{FuseFile}

-- the same, with the characters of each vector at the device's pins
abbrev pub contents : Table → FuseFile → said.FuseFile
contents t file =
    record {
      fuses = file.fuses;
      listed = file.listed;
      vectors = all_chars t file.vectors;
      default_level = file.default_level;
    }

-- past the device's pins a vector has `N`
abbrev pub IsPadded : Table → Vector → Type 0
IsPadded t vector = (k : ℕ) → t.pins ≤ k → k < 24 → get_or vector.chars k 0 ≡ 78
