-- What the memory types hold: files, bytes, the calls that are to fail, and how many calls there were.
use Rattle.std.specs.Prelude.{ℕ, ◌+◌, ◌<◌, ◌^◌, List, Option, option_map, String, Contains}
use Rattle.std.specs.Global.{Vec}
use Rattle.std.specs.declared.alloc.Global.{Global}
use Rattle.std.specs.BTreeMap.{BTreeMap, get_by_text}

-- the bytes that a map has under a name
abbrev pub bytes_in : BTreeMap (String Global) (Vec ℕ) → List ℕ → Option (List ℕ)
bytes_in files name = option_map (λ v. v.items) (get_by_text files name)

-- the call after this many is on the list of those that fail; a call past 2 ^ 32 - 1 is on no list
abbrev pub FailsNext : List ℕ → ℕ → Type 0
FailsNext failing calls = (calls + 1 < 2 ^ 32) × Contains failing (calls + 1)
