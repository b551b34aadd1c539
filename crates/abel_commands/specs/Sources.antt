-- The names of files, and the bytes under them, as lists (this project's rule).
use Rattle.std.specs.Prelude.{ℕ, List, [], map, string_bytes, String, get_or}
use Rattle.std.specs.declared.alloc.Global.{Global}
use Rattle.std.specs.Global.{Vec}

-- the bytes of each name
abbrev pub texts : List (String Global) → List (List ℕ)
texts names = map string_bytes names

-- the bytes of each source
abbrev pub sources_seen : List (Vec ℕ) → List (List ℕ)
sources_seen sources = map (λ source. source.items) sources

-- the source at a place, from 0; no bytes past the last one
abbrev pub source_at : List (List ℕ) → ℕ → List ℕ
source_at sources place = get_or sources place []
