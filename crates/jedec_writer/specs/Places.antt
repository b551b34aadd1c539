-- The places of a test vector (private: for the proof that the file is read back).
use Rattle.std.specs.Prelude.{◌≡◌, length}
use Rattle.pld_base.specs.declared.point.Vector.{Vector}

-- it has one for each pin of the largest device, as its type says
abbrev pub HasPlaces : Vector → Type 0
HasPlaces vector = length vector.chars ≡ 24
