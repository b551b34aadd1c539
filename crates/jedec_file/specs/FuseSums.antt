-- The sum of a list of fuses (JESD3-C, fuse checksum field).
use Rattle.std.specs.Prelude.{ℕ, suc, ◌+◌, ◌%◌, ◌^◌, Bool, if◌then◌else◌, List, [], ◌∷◌}

-- the fuses as bytes, added up: fuse n is worth 2 ^ (n mod 8). The list begins with fuse n
abbrev pub weights_from : ℕ → List Bool → ℕ
weights_from n [] = 0
weights_from n (fuse ∷ fuses) = (if fuse then 2 ^ (n % 8) else 0) + weights_from (suc n) fuses

-- the fuse sum
abbrev pub fuse_sum_of : List Bool → ℕ
fuse_sum_of fuses = weights_from 0 fuses % 2 ^ 16
