-- Cubes over what the pairs' columns carry: a register's pair carries the complement of its Q (the devices'
-- datasheets, macrocell diagrams). Bit v of a mask says that pair v does.
use Rattle.std.specs.Prelude.{ℕ, List, map, bit_and, bit_or}
use Rattle.fit_plans.specs.Prelude.{bit_not, w32, Cube}

-- the cube with its two levels exchanged at the variables of the mask
abbrev pub turned : (mask : ℕ) → Cube → Cube
turned mask c =
    record {
      yes = bit_or (bit_and c.yes (bit_not w32 mask)) (bit_and c.no mask);
      no = bit_or (bit_and c.no (bit_not w32 mask)) (bit_and c.yes mask);
    }

-- each cube of a list so turned
abbrev pub all_turned : (mask : ℕ) → List Cube → List Cube
all_turned mask cubes = map (turned mask) cubes
