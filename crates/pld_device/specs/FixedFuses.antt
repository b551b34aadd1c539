-- Levels that are the same in every design, and fuses that have others (this project's rule).
use Rattle.std.specs.Prelude.{◌≡◌, ℕ, Bool, Option, Some, None, List, [], ◌∷◌, All, if◌then◌else◌}
use Rattle.pld_base.specs.Bits.{is_on}
use Rattle.pld_device.specs.declared.fuse_bit.FuseBit.{FuseBit}
use Rattle.pld_device.specs.Registers.{says}
use Rattle.pld_device.specs.Table.{Table}

-- the fuse of the first of these levels that the fuses don't have
abbrev pub wrong_fixed : List Bool → List FuseBit → Option ℕ
wrong_fixed fuses [] = None
wrong_fixed fuses (bit ∷ bits) = if says fuses (Some bit) then wrong_fixed fuses bits else Some bit.fuse

-- the fuses have each level that the device fixes
abbrev pub HasFixedLevels : Table → List Bool → Type 0
HasFixedLevels t fuses = All (λ (bit : FuseBit). is_on fuses bit.fuse ≡ bit.level) t.fixed
