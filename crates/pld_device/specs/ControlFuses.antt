-- The control fuses of a device, past its array (this project's rule).
use Rattle.std.specs.Prelude.{ℕ, ◌++◌, Option, None, Some, List, [], ◌∷◌, map}
use Rattle.pld_device.specs.declared.fuse_bit.FuseBit.{FuseBit}
use Rattle.pld_device.specs.Table.{Table}

-- the fuses that these entries name
abbrev pub fuses_named : List (Option FuseBit) → List ℕ
fuses_named [] = []
fuses_named (None ∷ entries) = fuses_named entries
fuses_named (Some bit ∷ entries) = bit.fuse ∷ fuses_named entries

-- every control fuse: of polarities, of kinds, of rows, and the fixed ones
abbrev pub control_fuses : Table → List ℕ
control_fuses t =
    fuses_named t.inverted
    ++ fuses_named t.registered
    ++ t.row_switches
    ++ map (λ (bit : FuseBit). bit.fuse) t.fixed
