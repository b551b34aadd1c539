-- Which fuses past the array the canonical file's lines may name (this project's rule).
use Rattle.std.specs.Prelude.{◌≡◌, ℕ, suc, ◌*◌, nat_lt, if◌then◌else◌, List, [], ◌∷◌, Bool, false, drop, slice_range}
use Rattle.std.specs.List.{list_any}
use Rattle.pld_device.specs.ControlFuses.{control_fuses}
use Rattle.pld_device.specs.Table.{Table}

-- the number after the greatest, 0 if there isn't one
abbrev pub past : List ℕ → ℕ
past [] = 0
past (n ∷ ns) = if nat_lt n (past ns) then past ns else suc n

-- the levels past the array, up to the last control fuse
abbrev pub control_levels : Table → List Bool → List Bool
control_levels t fuses = slice_range fuses (t.columns * t.rows) (past (control_fuses t))

-- the number after the last fuse that a line of the canonical file may name
abbrev pub lines_end : Table → ℕ
lines_end t = if nat_lt (t.columns * t.rows) (past (control_fuses t)) then past (control_fuses t) else t.columns * t.rows

-- the fuses that no line may name are 0
abbrev pub IsIntactPastLines : Table → List Bool → Type 0
IsIntactPastLines t fuses = list_any (λ fuse. fuse) (drop (lines_end t) fuses) ≡ false
