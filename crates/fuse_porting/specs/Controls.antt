-- The fuses of the other device, one by one: those of the array, and those past it by what they control (private; this
-- project's rule).
use Rattle.std.specs.Prelude.{◌≡◌, ℕ, ◌*◌, ◌/◌, ◌<◌, ◌≤◌, ◌==◌, Bool, true, false, ◌&&◌, if◌then◌else◌, Option, Some, None, List, slice_get}
use Rattle.fuse_porting.specs.Prelude.{is_on, same_level, is_switched_on, Control, Inverts, Registers, Switches, IsFixed, fuse_for, Table, inverted_at}
use Rattle.pld_device.specs.declared.fuse_bit.FuseBit.{FuseBit}

-- the level by which a control fuse says what is reported, if there is the fuse
abbrev pub told_level : Option FuseBit → Bool → Bool
told_level None told = false
told_level (Some bit) told = same_level bit.level told

-- the same, if the control fuse is this one
abbrev pub told_by : Option FuseBit → ℕ → Bool → Option Bool
told_by None fuse told = None
told_by (Some bit) fuse told = if bit.fuse == fuse then Some (same_level bit.level told) else None

-- the level that a control fuse is to have: each row is switched on
abbrev pub wanted_level : Table → List Bool → Control → Bool
wanted_level t polarities (Inverts c) = told_level (inverted_at t c) (is_on polarities c)
wanted_level t polarities (Registers c) = false
wanted_level t polarities (Switches row) = true
wanted_level t polarities (IsFixed index) = told_level (slice_get t.fixed index) true

-- a level that was found is that of something that the fuse controls
abbrev pub IsFoundFor : Table → (Control → Bool) → ℕ → Option Bool → Type 0
IsFoundFor t levels fuse None = Unit {0}
IsFoundFor t levels fuse (Some level) = (what : Control) × (fuse_for t what ≡ Some fuse) × (level ≡ levels what)

-- the fuse controls nothing
abbrev pub IsNoControl : Table → ℕ → Type 0
IsNoControl t fuse = (what : Control) → fuse_for t what ≡ Some fuse → ⊥

-- a level for a fuse past the array: that of what it controls, and 0 if it controls nothing
pub record IsControlLevel (t : Table) (polarities : List Bool) (fuse : ℕ) (level : Bool) : Type 0 where
  pub control : (what : Control) → fuse_for t what ≡ Some fuse → level ≡ wanted_level t polarities what
  pub free : IsNoControl t fuse → level ≡ false

-- a level for any fuse
pub record IsPortedLevel (f t : Table) (a polarities : List Bool) (n : ℕ) (level : Bool) : Type 0 where
  pub array : n < t.columns * t.rows → level ≡ (is_switched_on f a (n / t.columns) && is_on a n)
  pub past : t.columns * t.rows ≤ n → IsControlLevel t polarities n level
