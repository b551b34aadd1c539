-- Which polarity the other device's cell gets, and which cells have no counterpart (this project's rule).
use Rattle.std.specs.Prelude.{◌≡◌, ℕ, ◌<◌, Bool, true, false, if◌then◌else◌, Option, None, Some, List, length, ⊤}
use Rattle.fuse_porting.specs.Prelude.{Table, cell_at}
use Rattle.fuse_porting.specs.SameArray.{polarity_fits}
use Rattle.fuse_porting.specs.declared.fault.PortFault.{PortFault}
use Rattle.fuse_porting.specs.declared.fault.PortFault.TheVariants.{NoCounterpart, OutOfMemory}

-- the one that passes; inverted, if both do
abbrev pub fitting : (Bool → Bool) → Option Bool
fitting test = if test true then Some true else (if test false then Some false else None)

-- the cell is on the pin, and no polarity fits
pub record IsWithout (f t : Table) (a : List Bool) (c pin : ℕ) : Type 0 where
  pub within : c < length f.cells
  pub on_pin : pin ≡ (cell_at f c).pin
  pub none : (other : Bool) → polarity_fits f t a c other ≡ false

-- the first such cell is on the pin; or memory ran out
abbrev pub IsPortFault : (f t : Table) → List Bool → PortFault → Type 0
IsPortFault f t a (NoCounterpart pin) =
    (c : ℕ) × IsWithout f t a c pin × ((d : ℕ) → d < c → (other : Bool) × (polarity_fits f t a d other ≡ true))
IsPortFault f t a OutOfMemory = ⊤
