-- A module is placed before its sections are read: what is said of it then is said of the placed module (this project's rule).
use Rattle.std.specs.Prelude.{◌≡◌, ℕ, Some, List}
use Rattle.compile_phases.specs.Prelude.{Table, ModuleTree, names_of, PlaceFault, HasNoPlacement, IsPlacedModule}
use Rattle.reports.specs.Placings.{placing_text}
use Rattle.placer.specs.declared.fault.PlaceFault.TheVariants as placing

-- some placed module of this one, of which this holds
pub record IsPlacedFor (holds : Table → ModuleTree → Type 0) (t : Table) (m : ModuleTree) : Type 0 where
  pub placed : ModuleTree
  pub is : IsPlacedModule t m placed
  pub so : holds t placed

-- it can't be placed, and so it is reported
abbrev pub IsUnplacedFor : PlaceFault → (line : List ℕ) → Table → ModuleTree → Type 0
IsUnplacedFor (placing.NoPlacement signals places) line t m =
    HasNoPlacement t m signals.items places × (placing_text (names_of t m) signals.items places ≡ Some line)
IsUnplacedFor placing.OutOfMemory line t m = ⊥
