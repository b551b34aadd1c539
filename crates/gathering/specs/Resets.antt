-- What a reset names, and what holds of a design whose targets were accepted (this project's rule).
use Rattle.std.specs.Prelude.{◌≡◌, ℕ, Bool, true, IsSome}
use Rattle.gathering.specs.Prelude.{Leaf, APin, control_of, Context, Design, name_at, formulas, given_formulas, names_if_any}
use Rattle.abel_tree.specs.declared.words.Extension.TheVariants as extension
use Rattle.pld_device.specs.Pins.{cell_on}

-- the reset equation of a signal names the leaf
abbrev pub reset_names : Design → (s : ℕ) → Leaf → Bool
reset_names d s = names_if_any (control_of (formulas d.context) (given_formulas d) s extension.Ar)

-- each pin that is assigned is that of a cell
abbrev pub AssignedHaveCells : Context → Type 0
AssignedHaveCells d =
    (s pin : ℕ) (negated : Bool) → (name_at d s).kind ≡ APin pin negated → (name_at d s).assigned ≡ true
    → IsSome (cell_on d.device pin)
