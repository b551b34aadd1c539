-- The covers of the cells and controls of a netlist, over the pairs' columns (this project's rule).
use Rattle.std.specs.Prelude.{◌≡◌, ◌⊎◌, ℕ, Bool, true, false, if◌then◌else◌, Option, None, Some, List, length}
use Rattle.fit_plans.specs.Prelude.{Vec, CellWanted, Function, Netlist, Cube, Flip, CanLower}
use Rattle.bit_expr.specs.declared.node.ExprId.{ExprId}
use Rattle.fit_plans.specs.Choices.{FitsRoom}
use Rattle.fit_plans.specs.Covering.{IsTried}
use Rattle.fit_plans.specs.Points.{IsCarried}
use Rattle.fit_plans.specs.Tries.{allowed_of, needed_of}
use Rattle.fit_plans.specs.declared.choosing.Tried.{Tried}
use Rattle.fit_plans.specs.Forms.{may_be_inverted_as, rows_are_positive}

-- what covering a function needs: it can be lowered, and all levels of the pairs are carried to it from some point
pub record CanCover (vars : ℕ) (net : Netlist) (f : Function) : Type 0 where
  pub one : CanLower net f.one
  pub any : CanLower net f.any
  pub carried : (pairs : List Bool) → length pairs ≡ vars → IsCarried net f pairs

-- the cover of a function by rows that have what its `one` has, or the complement; none if it is too wide
abbrev pub IsCoverOf : (vars mask : ℕ) → Netlist → Function → (positive : Bool) → Option (Vec Cube) → Type 0
IsCoverOf vars mask net f positive rows = IsTried vars mask (needed_of net f positive) (allowed_of net f positive) rows

-- the cover of a cell in one form if it may have the form, else none
abbrev pub IsTriedAs : Flip → (vars mask : ℕ) → Netlist → CellWanted → (inverted : Bool) → Option (Vec Cube) → Type 0
IsTriedAs flip vars mask net w inverted rows =
    (may_be_inverted_as flip w inverted ≡ true → IsCoverOf vars mask net w.function (rows_are_positive flip w inverted) rows)
    × (may_be_inverted_as flip w inverted ≡ false → rows ≡ None)

-- the direct form of a cell, and the inverted one if the direct one doesn't fit the room; else that isn't tried
pub record IsTriedCell (flip : Flip) (room vars mask : ℕ) (net : Netlist) (w : CellWanted) (tried : Tried) : Type 0 where
  pub direct : IsTriedAs flip vars mask net w false tried.direct
  pub inverted : (FitsRoom room tried.direct → ⊥) → IsTriedAs flip vars mask net w true tried.inverted
  pub untried : FitsRoom room tried.direct → tried.inverted ≡ None

-- a list on the way to one of the two lists of a function passes the limit
abbrev pub HasNoLists : Netlist → Function → (positive : Bool) → Type 0
HasNoLists net f positive = (needed_of net f positive ≡ None) ⊎ (allowed_of net f positive ≡ None)

-- the cell may have the form, and has both lists in it
pub record IsListedAs (flip : Flip) (net : Netlist) (w : CellWanted) (inverted : Bool) : Type 0 where
  pub may : may_be_inverted_as flip w inverted ≡ true
  pub lists : HasNoLists net w.function (rows_are_positive flip w inverted) → ⊥

-- a control as a function: never any
abbrev pub control_function : ExprId → Function
control_function bit = record { one = bit; any = record { 0 = 0 }; complement = false }
