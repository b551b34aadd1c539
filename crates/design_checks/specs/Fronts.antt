-- Private: how values are written, as far as it is counted, and what of it is compared (this project's rule).
use Rattle.std.specs.Prelude.{Bool, true, false, Option, Some, List, min}
use Rattle.design_checks.specs.Prelude.{Extension, Statement, statements_of, Context}
use Rattle.abel_tree.specs.declared.words.Extension.TheVariants as extension
use Rattle.design_checks.specs.declared.front.Positions.{Positions}
use Rattle.design_checks.specs.Written.{Written, statements_refused}
use Rattle.design_checks.specs.declared.refused.RefusedUse.{RefusedUse}

-- of a value that is written so, and whether a pin enables each of its signals; 255 represents more
abbrev pub positions_by : Written → (by_pin : Bool) → Positions
positions_by w b = record { count = min w.count 255; whole = w.whole; by_pin = b }

-- an equation for such a part may be compared with what the device does
abbrev pub may_be_compared : Option Extension → Bool
may_be_compared (Some extension.Clk) = true
may_be_compared (Some extension.Oe) = true
may_be_compared _ = false

abbrev pub list_refused : Context → (guarded : Bool) → List Statement → List RefusedUse
list_refused d guarded ss = statements_refused d guarded (statements_of ss)
