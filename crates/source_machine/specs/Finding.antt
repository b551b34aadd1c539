-- Private: the reset or preset that counts for a cell, over the arena (this project's rule).
use Rattle.std.specs.Prelude.{nat_lt, is_some, if◌then◌else◌, Option, None, Some}
use Rattle.source_machine.specs.Prelude.{Formula, Wanted}
use Rattle.bit_expr.specs.declared.netlist.CellWanted.{CellWanted}
use Rattle.bit_expr.specs.declared.netlist.Control.{Control}
use Rattle.source_machine.specs.declared.controls.RegisterControl.{RegisterControl}
use Rattle.source_machine.specs.declared.controls.RegisterControl.TheVariants.{Reset, Preset}

-- an assigned cell's own reset, or preset
abbrev pub own_by : RegisterControl → CellWanted → Option Control
own_by Reset w = w.reset
own_by Preset w = w.preset

-- the same of a cell that may be assigned
abbrev pub own_control : RegisterControl → Option CellWanted → Option Control
own_control which None = None
own_control which (Some w) = own_by which w

-- the same over formulas
abbrev pub own_formula : RegisterControl → Wanted → Option Formula
own_formula Reset w = w.reset
own_formula Preset w = w.preset

-- the cell or the first of those after it, whichever is first by name
abbrev pub before_of : CellWanted → Option CellWanted → CellWanted
before_of w None = w
before_of w (Some v) = if nat_lt v.name w.name then v else w

-- that, if the cell has such an equation
abbrev pub earlier_of : RegisterControl → CellWanted → Option CellWanted → Option CellWanted
earlier_of which w first = if is_some (own_by which w) then Some (before_of w first) else first
