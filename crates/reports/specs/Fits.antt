-- How it is reported that a netlist doesn't fit; lack of memory is no refusal (this project's report).
use Rattle.std.specs.Prelude.{ℕ, Option, None, Some, List, [], ◌∷◌, ◌++◌, codes, length}
use Rattle.reports.specs.Prelude.{decimal, flat_map, option_to_list, Table, cell_at, Entry, Ranks, first_refusal, cell_wanted, own_control}
use Rattle.std.specs.Global.{Vec}
use Rattle.bit_expr.specs.declared.netlist.CellWanted.{CellWanted}
use Rattle.bit_expr.specs.declared.netlist.Control.{Control}
use Rattle.bit_expr.specs.declared.netlist.Netlist.{Netlist}
use Rattle.covers.specs.declared.cube.Cube.{Cube}
use Rattle.fit_plans.specs.declared.choosing.Tried.{Tried}
use Rattle.fitter.specs.declared.shared.SharedControl.{SharedControl}
use Rattle.fitter.specs.declared.shared.SharedControl.TheVariants.{Preset, Reset}
use Rattle.fitter.specs.declared.fault.FitFault.{FitFault}
use Rattle.fitter.specs.declared.fault.FitFault.TheVariants as fault
use Rattle.reports.specs.RefusalTold.{line_head}
use Rattle.reports.specs.DesignTold.{names_text, told}

-- ---- the first reset, or preset, of a source

-- the cells' own resets, or presets
abbrev pub own_controls : SharedControl → List CellWanted → List Control
own_controls which cells = flat_map (λ (w : CellWanted). option_to_list (own_control which w)) cells

-- by the places of their first targets
abbrev pub control_order : Ranks Control
control_order = record { place = λ (c : Control). c.place; rank = λ (c : Control). 0 }

-- the first of them
abbrev pub first_own : SharedControl → Netlist → Option Control
first_own which net = first_refusal control_order (own_controls which net.cells)

-- ---- the lines

-- at the first target of a control that there may be
abbrev pub control_text : List Entry → (word : List ℕ) → Option Control → (numbers : List ℕ) → Option (List ℕ)
control_text es word None numbers = None
control_text es word (Some control) numbers = told es word control.place numbers

-- at the first target of a cell, with its name
abbrev pub wide_text : List Entry → Option CellWanted → Option (List ℕ)
wide_text es None = None
wide_text es (Some w) = told es (codes "TooWide") w.place (w.name ∷ [])

-- at the second cell's reset, or preset, with both names
abbrev pub unshared_text : List Entry → SharedControl → (first second : Option CellWanted) → Option (List ℕ)
unshared_text es which None second = None
unshared_text es which (Some v) None = None
unshared_text es which (Some v) (Some w) = control_text es (codes "NotShared") (own_control which w) (v.name ∷ w.name ∷ [])

-- at the enable, with the cell's name
abbrev pub enable_text : List Entry → Option CellWanted → Option (List ℕ)
enable_text es None = None
enable_text es (Some w) = control_text es (codes "EnableTooWide") w.enable (w.name ∷ [])

-- how many rows a cover has; none was tried if the cell may not have the form, or its lists are too long
abbrev pub count_text : Option (Vec Cube) → List ℕ
count_text None = codes "-"
count_text (Some rows) = decimal (length rows.items)

-- how many rows a cell has, and how many its covers have
abbrev pub tried_text : (room : ℕ) → Tried → List ℕ
tried_text room tried =
    codes " room " ++ (decimal room ++ (codes " covers " ++ (count_text tried.direct ++ (codes " " ++ (count_text tried.inverted ++ codes "\n")))))

-- at the first target of a cell, with its name
abbrev pub room_text : Table → List Entry → Tried → Option CellWanted → Option (List ℕ)
room_text t es tried None = None
room_text t es tried (Some w) =
    Some (line_head (codes "TooManyProducts") w.place ++ (names_text es (w.name ∷ []) ++ tried_text (cell_at t w.cell).room tried))

-- the line of a refusal of the fit; none for lack of memory
abbrev pub fit_text : Table → List Entry → Netlist → FitFault → Option (List ℕ)
fit_text t es net (fault.TooWide c) = wide_text es (cell_wanted net c)
fit_text t es net (fault.NotShared which a b point) = unshared_text es which (cell_wanted net a) (cell_wanted net b)
fit_text t es net fault.ResetTooWide = control_text es (codes "ResetTooWide") (first_own Reset net) []
fit_text t es net fault.PresetTooWide = control_text es (codes "PresetTooWide") (first_own Preset net) []
fit_text t es net (fault.EnableTooWide c) = enable_text es (cell_wanted net c)
fit_text t es net (fault.TooManyProducts c tried) = room_text t es tried (cell_wanted net c)
fit_text t es net fault.OutOfMemory = None
