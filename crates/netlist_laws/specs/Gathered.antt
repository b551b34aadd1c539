-- The netlist of a module: for each node its function, and for each assigned cell its function and its own controls
-- (this project's rule, over the definitions of functions and controls).
use Rattle.std.specs.Prelude.{ℕ, suc, ◌&&◌, Option, None, Some, List, [], ◌∷◌, if◌then◌else◌}
use Rattle.netlist_laws.specs.Prelude.{option_map, Enable, Row, PinLow, Driven, Released, Table, cell_at, Formula, Kind, APin, ANode, Entry, is_stored, follows_q, ModuleTree, cell_on, is_free, Contribution, control_of, control_if_stored, Context, Design, design_of, formulas, Function, function_of, is_raw_signal, Wanted, PlainNetlist, given_formulas, is_negated}
use Rattle.abel_tree.specs.declared.words.Extension.TheVariants as extension

-- ---- cells

-- an enable of its own, if the cell's enable is a row, else none
abbrev pub by_row : Enable → Option Formula → Option Formula
by_row (Row row) f = f
by_row (PinLow pin) f = None
by_row Driven f = None
by_row Released f = None

-- what a signal asks of its cell
abbrev pub wanted_for : Context → List (Contribution Formula) → (cell signal : ℕ) → Entry → Wanted
wanted_for d cs c s x =
    record {
      cell = c;
      name = s;
      registered = is_stored x;
      buffer = follows_q x;
      negated = is_negated x.kind;
      raw = is_stored x && is_raw_signal cs s;
      free = is_free x;
      function = function_of (formulas d) cs s;
      enable = by_row (cell_at d.device c).enable (control_of (formulas d) cs s extension.Oe);
      reset = control_if_stored (formulas d) cs extension.Ar s x;
      preset = control_if_stored (formulas d) cs extension.Sp s x;
    }

-- the cell of an assigned pin, by what the name is declared as
abbrev pub cell_by : Table → Entry → Kind → Option ℕ
cell_by t x (APin pin negated) = if x.assigned then cell_on t pin else None
cell_by t x _ = None

-- the cell of an assigned signal
abbrev pub cell_of : Table → Entry → Option ℕ
cell_of t x = cell_by t x x.kind

-- one more cell, if there is one
abbrev pub and_cell : Option Wanted → List Wanted → List Wanted
and_cell None ws = ws
and_cell (Some w) ws = w ∷ ws

-- what the signals ask of their cells, in order of declaration; the first name has this number
abbrev pub cells_from : Context → List (Contribution Formula) → ℕ → List Entry → List Wanted
cells_from d cs s [] = []
cells_from d cs s (x ∷ xs) =
    and_cell (option_map (λ c. wanted_for d cs c s x) (cell_of d.device x)) (cells_from d cs (suc s) xs)

-- ---- nodes

-- the function of a node before others
abbrev pub and_node : Kind → Function Formula → List (Function Formula) → List (Function Formula)
and_node (ANode n) f fs = f ∷ fs
and_node _ f fs = fs

-- the functions of the nodes, in order of declaration; the first name has this number
abbrev pub nodes_from : Context → List (Contribution Formula) → ℕ → List Entry → List (Function Formula)
nodes_from d cs s [] = []
nodes_from d cs s (x ∷ xs) = and_node x.kind (function_of (formulas d) cs s) (nodes_from d cs (suc s) xs)

-- ---- the whole netlist

-- the netlist of a design by its contributions
abbrev pub gathered_from : Context → List (Contribution Formula) → PlainNetlist
gathered_from d cs = record { nodes = nodes_from d cs 0 d.names; cells = cells_from d cs 0 d.names }

-- the netlist of a design
abbrev pub gathered : Design → PlainNetlist
gathered d = gathered_from d.context (given_formulas d)

-- the netlist of a module for a device
abbrev pub netlist_of : Table → ModuleTree → PlainNetlist
netlist_of t m = gathered (design_of t m)
