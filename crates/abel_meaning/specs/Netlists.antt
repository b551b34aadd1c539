-- Netlists over formulas: what a design asks of the cells and nodes of a device (this project's rule).
use Rattle.std.specs.Prelude.{ℕ, Bool, false, not, ◌&&◌, ◌==◌, nat_lt, if◌then◌else◌, Option, None, Some, is_some, unwrap_or, List, [], ◌∷◌, find, get_or, map}
use Rattle.abel_meaning.specs.Prelude.{option_map, Levels, complement_if, CellWanted, Control, IdFunction, Netlist, arena, formula_at, Formula, Const, formula_value}
use Rattle.abel_meaning.specs.Functions.{Function, function_seen}

-- an assigned cell. `name` is its signal's number in the order of declaration; `negated` says that the name is the
-- pin's complement, `buffer` that the pin equals Q, `raw` that the function is of the register's input itself, and `free`
-- that the pin may as well equal the complement of a Q that is stored so
pub record Wanted : Type 0 where
  pub cell : ℕ
  pub name : ℕ
  pub registered : Bool
  pub buffer : Bool
  pub negated : Bool
  pub raw : Bool
  pub free : Bool
  pub function : Function Formula
  pub enable : Option Formula
  pub reset : Option Formula
  pub preset : Option Formula

-- the functions of the nodes, from node 0, and of the assigned cells
pub record PlainNetlist : Type 0 where
  pub nodes : List (Function Formula)
  pub cells : List Wanted

-- ---- the netlist that one over an arena represents

-- a function over the formulas of an arena
abbrev pub plain_function : List Formula → IdFunction → Function Formula
plain_function fs f = record { one = formula_at fs f.one; any = formula_at fs f.any; complement = f.complement }

-- a control that may be there
abbrev pub plain_control : List Formula → Option Control → Option Formula
plain_control fs control = option_map (λ (c : Control). formula_at fs c.bit) control

-- an assigned cell
abbrev pub plain_wanted : List Formula → CellWanted → Wanted
plain_wanted fs w =
    record {
      cell = w.cell;
      name = w.name;
      registered = w.registered;
      buffer = w.buffer;
      negated = w.negated;
      raw = w.raw;
      free = w.free;
      function = plain_function fs w.function;
      enable = plain_control fs w.enable;
      reset = plain_control fs w.reset;
      preset = plain_control fs w.preset;
    }

-- the whole netlist
abbrev pub plain_netlist : Netlist → PlainNetlist
plain_netlist net =
    record {
      nodes = map (plain_function (arena net.exprs)) net.nodes;
      cells = map (plain_wanted (arena net.exprs)) net.cells;
    }

-- ---- functions and controls by their numbers

-- what represents a node that is assigned nothing: it is 0
abbrev pub no_function : Function Formula
no_function = record { one = Const false; any = Const false; complement = false }

-- the function of a node
abbrev pub node_at : PlainNetlist → ℕ → Function Formula
node_at net n = get_or net.nodes n no_function

-- what is asked of a cell; none if it is assigned nothing
abbrev pub wanted_at : PlainNetlist → ℕ → Option Wanted
wanted_at net c = find (λ (w : Wanted). w.cell == c) net.cells

-- a function at a point
abbrev pub function_at : Levels → Function Formula → Function Bool
function_at at f = function_seen (formula_value at) f

-- the value of which a cell's function speaks, if the pin of a combinational one has this level, or a register this next
-- Q: that of the name, or of the input itself
abbrev pub as_named : Wanted → Bool → Bool
as_named w v = if w.raw then v else complement_if w.negated (complement_if (w.registered && not w.buffer) v)

-- the first of two by name
abbrev pub earlier_name : Wanted → Option Wanted → Wanted
earlier_name w None = w
earlier_name w (Some v) = if nat_lt v.name w.name then v else w

-- the cell of least name that has such an equation of its own
abbrev pub first_with : (Wanted → Option Formula) → List Wanted → Option Wanted
first_with own [] = None
first_with own (w ∷ ws) = if is_some (own w) then Some (earlier_name w (first_with own ws)) else first_with own ws

-- the equation of a cell that may be there
abbrev pub own_of : (Wanted → Option Formula) → Option Wanted → Option Formula
own_of own None = None
own_of own (Some w) = own w

-- the function that all registers share; 0 if there is no equation
abbrev pub shared_function : (Wanted → Option Formula) → PlainNetlist → Formula
shared_function own net = unwrap_or (own_of own (first_with own net.cells)) (Const false)

-- that of a cell: its own, else the shared one
abbrev pub own_or_shared : (Wanted → Option Formula) → PlainNetlist → ℕ → Formula
own_or_shared own net c = unwrap_or (own_of own (wanted_at net c)) (shared_function own net)
