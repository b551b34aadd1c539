-- A netlist some of whose registers store the complement: every formula reads their Q in the other sense, and their pin
-- follows the complement (this project's rule).
use Rattle.std.specs.Prelude.{◌≡◌, ℕ, ◌<◌, Bool, true, false, ◌&&◌, if◌then◌else◌, Option, None, Some, List, map, length}
use Rattle.netlist_laws.specs.Prelude.{option_map, Logic, NodeValues, exchanged, exchanged_values, in_sense, is_inverted, Table, Leaf, Formula, Const, Read, Not, And, Or, Xor, Function, PlainNetlist, Wanted, wanted_at, netlist_logic, netlist_values}
use Rattle.bit_expr.specs.declared.node.Leaf.TheVariants as leaf

-- what a leaf carries, with the Qs of these cells in the other sense
abbrev pub leaf_exchanged : (ℕ → Bool) → Leaf → Formula
leaf_exchanged x (leaf.Pin p) = Read (leaf.Pin p)
leaf_exchanged x (leaf.Q c) = if x c then Not (Read (leaf.Q c)) else Read (leaf.Q c)
leaf_exchanged x (leaf.Node n) = Read (leaf.Node n)

-- so in every formula
abbrev pub formula_exchanged : (ℕ → Bool) → Formula → Formula
formula_exchanged x (Const level) = Const level
formula_exchanged x (Read leaf) = leaf_exchanged x leaf
formula_exchanged x (Not f) = Not (formula_exchanged x f)
formula_exchanged x (And f g) = And (formula_exchanged x f) (formula_exchanged x g)
formula_exchanged x (Or f g) = Or (formula_exchanged x f) (formula_exchanged x g)
formula_exchanged x (Xor f g) = Xor (formula_exchanged x f) (formula_exchanged x g)

abbrev pub function_exchanged : (ℕ → Bool) → Function Formula → Function Formula
function_exchanged x f = record { one = formula_exchanged x f.one; any = formula_exchanged x f.any; complement = f.complement }

-- a cell: its pin follows Q if it followed the complement, if it is one of these
abbrev pub wanted_exchanged : (ℕ → Bool) → Wanted → Wanted
wanted_exchanged x w =
    record {
      cell = w.cell;
      name = w.name;
      registered = w.registered;
      buffer = in_sense (x w.cell) w.buffer;
      negated = w.negated;
      raw = w.raw;
      free = false;
      function = function_exchanged x w.function;
      enable = option_map (formula_exchanged x) w.enable;
      reset = option_map (formula_exchanged x) w.reset;
      preset = option_map (formula_exchanged x) w.preset;
    }

abbrev pub netlist_exchanged : (ℕ → Bool) → PlainNetlist → PlainNetlist
netlist_exchanged x net = record { nodes = map (function_exchanged x) net.nodes; cells = map (wanted_exchanged x) net.cells }

-- an assigned register whose pin follows Q, and whose data are said of its name
pub record IsDirectRegister (net : PlainNetlist) (c : ℕ) : Type 0 where
  pub wanted : Wanted
  pub there : wanted_at net c ≡ Some wanted
  pub registered : wanted.registered ≡ true
  pub buffer : wanted.buffer ≡ true
  pub named : wanted.raw ≡ false

-- the cells that are exchanged are such
abbrev pub MayExchangeIn : Table → PlainNetlist → (ℕ → Bool) → Type 0
MayExchangeIn t net x = (c : ℕ) → x c ≡ true → (c < length t.cells) × IsDirectRegister net c

-- ---- what is chosen

-- what is asked of a cell leaves its polarity free
abbrev pub is_free_wanted : Option Wanted → Bool
is_free_wanted None = false
is_free_wanted (Some w) = w.free

-- the free registers that these fuses show inverted, by their cells
abbrev pub shown : Table → (fuses : List Bool) → PlainNetlist → ℕ → Bool
shown t fuses net c = is_free_wanted (wanted_at net c) && is_inverted t fuses c

-- the netlist under the choice that the fuses show
abbrev pub netlist_shown : Table → (fuses : List Bool) → PlainNetlist → PlainNetlist
netlist_shown t fuses net = netlist_exchanged (shown t fuses net) net

-- what the netlist says under it, and the values that represent its nodes
abbrev pub logic_shown : Table → (fuses : List Bool) → PlainNetlist → Logic
logic_shown t fuses net = exchanged (shown t fuses net) (netlist_logic t net)

abbrev pub values_shown : Table → (fuses : List Bool) → PlainNetlist → NodeValues
values_shown t fuses net = exchanged_values (shown t fuses net) (netlist_values net)
