-- A small netlist and fuses for it, in a small device of no maker (this project's example).
use Rattle.std.specs.Prelude.{Bool, true, false, List, [], ◌∷◌, ◌++◌, None, Some}
use Rattle.netlist_laws.specs.Prelude.{sample, Const, Read, Wanted, PlainNetlist, IsSound}
use Rattle.bit_expr.specs.declared.node.Leaf.TheVariants as leaf
use Rattle.netlist_laws.specs.Fitting.{IsFitted}

-- a register on pin 9, inverted, that takes pin 1, and that pin 2 resets
abbrev pub example_cell : Wanted
example_cell = record {
  cell = 0;
  name = 1;
  registered = true;
  buffer = false;
  negated = false;
  raw = false;
  free = false;
  function = record { one = Read (leaf.Pin 1); any = Const false; complement = false };
  enable = None;
  reset = Some (Read (leaf.Pin 2));
  preset = None;
}

-- no other cell is assigned, and there is no node
abbrev pub example : PlainNetlist
example = record { nodes = []; cells = example_cell ∷ [] }

-- reset, enable, two data rows of the first cell, one of the second, preset; then the control fuses
abbrev pub example_fuses : List Bool
example_fuses =
    (true ∷ true ∷ true ∷ true ∷ false ∷ true ∷ true ∷ true ∷ [])
    ++ (true ∷ true ∷ true ∷ true ∷ true ∷ true ∷ true ∷ true ∷ [])
    ++ (true ∷ false ∷ true ∷ true ∷ true ∷ true ∷ true ∷ true ∷ [])
    ++ (false ∷ false ∷ false ∷ false ∷ false ∷ false ∷ false ∷ false ∷ [])
    ++ (false ∷ false ∷ false ∷ false ∷ false ∷ false ∷ false ∷ false ∷ [])
    ++ (false ∷ false ∷ false ∷ false ∷ false ∷ false ∷ false ∷ false ∷ [])
    ++ (false ∷ false ∷ true ∷ true ∷ true ∷ true ∷ false ∷ false ∷ false ∷ true ∷ false ∷ false ∷ [])

-- the netlist is sound, and the fuses fit it
abbrev pub ExampleFits : Type 0
ExampleFits = IsSound sample example × IsFitted sample example example_fuses
