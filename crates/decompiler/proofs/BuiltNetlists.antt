-- The netlist of a module, over an arena that holds the formulas of its nodes and cells.
use Rattle.std.proofs.Common.{◌≡◌, List, ◌++◌, length, map, sym, ap, subst, ◌∙◌, arith, flat_map}
use Rattle.decompiler.proofs.Common.{range_with_len, get_or-map-range_with_len, IsDevice, Table, Netlist, arena, Formula, ModuleTree, Design, design_of, Function, PlainNetlist, Wanted, plain_netlist, IsCellIn, IsFunctionIn, no_pair, pair_of_cell, pair_of_pin, Contributions, netlist_of, IsTakeable, IsPlaced, AreContributed, IsHeld, all_nodes_of, IsNetlistOf}
use Rattle.abel_meaning.specs.Soundness.{IsSound}
use Rattle.netlist_laws.proofs.Sound.{is_sound}
use Rattle.decompiler.proofs.Holding.{arenas_there}
use Rattle.decompiler.specs.Netlists.{NetlistsAreThere}
use Rattle.decompiler.proofs.BuiltCells.{HoldsCells, HoldsNodes, cell_formulas, cells_held, each_place, node_formulas, nodes_held}
use Rattle.decompiler.proofs.ControlTargets.{cells_targeted}

module _ (t : Table) (m : ModuleTree) (found : Contributions) (laws : IsDevice t) (take : IsTakeable (design_of t m)) (given : AreContributed (design_of t m) found) where
  abbrev d : Design
  d = design_of t m

  abbrev plain : PlainNetlist
  plain = netlist_of t m

  abbrev all : List Formula
  all = flat_map node_formulas plain.nodes ++ flat_map cell_formulas plain.cells

  held : IsHeld all (all_nodes_of all)
  held = arenas_there all (all_nodes_of all) (omega arith)

  abbrev fs : List Formula
  fs = arena held.nodes

  nodes : HoldsNodes fs plain.nodes (flat_map cell_formulas plain.cells)
  nodes = nodes_held fs plain.nodes held.ids (flat_map cell_formulas plain.cells) (record { are = held.each; inside = held.inside })

  cells : HoldsCells fs found.list plain.cells
  cells = cells_held fs found.list plain.cells nodes.ids (cells_targeted d found given.gives 0 d.context.names) nodes.rest

  abbrev net : Netlist
  net =
      record {
        exprs = held.nodes;
        nodes = nodes.nodes;
        cells = cells.cells;
        pair_of_pin = map (pair_of_pin t) (range_with_len 0 25);
        pair_of_cell = map (pair_of_cell t) (range_with_len 0 25);
      }

  plain_is : plain_netlist net ≡ plain
  plain_is =
      ap (λ (ns : List (Function Formula)). record (plain_netlist net) { nodes = ns }) nodes.are
      ∙ ap (λ (ws : List Wanted). record plain { cells = ws }) cells.are

  is_netlist : IsNetlistOf t m net
  is_netlist =
      record {
        plain = plain_is;
        sound = record {
          nodes = each_place (IsFunctionIn (length fs)) nodes.nodes nodes.inside;
          cells = each_place (IsCellIn (length fs)) cells.cells cells.inside;
          pins = λ p low. get_or-map-range_with_len (pair_of_pin t) 0 25 p p no_pair low (omega arith);
          registers = λ c low. get_or-map-range_with_len (pair_of_cell t) 0 25 c c no_pair low (omega arith);
          sound = subst (IsSound t) (sym plain_is) (is_sound t m laws take);
        };
        found = found;
        contributed = given;
        places = each_place (IsPlaced found.list) cells.cells cells.placed;
      }

pub netlists_there : NetlistsAreThere
netlists_there t m found laws take given = (net t m found laws take given, is_netlist t m found laws take given)
