-- The nodes so far.
use Rattle.std.proofs.Common.{◌≡◌, map, take}
use Rattle.placer.proofs.Common.{view_declared, view_decl, view_given, AreKnown, node_given, node_declaration, dc_of}
use Rattle.placer.proofs.pins.PlacedPins.nodes_of.Given as goal

abbrev pub invariant-loop-node : goal.invariant-loop-node
invariant-loop-node l =
    AreKnown (map view_declared l.names)
    → map view_decl l.list.items ≡ map (node_declaration (node_given (map view_declared l.names) l.self) (dc_of (map view_declared l.names)) l.attributes) (map view_given (take l.node-index l.nodes))
