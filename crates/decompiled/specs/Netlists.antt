-- What the netlist of a decompiled source is (this project's rule).
use Rattle.std.specs.Prelude.{Bool, List}
use Rattle.decompiled.specs.Prelude.{IsDevice, Table, ModuleTree}
use Rattle.netlist_laws.specs.Gathered.{netlist_of}
use Rattle.decompiled.specs.SourceTrees.{IsSourceTree}
use Rattle.decompiled.specs.Sources.{source_of}
use Rattle.decompiled.specs.Alike.{IsFusesNetlist}
use Rattle.decompiled.specs.Signals.{leaf_of}

-- the netlist of a module that is the fuses' source asks of each cell what its lines say
abbrev pub NetlistsAreOfFuses : Type 0
NetlistsAreOfFuses =
    (t : Table) (fuses : List Bool) (m : ModuleTree) → IsDevice t → IsSourceTree (source_of t fuses) m
    → IsFusesNetlist t fuses (leaf_of t) (netlist_of t m)
