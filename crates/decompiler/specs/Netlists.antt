-- Which modules have a netlist over an arena (this project's rule).
use Rattle.decompiler.specs.Prelude.{IsDevice, Table, Netlist, ModuleTree, design_of, Contributions, IsTakeable, AreContributed, IsNetlistOf}

-- a module that the device can take has one, if its contributions are over an arena
abbrev pub NetlistsAreThere : Type 0
NetlistsAreThere =
    (t : Table) (m : ModuleTree) (found : Contributions) → IsDevice t → IsTakeable (design_of t m) → AreContributed (design_of t m) found
    → (net : Netlist) × IsNetlistOf t m net
