-- What the netlist of a module is to the module (this project's rule).
use Rattle.netlist_laws.specs.Prelude.{IsDevice, Table, ModuleTree, design_of, IsSound}
use Rattle.netlist_laws.specs.FittedCorrect.{MeansTheSame}
use Rattle.netlist_laws.specs.Gathered.{netlist_of}
use Rattle.netlist_laws.specs.Takeable.{RegistersHaveCells, IsTakeable}

-- if each register is on a cell, the netlist of a module and the module allow the same at every point, and value
-- the nodes alike
abbrev pub GatheredMeansTheSame : Type 0
GatheredMeansTheSame =
    (t : Table) (m : ModuleTree) → IsDevice t → RegistersHaveCells (design_of t m).context → MeansTheSame t m (netlist_of t m)

-- if nothing is refused, the device can take the netlist of a module
abbrev pub GatheredIsSound : Type 0
GatheredIsSound = (t : Table) (m : ModuleTree) → IsDevice t → IsTakeable (design_of t m) → IsSound t (netlist_of t m)
