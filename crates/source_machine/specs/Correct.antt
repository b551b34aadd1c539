-- What the netlist of a module with any as 0 is to the module (this project's rule).
use Rattle.source_machine.specs.Prelude.{Logic, Refines, Table, ModuleTree, design_of, logic_with_any_0, netlist_of}
use Rattle.pld_device.specs.Laws.{IsDevice}
use Rattle.netlist_laws.specs.Takeable.{RegistersHaveCells}
use Rattle.source_machine.specs.AnyAs0.{netlist_with_any_0}

-- each of the two allows no more than the other
pub record AllowTheSame (a b : Logic) : Type 0 where
  pub to : Refines a b
  pub from : Refines b a

-- if each register is on a cell, the netlist of a module and the module, both with any as 0, allow the same at every
-- point
abbrev pub GatheredAs0 : Type 0
GatheredAs0 =
    (t : Table) (m : ModuleTree) → IsDevice t → RegistersHaveCells (design_of t m).context
    → AllowTheSame (netlist_with_any_0 t (netlist_of t m)) (logic_with_any_0 (design_of t m))
