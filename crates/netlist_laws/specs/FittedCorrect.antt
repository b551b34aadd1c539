-- What it is for fuses to do what a module says, for every device, and the two halves of its proof (this project's rule, over
-- the devices' datasheets).
use Rattle.std.specs.Prelude.{◌≡◌, ℕ, ◌<◌, Bool, List, length}
use Rattle.netlist_laws.specs.Prelude.{DoesTheSame, RefinesValued, SameValues, Refines, IsDevice, device_logic, is_inverted, Table, ModuleTree, is_free_signal, source_logic_under, source_values_under, signal_on, design_of, PlainNetlist, wanted_at, netlist_logic, netlist_values, IsSound, source_logic, source_values}
use Rattle.netlist_laws.specs.ExchangedNets.{is_free_wanted, logic_shown, netlist_shown, values_shown}
use Rattle.netlist_laws.specs.Fitting.{IsFitted}

-- the device with these fuses settles in exactly one way from every state, and drives, releases and stores, from power-up
-- and for every list of outside levels, what a run of the module does under the choice that the fuses show, with its nodes
-- valued with any as 0; and if the module has no don't-care, it has that run alone under this choice
abbrev pub DoesWhatItSays : Table → ModuleTree → (fuses : List Bool) → Type 0
DoesWhatItSays t m fuses =
    DoesTheSame (device_logic t fuses) (source_logic_under t m (is_inverted t fuses)) (source_values_under t m (is_inverted t fuses))

-- ---- the two halves

-- what gathering a netlist owes: the netlist and the module allow the same at every point, value the nodes alike, and leave
-- the same registers free
pub record MeansTheSame (t : Table) (m : ModuleTree) (net : PlainNetlist) : Type 0 where
  pub to : Refines (netlist_logic t net) (source_logic t m)
  pub from : Refines (source_logic t m) (netlist_logic t net)
  pub values : SameValues (netlist_logic t net) (netlist_values net) (source_values t m)
  pub free : (c : ℕ) → c < length t.cells
      → is_free_wanted (wanted_at net c) ≡ is_free_signal (design_of t m).context (signal_on (design_of t m).context c)

-- at each point, with the netlist's nodes valued there, the netlist allows what a device with its fuses does
abbrev pub FittedRefines : Type 0
FittedRefines =
    (t : Table) (net : PlainNetlist) (fuses : List Bool) → IsDevice t → IsSound t net → IsFitted t net fuses
    → RefinesValued (device_logic t fuses) (netlist_logic t net) (netlist_values net)

-- so a device with the fuses of a sound netlist does what the netlist says
abbrev pub FittedDoesTheSame : Type 0
FittedDoesTheSame =
    (t : Table) (net : PlainNetlist) (fuses : List Bool) → IsDevice t → IsSound t net → IsFitted t net fuses
    → DoesTheSame (device_logic t fuses) (netlist_logic t net) (netlist_values net)

-- one with the fuses of the netlist under the choice that they show does what the netlist says under this choice
abbrev pub FittedDoesTheChosen : Type 0
FittedDoesTheChosen =
    (t : Table) (net : PlainNetlist) (fuses : List Bool) → IsDevice t → IsSound t net → IsFitted t (netlist_shown t fuses net) fuses
    → DoesTheSame (device_logic t fuses) (logic_shown t fuses net) (values_shown t fuses net)

-- and what any module says whose netlist it is
abbrev pub FittedDoesWhatItSays : Type 0
FittedDoesWhatItSays =
    (t : Table) (m : ModuleTree) (net : PlainNetlist) (fuses : List Bool) → IsDevice t → MeansTheSame t m net
    → IsSound t net → IsFitted t (netlist_shown t fuses net) fuses → DoesWhatItSays t m fuses
