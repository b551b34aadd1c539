-- What a compiled module is.
use Rattle.std.proofs.Common.{◌≡◌, List}
use Rattle.abel_compile.proofs.Common.{Model, Table, Netlist, Entry, ModuleTree, Fitted, IsFitOf, Compiled, IsNetlistFor, accepted_for, AreRightFuses, IsCompiledOn, IsToldOf}

pub compiled_on : (t : Table) (declared : List Entry) (device : Model) (m : ModuleTree) (net : Netlist) (fitted : Fitted) (c : Compiled) → IsNetlistFor t m net
    → IsFitOf t net fitted → AreRightFuses t m fitted.fuses → c.device ≡ device → IsToldOf t declared m fitted.fuses c → IsCompiledOn t declared device m c
compiled_on t declared device m net fitted c is fits right device_is told =
    record {
      device_is = device_is;
      compiled = record { accepted = accepted_for t m net is fits.controls.wide; fuses = fitted.fuses; right = right; told = told };
    }
