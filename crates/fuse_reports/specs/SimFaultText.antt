-- What is reported of a fuse file that isn't loaded or isn't simulated (this project's rule).
use Rattle.std.specs.Prelude.{ℕ, List, ◌∷◌, ◌++◌, flat_map, codes}
use Rattle.fuse_reports.specs.Prelude.{decimal}
use Rattle.device_logic.specs.declared.fault.SimFault.{SimFault}
use Rattle.device_logic.specs.declared.fault.SimFault.TheVariants as fault

-- each pin after a blank
abbrev pub pins_text : List ℕ → List ℕ
pins_text pins = flat_map (λ pin. 32 ∷ decimal pin) pins

-- the name of a refusal, and what was found
abbrev pub sim_fault_text : SimFault → List ℕ
sim_fault_text (fault.UnsupportedCondition vector pin) =
    codes "UnsupportedCondition vector " ++ decimal vector ++ codes " pin " ++ decimal pin
sim_fault_text (fault.DeviceLoop pins) = codes "DeviceLoop" ++ pins_text pins.items
sim_fault_text (fault.DeviceResetReadsRegister pins) = codes "DeviceResetReadsRegister" ++ pins_text pins.items
sim_fault_text fault.OutOfMemory = codes "memory"

-- the line on a refusal
abbrev pub sim_fault_line : SimFault → List ℕ
sim_fault_line why = codes "error " ++ sim_fault_text why ++ codes "\n"
