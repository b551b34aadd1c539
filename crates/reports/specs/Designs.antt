-- How each refusal of a design is reported; lack of memory is no refusal (this project's report).
use Rattle.std.specs.Prelude.{ℕ, Option, None, List, [], ◌∷◌, codes}
use Rattle.reports.specs.Prelude.{Entry}
use Rattle.design_checks.specs.declared.fault.DesignFault.{DesignFault}
use Rattle.design_checks.specs.declared.fault.DesignFault.TheVariants as fault
use Rattle.reports.specs.DesignTold.{told}

-- with the name that is refused, or those of the chain
abbrev pub design_text : List Entry → DesignFault → Option (List ℕ)
design_text es (fault.WrongKind p n) = told es (codes "WrongKind") p (n ∷ [])
design_text es (fault.RegisteredNode p n) = told es (codes "RegisteredNode") p (n ∷ [])
design_text es (fault.NoSuchControl p n) = told es (codes "NoSuchControl") p (n ∷ [])
design_text es (fault.DontCareControl p n) = told es (codes "DontCareControl") p (n ∷ [])
design_text es (fault.NoReadPath p n) = told es (codes "NoReadPath") p (n ∷ [])
design_text es (fault.Loop p chain) = told es (codes "Loop") p chain
design_text es (fault.ResetReadsRegister p chain) = told es (codes "ResetReadsRegister") p chain
design_text es fault.OutOfMemory = None
