-- Either answer for a placed module, as one for its source.
use Rattle.std.proofs.Common.{Result, Ok, Err, IfErr, IfOk}
use Rattle.abel_compile.proofs.Common.{Model, Table, ModuleTree, names_of, HasNumberedNames, IsPlacedModule, CompileFault, IsRefusedBy, IsRefusedFor, IsPlacedFor, of_placed, Compiled, IsCompiledOn}

pub compiled_placed : (t : Table) (device : Model) (m placed : ModuleTree) (r : Result Compiled CompileFault) → IsPlacedModule t m placed
    → IfOk r (λ c. IsCompiledOn t (names_of t m) device placed c) → IfOk r (λ c. IsPlacedFor (λ t p. IsCompiledOn t (names_of t m) device p c) t m)
compiled_placed t device m placed (Ok c) is h = record { placed = placed; is = is; so = h }
compiled_placed t device m placed (Err e) is h = tt

pub refused_placed : (t : Table) (m placed : ModuleTree) (r : Result Compiled CompileFault) → IsPlacedModule t m placed → HasNumberedNames t placed
    → IfErr r (IsRefusedFor t placed) → IfErr r (IsRefusedBy t m)
refused_placed t m placed (Ok c) is numbered h = tt
refused_placed t m placed (Err e) is numbered h = of_placed t m placed e is numbered h
