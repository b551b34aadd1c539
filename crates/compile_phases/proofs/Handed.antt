-- Refusals that are handed on.
use Rattle.std.proofs.Common.{◌≡◌, Result, Err, sym, ap, ◌∙◌, subst}
use Rattle.compile_phases.proofs.Common.{CompileFault}

-- what is handed on
pub handed : {X : Type 0} (P : Result X CompileFault → Type 0) (r : Result X CompileFault) (x : CompileFault)
    → (e : CompileFault) × (r ≡ Err e) × (e ≡ x) → P (Err x) → P r
handed P r x is holds = subst P (sym (is.1 ∙ ap (λ (e : CompileFault). Err e) is.2)) holds
