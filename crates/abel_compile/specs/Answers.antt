-- What compiling answers, and when (this project's rule).
use Rattle.std.specs.Prelude.{◌≡◌, ◌≢◌, ℕ, List, Result, Ok, Err}
use Rattle.abel_compile.specs.Prelude.{IsPlacedFor, IsUnplacedFor, IsReadFor, IsAcceptedFor, IsSourceRefused}
use Rattle.abel_compile.specs.declared.compiled.Compiled.{Compiled}
use Rattle.compile_phases.specs.declared.fault.CompileFault.{CompileFault}
use Rattle.compile_phases.specs.declared.fault.CompileFault.TheVariants.{Source, Place, Fit, OutOfMemory}
use Rattle.abel_compile.specs.Correct.{IsCompiled}
use Rattle.compile_phases.specs.Fits.{FitsAsWritten, IsOfFit, IsUnfitFor}

-- each answer with its cause and its line; lack of memory says nothing
abbrev pub CompileAnswers : List ℕ → Result Compiled CompileFault → Type 0
CompileAnswers text (Ok c) = IsCompiled text c
CompileAnswers text (Err (Source f line)) = IsSourceRefused text f line.items
CompileAnswers text (Err (Place f line)) = IsReadFor text (IsUnplacedFor f line.items)
CompileAnswers text (Err (Fit f line)) = IsOfFit f × IsReadFor text (IsPlacedFor (IsUnfitFor f line.items))
CompileAnswers text (Err OutOfMemory) = Unit {0}

-- ---- completeness

-- a source that is accepted and fits as written is compiled, or memory runs out
abbrev pub IsNeverRefused : List ℕ → Result Compiled CompileFault → Type 0
IsNeverRefused text r =
    IsReadFor text (IsPlacedFor (λ t m. IsAcceptedFor t m × FitsAsWritten t m)) → (f : CompileFault) → f ≢ OutOfMemory → r ≡ Err f → ⊥
