-- One finding after another.
use Rattle.std.proofs.Common.{ℕ, zero, suc, List, [], ◌∷◌, ◌++◌, All, arith, refl, subst}
use Rattle.fuse_forms.specs.Repairs.{AreRepaired, IsHarmless, IsRepaired}
use Rattle.fuse_forms.specs.declared.finding.Finding.{Finding}

pub repaired_last : (fs : List Finding) (f : Finding) (old text new : List ℕ) → AreRepaired fs old text → IsRepaired f text new → AreRepaired (fs ++ f ∷ []) old new
repaired_last [] f old text new is last = (new, subst (λ (t : List ℕ). IsRepaired f t new) is last, refl)
repaired_last (g ∷ fs) f old text new (next, first, are) last = (next, first, repaired_last fs f next text new are last)

pub harmless_last : (fs : List Finding) (f : Finding) → All IsHarmless fs → IsHarmless f → All IsHarmless (fs ++ f ∷ [])
harmless_last [] f all here zero d low = here
harmless_last [] f all here (suc k) d low = absurd (omega (arith, low))
harmless_last (g ∷ fs) f all here zero d low = all zero d (omega arith)
harmless_last (g ∷ fs) f all here (suc k) d low = harmless_last fs f (λ j e less. all (suc j) e (omega (arith, less))) here k d (omega (arith, low))
