-- Names that are those of a scope.
use Rattle.std.proofs.Common.{◌≡◌, ℕ, List, Option, sym, subst}
use Rattle.section_targets.proofs.Common.{Entry, find}

-- a place among them
pub found_in : (w : List ℕ) {es fs : List Entry} {o : Option ℕ} → es ≡ fs → o ≡ find fs w → o ≡ find es w
found_in w {es} {fs} {o} e h = subst (λ xs. o ≡ find xs w) (sym e) h
