-- What a run leaves alone, after a look and after a write.
use Rattle.std.proofs.Common.{◌≡◌, ◌≢◌, ℕ, List, Some, IfSome, subst, ◌∙◌}
use Rattle.outside.specs.Causes.{Begins}
use Rattle.outside.specs.Outside.{Map, MayReplace, SameBut, SameFiles}
use Rattle.design_page.specs.Kept.{KeepsOthers}

-- every file is as it was
pub keeps-same : (front : List ℕ) (old new : Map) → SameFiles old new → KeepsOthers front old new
keeps-same front old new same name bytes held apart = same name ∙ held

-- after a look
pub keeps-later : (front : List ℕ) (old mid new : Map) → SameFiles old mid → KeepsOthers front mid new → KeepsOthers front old new
keeps-later front old mid new same keeps name bytes held apart = keeps name bytes (same name ∙ held) apart

-- what is written under a name that may be replaced loses no other file
pub keeps-written : (front output input : List ℕ) (old mid new : Map) → MayReplace old output input front → SameFiles old mid → SameBut output mid new → KeepsOthers front old new
keeps-written front output input old mid new may same others name bytes held apart =
    let is_other : name ≢ output =
    λ is_output.
    let there : old output ≡ Some bytes = subst (λ n. old n ≡ Some bytes) is_output held in
    let begun : (output ≢ input) × Begins bytes front = subst (λ o. IfSome o (λ b. (output ≢ input) × Begins b front)) there may in
    apart begun.1 in
    others name is_other ∙ (same name ∙ held)
