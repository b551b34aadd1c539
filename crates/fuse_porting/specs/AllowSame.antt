-- Two logics that allow the same, and what carries over from one to the other (this project's rule).
use Rattle.std.specs.Prelude.{Bool, ℕ, List, Option, ◌↔◌}
use Rattle.fuse_porting.specs.Prelude.{Logic, Refines}
use Rattle.device_sim.specs.VectorRun.{IsVectorRun}
use Rattle.device_sim.specs.declared.report.Mismatch.{Mismatch}
use Rattle.fuse_compare.specs.Alike.{FindsDifference}
use Rattle.fuse_compare.specs.declared.difference.Difference.{Difference}

-- neither allows more than the other: in every state and for any levels at the pins, cell by cell, the same pins are driven
-- with the same levels, the same are released, and the same is stored
pub record AllowSame (a b : Logic) : Type 0 where
  pub within : Refines a b
  pub back : Refines b a

-- vectors have the same mismatches with both
abbrev pub HasSameMismatches : Logic → Logic → Type 0
HasSameMismatches a b =
    (default : Bool) (vectors : List (List ℕ)) (list : List Mismatch)
    → IsVectorRun a default vectors list ↔ IsVectorRun b default vectors list

-- what is found between the first and the third is found between the first and the second
abbrev pub FindsSame : (a b other : Logic) → Type 0
FindsSame a b other = (found : Option Difference) → FindsDifference a other found → FindsDifference a b found

-- what is found between the third and the second is found between the first and the second
abbrev pub FindsSameFirst : (a b other : Logic) → Type 0
FindsSameFirst a b other = (found : Option Difference) → FindsDifference other b found → FindsDifference a b found
