-- What test vectors find in a device and in the source that it does the same as (this project's rule).
use Rattle.std.specs.Prelude.{ℕ, ◌≤◌, Bool, List, length}
use Rattle.device_sim.specs.Prelude.{All, Logic}
use Rattle.pld_machine.specs.Comparison.{DoesTheSame, HasNoDontCare, NodeValues}
use Rattle.device_sim.specs.declared.report.Mismatch.{Mismatch}
use Rattle.device_sim.specs.VectorRun.{IsVectorRun}

-- if the vectors disagree with a run of the device, they disagree with a run of the source; and with no other if the
-- source has no don't-care
pub record DisagreeAlike (device source : Logic) (vectors : List (List ℕ)) : Type 0 where
  pub too : (default : Bool) (list : List Mismatch) → IsVectorRun device default vectors list → IsVectorRun source default vectors list
  pub only : HasNoDontCare source
      → (default : Bool) (list : List Mismatch) → IsVectorRun source default vectors list → IsVectorRun device default vectors list

-- vectors of at most 31 pins disagree alike with a device and with the source that it does the same as
abbrev pub VectorsDisagreeAlike : Type 0
VectorsDisagreeAlike =
    (device source : Logic) (values : NodeValues) → DoesTheSame device source values
    → (vectors : List (List ℕ)) → All (λ (chars : List ℕ). length chars ≤ 31) vectors → DisagreeAlike device source vectors
