-- The Qs of power-up as a number, and the point at rest from them.
use Rattle.std.proofs.Common.{◌≡◌, ℕ, refl}
use Rattle.device_sim.proofs.Common.{bits, levels_of, length-bits, Lookups, logic_of, IsOrdered, rest_of, power_up, IsTheRest, rests_once}
use Rattle.pld_base.specs.declared.point.Point.{Point}

pub no_q : bits 32 0 ≡ power_up
unfolding bits
no_q = refl

-- the one point at rest from power-up is the computed one
pub comes_to_rest : (m : Lookups) → IsOrdered m → (outside : ℕ) (at : Point) → IsTheRest (logic_of m) (bits 32 outside) (bits 32 0) (levels_of at) → levels_of at ≡ rest_of m (bits 32 outside) power_up
comes_to_rest m ordered outside at is =
    let rest : IsTheRest (logic_of m) (bits 32 outside) power_up (levels_of at) = rw no_q at is in
    (rests_once m ordered (bits 32 outside) power_up (length-bits 32 outside) refl).only (levels_of at) rest.at_rest
