-- None of the pairs so far is of the pin.
use Rattle.std.proofs.Common.{◌≡◌, ℕ, drop, ◌==◌, position}
use Rattle.pld_device.proofs.Common.{position_from, pair_pins}
use Rattle.pld_device.proofs.lookups.pair_of_pin.Given as goal

abbrev pub invariant-loop-pair : goal.invariant-loop-pair
invariant-loop-pair g l =
    position (λ (p : ℕ). p == l.pin) (pair_pins g.D.Device.table)
    ≡ position_from (λ (p : ℕ). p == l.pin) l.pair (drop l.pair (pair_pins g.D.Device.table))
