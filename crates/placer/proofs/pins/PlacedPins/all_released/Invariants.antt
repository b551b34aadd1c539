-- With those of the signals that are left it is the whole.
use Rattle.std.proofs.Common.{◌≡◌, ℕ, Bool, ◌++◌, drop, map}
use Rattle.placer.proofs.Common.{view_declared, view_stmt, HasMarks, pins_given, all_released, with_pins}
use Rattle.placer.proofs.pins.PlacedPins.all_released.Given as goal

abbrev pub invariant-loop-place : goal.invariant-loop-place
invariant-loop-place l =
    (has : ℕ → Bool) → HasMarks l.self.signals.items has l.enabled
    → map view_stmt l.list.items ++ all_released (map view_declared l.names) has (with_pins (drop l.place l.self.signals.items) (drop l.place l.self.pins.items))
    ≡ all_released (map view_declared l.names) has (pins_given l.self)
