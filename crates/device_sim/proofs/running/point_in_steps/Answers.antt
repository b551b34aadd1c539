use Rattle.std.proofs.Common.{refl}
use Rattle.device_sim.proofs.Common.{outsides_of}
use Rattle.device_sim.proofs.running.point_in_steps.Goals as goal

pub returns-then-has_clock : goal.returns-then-has_clock
unfolding outsides_of
returns-then-has_clock g c =
    rw (← c.has_clock.ensures, c.if-has_clock.true, ← c.outside_of-outside.ensures, ← c.outside_of.ensures, ← c.point_after-at.ensures, ← c.point_after-turned.ensures, ← c.point_after.ensures) refl

pub returns-else-has_clock : goal.returns-else-has_clock
unfolding outsides_of
returns-else-has_clock g c =
    rw (← c.has_clock.ensures, c.if-has_clock.false, ← c.outside_of-outside.ensures, ← c.point_after-at.ensures) refl
