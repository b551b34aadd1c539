-- The pins so far.
use Rattle.std.proofs.Common.{map}
use Rattle.placer.proofs.Common.{view_declared}
use Rattle.placer.proofs.Free.{IsFreeTo}
use Rattle.placer.proofs.fitting.free_pins.Given as goal

abbrev pub invariant-loop-pin : goal.invariant-loop-pin
invariant-loop-pin g l = IsFreeTo g.D.Device.table (map view_declared l.names) l.pin l.free
