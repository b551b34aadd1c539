use Rattle.std.proofs.Common.{◌≡◌, ◌++◌, take}
use Rattle.fuse_reports.proofs.Common.{pins_text}
use Rattle.fuse_reports.proofs.sim_faults.put_pins.Given as goal

abbrev pub invariant-loop-pin : goal.invariant-loop-pin
invariant-loop-pin l = l.text.items ≡ l.initial.text.items ++ pins_text (take l.pin-index l.pins)
