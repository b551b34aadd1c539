use Rattle.std.proofs.Common.{◌≡◌, take}
use Rattle.pld_device.proofs.loading.switches_of.Given as goal

abbrev pub invariant-loop-row : goal.invariant-loop-row
invariant-loop-row g l = l.switches.items ≡ take l.row (g.P.Part.table l.part).row_switches
