use Rattle.std.proofs.Common.{◌≡◌, take}
use Rattle.pld_device.proofs.loading.pairs_of.Given as goal

abbrev pub invariant-loop-pair : goal.invariant-loop-pair
invariant-loop-pair g l = l.pairs.items ≡ take l.pair (g.P.Part.table l.part).pairs
