-- The mark of the names so far.
use Rattle.std.proofs.Common.{map, take}
use Rattle.placer.proofs.Common.{flat_map, view_use, IsMarkOf, signals_at}
use Rattle.placer.proofs.marks.Marks.of_uses.Given as goal

abbrev pub invariant-loop-used : goal.invariant-loop-used
invariant-loop-used l = IsMarkOf l.self (λ ks. flat_map (signals_at ks) (map view_use (take l.used-index l.uses))) l.mark
