use Rattle.std.proofs.Common.{◌≡◌, ◌+◌, drop}
use Rattle.device_sim.proofs.Common.{first_unsupported, all_chars_at}
use Rattle.device_sim.proofs.chars.first_unsupported.Given as goal

abbrev pub invariant-loop-index : goal.invariant-loop-index
invariant-loop-index l = first_unsupported 1 (all_chars_at l.pins l.vectors) ≡ first_unsupported (l.index + 1) (all_chars_at l.pins (drop l.index l.vectors))
