-- What a report took where memory ran out before any of its text was put.
use Rattle.std.proofs.Common.{◌≡◌, [], refl, sym, inr}
use Rattle.abel_cli.proofs.Common.{append-nil, Heard, Ending, memory_line, Tells, TakesFront}

pub memory_first : (ending : Ending) (h : Heard) → h.status ≡ 8 → (h.told → TakesFront memory_line h.old h.new) → Tells ending h
memory_first ending h is taken = inr (inr (is, λ tells. (h.old, ([], (_, refl), sym (append-nil h.old)), taken tells)))
