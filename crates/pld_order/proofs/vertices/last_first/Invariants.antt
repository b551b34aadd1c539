use Rattle.std.proofs.Common.{◌≡◌, ◌∷◌, get_or, take}
use Rattle.pld_order.proofs.vertices.last_first.Given as goal

abbrev pub invariant-loop-i : goal.invariant-loop-i
invariant-loop-i l = l.turned.items ≡ get_or l.list l.last 0 ∷ take l.i l.list
