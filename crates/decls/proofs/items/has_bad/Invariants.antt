-- No item so far.
use Rattle.std.proofs.Common.{◌≡◌, false, take}
use Rattle.decls.proofs.Common.{list_any, is_bad}
use Rattle.decls.proofs.items.has_bad.Given as goal

abbrev pub invariant-loop-item : goal.invariant-loop-item
invariant-loop-item l = list_any is_bad (take l.item-index l.items) ≡ false
