-- The names so far.
use Rattle.std.proofs.Common.{◌≡◌, map, take}
use Rattle.decls.proofs.Common.{given_names, view_given}
use Rattle.decls.proofs.items.given_in.Given as goal

abbrev pub invariant-loop-item : goal.invariant-loop-item
invariant-loop-item l = map view_given l.list.items ≡ given_names (take l.item-index l.items)
