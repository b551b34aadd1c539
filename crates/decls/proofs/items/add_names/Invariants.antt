-- The names so far.
use Rattle.std.proofs.Common.{◌≡◌, ◌++◌, map}
use Rattle.decls.proofs.Common.{view_given, given_by, name_items}
use Rattle.decls.proofs.items.add_names.Given as goal

abbrev pub invariant-loop-name : goal.invariant-loop-name
invariant-loop-name l = map view_given l.list.items ≡ map view_given l.fn.list.items ++ map (given_by l.item) (map name_items l.yielded)
