-- The warnings of the declarations so far follow what was there.
use Rattle.std.proofs.Common.{◌≡◌, ◌++◌, map, take}
use Rattle.std.specs.List.{flat_map}
use Rattle.abel_tree.specs.View.{view_decl}
use Rattle.reports.specs.Warnings.{idle_in}
use Rattle.reports.proofs.whole.find_in_declarations.Given as goal

abbrev pub invariant-loop-decl : goal.invariant-loop-decl
invariant-loop-decl l = l.found ≡ l.fn.found ++ flat_map idle_in (map view_decl (take l.decl-index l.decls))
