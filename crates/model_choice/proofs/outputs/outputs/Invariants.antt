-- Those of the names so far.
use Rattle.std.proofs.Common.{◌≡◌, ◌&&◌, filter, get_or, map}
use Rattle.std.specs.List.{range_with_len}
use Rattle.abel_meaning.specs.Declarations.{is_unnumbered}
use Rattle.abel_meaning.specs.Designs.{no_name}
use Rattle.abel_tree.specs.Entries.{view_declared}
use Rattle.model_choice.proofs.outputs.outputs.Given as goal

abbrev pub invariant-loop-number : goal.invariant-loop-number
invariant-loop-number l =
    l.list.items
    ≡ filter (λ s. (get_or (map view_declared l.names) s no_name).assigned && is_unnumbered (get_or (map view_declared l.names) s no_name).kind)
    (map (λ s. s) (range_with_len 0 l.number))
