-- Those of the signals so far.
use Rattle.std.proofs.Common.{◌≡◌, filter, map, not, take}
use Rattle.abel_meaning.specs.Reads.{is_read}
use Rattle.abel_tree.specs.Entries.{view_declared}
use Rattle.abel_tree.specs.View.{view_module}
use Rattle.model_choice.proofs.outputs.unread.Given as goal

abbrev pub invariant-loop-place : goal.invariant-loop-place
invariant-loop-place l = l.list.items ≡ filter (λ s. not (is_read (map view_declared l.names) (view_module l.source).sections s)) (take l.place l.signals)
