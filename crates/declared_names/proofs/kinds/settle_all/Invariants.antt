-- The names so far.
use Rattle.std.proofs.Common.{◌≡◌, ℕ, map, get_or}
use Rattle.declared_names.proofs.Common.{Declared, view_declared, clear, is_held_at, kind_by}
use Rattle.declared_names.proofs.kinds.settle_all.Given as goal

abbrev pub invariant-loop-number : goal.invariant-loop-number
invariant-loop-number l =
    map view_declared l.settled.items ≡ map (λ (x : ℕ × Declared). kind_by l.flip (get_or l.marks x.0 clear) (is_held_at l.held x.0) (view_declared x.1)) l.yielded
