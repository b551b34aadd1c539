-- The signals so far.
use Rattle.std.proofs.Common.{◌≡◌, ℕ, Bool, get_or, map, take}
use Rattle.placer.proofs.Common.{view_declared, no_name, HasMarks, wish}
use Rattle.placer.proofs.wishing.wishes_of.Given as goal

abbrev pub invariant-loop-place : goal.invariant-loop-place
invariant-loop-place g l =
    (is_read : ℕ → Bool) → HasMarks l.signals is_read l.read
    → l.wishes.items ≡ map (λ s. wish g.D.Device.table (map view_declared l.names) (is_read s) (get_or (map view_declared l.names) s no_name)) (take l.place l.signals)
