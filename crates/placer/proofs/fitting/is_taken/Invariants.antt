-- None of the names so far.
use Rattle.std.proofs.Common.{◌≡◌, drop, map}
use Rattle.placer.proofs.Common.{list_any, Declared, view_declared, view_meaning, is_on_pin, is_taken}
use Rattle.placer.proofs.fitting.is_taken.Given as goal

abbrev pub invariant-loop-declared : goal.invariant-loop-declared
invariant-loop-declared l =
    is_taken (map view_declared l.names) l.pin ≡ list_any (λ (d : Declared). is_on_pin l.pin (view_meaning d.meaning)) (drop l.declared-index l.names)
