-- Each pin so far has a number.
use Rattle.std.proofs.Common.{◌≡◌, drop, map}
use Rattle.declared_names.proofs.Common.{list_any, Entry, view_declared, is_unnumbered}
use Rattle.declared_names.proofs.numbered.are_numbered.Given as goal

abbrev pub invariant-loop-declared : goal.invariant-loop-declared
invariant-loop-declared l =
    list_any (λ (e : Entry). is_unnumbered e.kind) (map view_declared l.names.list)
    ≡ list_any (λ (e : Entry). is_unnumbered e.kind) (map view_declared (drop l.declared-index l.names.list))
