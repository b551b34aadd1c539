use Rattle.std.proofs.Common.{◌≡◌, ◌++◌, drop}
use Rattle.demo_source.proofs.Common.{equations_text}
use Rattle.demo_source.proofs.text.put_equations.Given as goal

abbrev pub invariant-loop-register : goal.invariant-loop-register
invariant-loop-register l =
    l.out.items ++ equations_text l.register (drop l.register l.equations)
    ≡ l.initial.out.items ++ equations_text 0 l.equations
