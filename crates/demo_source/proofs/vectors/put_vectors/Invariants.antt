use Rattle.std.proofs.Common.{option_map}
use Rattle.demo_source.proofs.Common.{levels_of, logic_of, machine}
use Rattle.demo_source.proofs.Lines.{HasLines}
use Rattle.demo_source.proofs.vectors.put_vectors.Given as goal

abbrev pub invariant-loop : goal.invariant-loop
invariant-loop l =
    HasLines (logic_of (machine l.of.equations.now)) 1000 l.fn.draws.state l.fn.out.items l.out.items
    (option_map levels_of l.before) l.draws.state l.counter
