use Rattle.std.proofs.Common.{◌≡◌, ◌-◌, ◌++◌, codes}
use Rattle.demo_source.proofs.Common.{levels_of, levels_text}
use Rattle.demo_source.proofs.vectors.put_shown.Given as goal

abbrev pub invariant-loop-register : goal.invariant-loop-register
invariant-loop-register l =
    l.out.items ≡ l.fn.out.items ++ (codes "[" ++ levels_text (levels_of l.at) (l.register - 1))
