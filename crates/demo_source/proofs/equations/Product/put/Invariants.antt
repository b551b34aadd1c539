use Rattle.std.proofs.Common.{◌≡◌, ◌++◌, take, flat_map, codes}
use Rattle.demo_source.proofs.Common.{literal_text}
use Rattle.demo_source.proofs.equations.Product.put.Given as goal

abbrev pub invariant-loop-literal : goal.invariant-loop-literal
invariant-loop-literal l =
    l.out.items ≡ l.initial.out.items ++ flat_map (λ x. codes " & " ++ literal_text x) (take l.literal-index l.rest)
