use Rattle.std.proofs.Common.{◌≡◌, ◌++◌, take, flat_map, codes}
use Rattle.demo_source.proofs.Common.{product_text}
use Rattle.demo_source.proofs.equations.Equation.put.Given as goal

abbrev pub invariant-loop-product : goal.invariant-loop-product
invariant-loop-product l =
    l.out.items ≡ l.initial.out.items ++ flat_map (λ x. codes " # " ++ product_text x) (take l.product-index l.rest)
