use Rattle.std.proofs.Common.{◌≡◌, ◌++◌, take, flat_map, codes}
use Rattle.decompiled.proofs.Common.{product_text}
use Rattle.decompiled.proofs.sum_line.put_sum.Given as goal

abbrev pub invariant-loop-product : goal.invariant-loop-product
invariant-loop-product l =
    l.out.items ≡ l.initial.out.items ++ flat_map (λ p. codes " # " ++ product_text p) (take l.product-index l.rest)
