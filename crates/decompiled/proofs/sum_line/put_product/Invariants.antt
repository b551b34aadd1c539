use Rattle.std.proofs.Common.{◌≡◌, ◌++◌, take, flat_map, codes}
use Rattle.decompiled.proofs.Common.{literal_text}
use Rattle.decompiled.proofs.sum_line.put_product.Given as goal

abbrev pub invariant-loop-literal : goal.invariant-loop-literal
invariant-loop-literal l =
    l.out.items ≡ l.initial.out.items ++ flat_map (λ k. codes " & " ++ literal_text k) (take l.literal-index l.rest)
