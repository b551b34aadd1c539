use Rattle.std.proofs.Common.{◌≡◌, ◌*◌, ◌++◌, drop, map}
use Rattle.decompiler.proofs.Common.{literals_of, named, product_of}
use Rattle.decompiler.proofs.device_fuses.DeviceFuses.product.Given as goal

-- the whole product is what is written, and what the pairs from this one on have
abbrev pub invariant-loop-pair : goal.invariant-loop-pair
invariant-loop-pair g l =
    product_of g.D.Device.table l.self l.row
    ≡ l.literals.items
    ++ map (named g.D.Device.table l.self) (literals_of (drop (2 * l.pair) l.fuses) (drop l.pair g.D.Device.table.pairs))
