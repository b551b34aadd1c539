-- No later pin is marked.
use Rattle.std.proofs.Common.{◌≡◌, nat_lt, false, sym, ◌∙◌, arith}
use Rattle.placer.proofs.Common.{nat_tests, get_or_past, bits, length-bits}
use Rattle.placer.proofs.wishing.is_marked.Goals as goal

pub returns-else-pin-lt32 : goal.returns-else-pin-lt32
returns-else-pin-lt32 c =
    let off : nat_lt c.args.pin 32 ≡ false = grind (arith, nat_tests, c.if-pin-lt32.false) in
    off ∙ sym (get_or_past (bits 32 c.args.marks) c.args.pin false (let long = length-bits 32 c.args.marks in omega (arith, long, c.if-pin-lt32.false)))
