-- What is known of the end stays, if a byte is taken that precedes it.
use Rattle.std.proofs.Common.{arith}
use Rattle.text_rewriting.proofs.Marks.{none_next}
use Rattle.text_rewriting.proofs.unread.Unread.take_byte.Goals as goal

pub invariant_of-self-else-self-len : goal.invariant_of-self-else-self-len
invariant_of-self-else-self-len c =
    let l = c.if-self-len.false in
    let n = c.len.ensures.value in
    (omega (arith, l, n), none_next c.self.inside.rest c.take_byte.new.self c.self.inside.left c.self.invariant.1 c.in_ok-byte.byte c.in_ok-byte.ensures.some (omega (arith, l, n)))
