-- All pins.
use Rattle.std.proofs.Common.{arith}
use Rattle.abel_vectors.proofs.Common.{char_or_plain, found_at}
use Rattle.abel_vectors.proofs.GivenLaws.{all_placed}
use Rattle.abel_vectors.proofs.pins.vector_of.Goals as goal

pub returns : goal.returns
returns g c =
    let t = g.D.Device.table in
    all_placed (λ pin. char_or_plain t pin (found_at c.args.list.now pin)) c.loop-index.chars t.pins
    (omega (arith, g.D.Device.sound.sizes.pins_high, c.loop-index.invariant.pins))
    (λ k lt. c.loop-index.invariant.placed k (omega (arith, c.pins-index-end.ensures, c.loop-index-test.false)))
