use Rattle.std.proofs.Common.{rules, ◌≡◌, ◌∷◌, [], slice_get, add-one, max}
use Rattle.jedec_writer.proofs.Common.{past, fuses_named}
use Rattle.jedec_writer.proofs.ControlEnds.{fixed_more, goes_on}
use Rattle.jedec_writer.proofs.control.past_fixed.Goals as goal

pub loop-index-preserved : goal.loop-index-preserved
loop-index-preserved g c =
    let greater : c.max-end.result ≡ max c.loop-index.end c.past_bit.result = search rules in
    let more : c.past_bit.result ≡ past (fuses_named (slice_get g.D.Device.table.fixed c.loop-index.index ∷ [])) = search rules in
    rw (greater, more, add-one) (goes_on c.loop-index.end _ _ _ _ c.loop-index.invariant (fixed_more g.D.Device.table.fixed c.loop-index.index))
