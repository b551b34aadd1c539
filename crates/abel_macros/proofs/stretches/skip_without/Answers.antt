-- A stretch more has none.
use Rattle.std.proofs.Common.{length, ap, ◌∙◌, arith, length-drop}
use Rattle.abel_macros.proofs.Common.{ahead}
use Rattle.abel_macros.proofs.Passed.{none_more, beyond}
use Rattle.abel_macros.proofs.stretches.skip_without.Goals as goal

pub stretches-preserved : goal.stretches-preserved
stretches-preserved c =
    let i = c.stretches.invariant in
    let w = ahead c.args.at.now in
    record {
      none = none_more c.args.byte w (ahead c.stretches.at) c.in-Some.stretch.now c.stretches.passed i.place c.in-Some.ensures.bytes (omega (arith, c.count.ensures.value)) i.none;
      place = c.skip.ensures.ahead ∙ beyond w (ahead c.stretches.at) c.stretches.passed i.place;
      within = omega (arith, i.within, ap length c.skip.ensures.ahead, length-drop 128 (ahead c.stretches.at), c.in-Some.ensures.within);
      fits = i.fits;
      whole = c.skip.ensures.whole ∙ i.whole;
    }
