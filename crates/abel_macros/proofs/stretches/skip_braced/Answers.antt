-- A stretch is passed.
use Rattle.std.proofs.Common.{length, refl, ap, ◌∙◌, arith, length-drop}
use Rattle.abel_macros.proofs.Common.{ahead}
use Rattle.abel_macros.proofs.Passed.{block_goes_on}
use Rattle.abel_macros.proofs.stretches.skip_braced.Goals as goal

pub stretches-preserved : goal.stretches-preserved
stretches-preserved c =
    let w = ahead c.stretches.at in
    let free = c.if-not-has_none.ensures in
    let stays = c.in-Some-open_behind.ensures in
    let passed = ap length c.skip.ensures.ahead ∙ length-drop 128 w in
    record {
      value =
          block_goes_on w c.in-Some.stretch.now (ahead c.skip.new.self) c.in-Some.ensures.bytes c.skip.ensures.ahead c.args.mode c.stretches.open c.in-Some-open_behind.next _ c.stretches-test.ensures
          (free.first refl) (free.second refl) (free.third refl) stays.shut stays.value c.stretches.invariant.value;
      few = omega (arith, c.stretches.invariant.few, passed, stays.most, c.in-Some.ensures.length, c.in-Some.ensures.within);
      whole = c.skip.ensures.whole ∙ c.stretches.invariant.whole;
      further = omega (arith, c.stretches.invariant.further, c.skip.ensures.passed);
    }
