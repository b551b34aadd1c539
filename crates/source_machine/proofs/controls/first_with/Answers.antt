use Rattle.std.proofs.Common.{◌-◌, length, arith}
use Rattle.source_machine.proofs.Common.{arena, IsCellIn}
use Rattle.source_machine.proofs.FirstControls.{earlier_has, one_more}
use Rattle.source_machine.proofs.controls.first_with.Goals as goal

pub loop-rest-preserved : goal.loop-rest-preserved
loop-rest-preserved c =
    let low = c.loop-rest.invariant.low in
    record {
      same = c.as_slice-cells.ensures;
      low = omega (arith, low);
      first = one_more (arena c.args.net.now.exprs) c.args.which c.args.net.now.cells c.as_slice-cells.result.now c.loop-rest.rest _ c.loop-rest.first c.earlier-first.result
          c.as_slice-cells.ensures c.loop-rest-test.true low c.earlier-first.ensures c.loop-rest.invariant.first;
      inside = earlier_has (IsCellIn (length (arena c.args.net.now.exprs))) c.args.which c.args.net.now.cells c.as_slice-cells.result.now (c.loop-rest.rest - 1) _ c.loop-rest.first c.earlier-first.result
          c.as_slice-cells.ensures (omega (arith, low, c.loop-rest-test.true)) c.earlier-first.ensures c.requires c.loop-rest.invariant.inside;
    }
