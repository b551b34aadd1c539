use Rattle.std.proofs.Common.{List, length, ap, arith}
use Rattle.fitter.proofs.Common.{CellWanted, arena}
use Rattle.fitter.proofs.FirstNames.{better_among, so_far_all, so_far_more}
use Rattle.fitter.proofs.sharing.first_with.Goals as goal

pub loop-wanted-preserved : goal.loop-wanted-preserved
loop-wanted-preserved c = record {
  so_far = so_far_more (arena c.args.net.now.exprs) c.args.which c.args.net.now.cells c.as_slice-wanted-items.result.now c.loop-wanted.best c.better-best.result c.loop-wanted.wanted-index _
      c.as_slice-wanted-items.ensures c.loop-wanted-test.true c.better-best.ensures c.loop-wanted.invariant.so_far;
  among = better_among c.args.which c.args.net.now.cells c.as_slice-wanted-items.result.now c.loop-wanted.best c.better-best.result c.loop-wanted.wanted-index _
      c.as_slice-wanted-items.ensures c.loop-wanted-test.true c.better-best.ensures c.loop-wanted.invariant.among;
}

pub returns-clause-first : goal.returns-clause-first
returns-clause-first c =
    so_far_all (arena c.args.net.now.exprs) c.args.which c.args.net.now.cells c.loop-wanted.best c.loop-wanted.wanted-index
    (omega (arith, c.loop-wanted-test.false, ap (λ (ws : List CellWanted). length ws) c.as_slice-wanted-items.ensures)) c.loop-wanted.invariant.so_far
